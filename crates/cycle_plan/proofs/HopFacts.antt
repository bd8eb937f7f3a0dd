-- Inputs and hops.
use Rattle.std.proofs.Common.{◌≡◌, ℕ, ◌/◌, ◌<◌, zero, suc, Bool, true, false, not, ◌&&◌, nat_eq, List, [], ◌∷◌, ◌++◌, length, map, Some, None, refl, sym, ap, ◌∙◌, inl, inr, arith, zero-add}
use Rattle.std.specs.Prelude.{◌≢◌, ◌+◌, ◌==◌, slice_get, if◌then◌else◌}
use Rattle.std.specs.Cmp.Derive.{both_true}
use Rattle.std.specs.Option.{option_and_then}
use Rattle.std.proofs.Math.Bool.{and-false}
use Rattle.std.proofs.lemmas.Bool.{and_parts, cases_lt, eqb-true, eqb-false, eq-eqb, ne_eqb, not-true, not_from_false, true≢false}
use Rattle.std.proofs.lemmas.Option.{none-some, slice_get_cases, slice_get_past}
use Rattle.sync_topo.specs.Topology.{Topology}
use Rattle.sync_topo.specs.declared.link.Link.{Link}
use Rattle.sync_topo.specs.WellFormed.{IsWellFormed}
use Rattle.sync_topo.specs.Lines.{line_count, is_nominated, IsNominated, receiver_of, sender_of, ends_at_b, lines_into, sources_at, line_input, inputs_of}
use Rattle.sync_topo.proofs.LineLaws.{IsNominated-within}
use Rattle.sync_topo.specs.declared.input.InputId.{InputId}
use Rattle.sync_topo.specs.declared.input.InputId.TheVariants.{Source}
use Rattle.sync_topo.specs.declared.returns.ReturnRule.{ReturnRule}
use Rattle.sync_topo.specs.declared.returns.ReturnRule.TheVariants.{Barred, Allowed, BarredFromLast}
use Rattle.sync_topo.specs.Bundles.{line_bundle, are_bundled}
use Rattle.sync_topo.specs.Hops.{hops_any, is_last_resort, HopsBy}
use Rattle.sync_topo.proofs.HopLaws.{hop-meets, hop-any-from}
use Rattle.sync_topo.proofs.KeptNumbers.{kept_in_range, kept_passes, kept_rises}
use Rattle.cycle_plan.specs.private.Numbers.{number_in, number_out}
use Rattle.cycle_plan.specs.private.Inputs.{line_of, line_at}

-- the lines among inputs are those in front
lines_in_front : (lines sources : List ℕ) (place : ℕ) → line_at (map line_input lines ++ map Source sources) place ≡ slice_get lines place
lines_in_front [] sources place = no_lines sources place
  where
    no_lines : (sources : List ℕ) (place : ℕ) → line_at (map Source sources) place ≡ None
    no_lines [] place = refl
    no_lines (source ∷ sources) zero = refl
    no_lines (source ∷ sources) (suc place) = no_lines sources place
lines_in_front (line ∷ lines) sources zero = refl
lines_in_front (line ∷ lines) sources (suc place) = lines_in_front lines sources place

line_of_input : (plan : Topology) (element place : ℕ) → line_at (inputs_of plan element) place ≡ slice_get (lines_into plan element) place
line_of_input plan element place = lines_in_front (lines_into plan element) (sources_at plan element) place

-- inputs stand in order of number
abbrev pub AreRising : List InputId → Type 0
AreRising inputs = (i j k l : ℕ) → i < j → line_at inputs i ≡ Some k → line_at inputs j ≡ Some l → k < l

-- those of an element do
pub inputs_rise : (plan : Topology) (element : ℕ) → AreRising (inputs_of plan element)
inputs_rise plan element i j k l less here there =
    kept_rises (λ line. is_nominated plan line && nat_eq (receiver_of plan line) element) 0 (line_count plan) i j k l less
    (sym (line_of_input plan element i) ∙ here) (sym (line_of_input plan element j) ∙ there)

-- each nominated line into an element is one of its inputs
pub input_place : (plan : Topology) (element line : ℕ) → IsNominated plan line → receiver_of plan line ≡ element
    → (place : ℕ) × (line_at (inputs_of plan element) place ≡ Some line)
input_place plan element line nominated into =
    let at = kept_in_range (λ line. is_nominated plan line && nat_eq (receiver_of plan line) element) 0 (line_count plan) line
    (both_true {s = is_nominated plan line} {t = nat_eq (receiver_of plan line) element} nominated (eq-eqb _ _ into))
    (omega arith) (rw zero-add (IsNominated-within plan line nominated)) in
    (at.0, line_of_input plan element at.0 ∙ at.1)

-- an input that is a line is a nominated line into the element
pub input_is : (plan : Topology) (element place line : ℕ) → line_at (inputs_of plan element) place ≡ Some line
    → IsNominated plan line × (receiver_of plan line ≡ element)
input_is plan element place line here =
    let passes = kept_passes (λ line. is_nominated plan line && nat_eq (receiver_of plan line) element) 0 (line_count plan) place line (sym (line_of_input plan element place) ∙ here) in
    let parts = and_parts (is_nominated plan line) (nat_eq (receiver_of plan line) element) passes.0 in
    (parts.0, eqb-true _ _ parts.1)

-- a line stands inside the list
pub line_at_within : (inputs : List InputId) (place line : ℕ) → line_at inputs place ≡ Some line → place < length inputs
line_at_within inputs place line here = elim (cases_lt place (length inputs)) [
  | inl inside ↦ inside
  | inr past ↦
      let none : line_at inputs place ≡ None = ap (λ o. option_and_then line_of o) (slice_get_past inputs place past) in
      absurd (none-some line (sym none ∙ here))
]

-- where returns are barred from a last resort alone
last_apart : (last : Bool) (one other : ℕ) → not (one == other && last) ≡ true → (if last then one + 1 else 0) ≢ other + 1
last_apart true one other over same =
    let one_is : (one == other) ≡ true = eq-eqb one other (omega (arith, same)) in
    absurd (true≢false (sym (both_true {s = one == other} {t = true} one_is refl) ∙ not-true (one == other && true) over))
last_apart false one other over same = absurd (omega (arith, same))

last_by : (last : Bool) (one other : ℕ) → (if last then one + 1 else 0) ≢ other + 1 → not (one == other && last) ≡ true
last_by true one other differ = rw (ne_eqb one other (λ same. differ (ap (λ n. n + 1) same))) refl
last_by false one other differ = not_from_false (one == other && false) (and-false (one == other))

-- what a hop says
pub hop_parts : (returns : ReturnRule) (plan : Topology) (line next : ℕ) → HopsBy returns plan line next
    → IsNominated plan line × IsNominated plan next × (receiver_of plan line ≡ sender_of plan next) × (number_in returns plan line ≢ number_out returns plan next)
hop_parts returns plan line next hop =
    let meets = hop-meets returns plan line next hop in (meets.from, meets.to, meets.joined, apart returns hop)
  where
    apart : (rule : ReturnRule) → HopsBy rule plan line next → number_in rule plan line ≢ number_out rule plan next
    apart Barred over =
        let ends = and_parts (is_nominated plan line && is_nominated plan next && nat_eq (receiver_of plan line) (sender_of plan next)) (not (are_bundled plan line next)) over in
        eqb-false _ _ (not-true (line_bundle plan line == line_bundle plan next) ends.1)
    apart Allowed over = λ same. absurd (omega (arith, same))
    apart BarredFromLast over =
        last_apart (is_last_resort plan line) (line_bundle plan line) (line_bundle plan next)
        (and_parts (hops_any plan line next) (not (are_bundled plan line next && is_last_resort plan line)) over).1

pub hop_from : (returns : ReturnRule) (plan : Topology) (line next : ℕ) → IsNominated plan line → IsNominated plan next → receiver_of plan line ≡ sender_of plan next
    → number_in returns plan line ≢ number_out returns plan next → HopsBy returns plan line next
hop_from returns plan line next nominated next_nominated meets apart = by returns apart
  where
    meet : hops_any plan line next ≡ true
    meet = hop-any-from plan line next nominated next_nominated meets

    by : (rule : ReturnRule) → number_in rule plan line ≢ number_out rule plan next → HopsBy rule plan line next
    by Barred differ =
        both_true {s = hops_any plan line next} {t = not (are_bundled plan line next)}
        meet (not_from_false (line_bundle plan line == line_bundle plan next) (ne_eqb _ _ differ))
    by Allowed differ = meet
    by BarredFromLast differ =
        both_true {s = hops_any plan line next} {t = not (are_bundled plan line next && is_last_resort plan line)}
        meet (last_by (is_last_resort plan line) (line_bundle plan line) (line_bundle plan next) differ)

-- a line doesn't begin where it ends
pub ends_apart : (plan : Topology) (line : ℕ) → IsWellFormed plan → line < line_count plan → sender_of plan line ≢ receiver_of plan line
ends_apart plan line well within = elim (slice_get_cases plan.links (line / 2)).1 [
  | inl found ↦ rw found.2 (two found.0 (well.links_join (line / 2) found.0 found.2).apart (ends_at_b line))
  | inr past ↦ absurd (omega (arith, past.0, within))
]
  where
    two : (link : Link) → link.a ≢ link.b → (b : Bool) → (if b then link.a else link.b) ≢ (if b then link.b else link.a)
    two link apart true same = apart same
    two link apart false same = apart (sym same)
