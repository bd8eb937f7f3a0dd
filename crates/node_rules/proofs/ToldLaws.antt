-- What an element isn't told says nothing of its inputs, of the lines out of it or to it.
use Rattle.std.proofs.Common.{◌≡◌, ◌+◌, ◌*◌, ◌/◌, ◌%◌, ◌⊎◌, ℕ, Bool, true, false, ◌||◌, get_or, Option, None, Some, option_map, refl, ap, sym, subst, ◌∙◌, inl, inr, arith}
use Rattle.std.specs.Prelude.{nat_eq, if◌then◌else◌}
use Rattle.std.specs.Cmp.Derive.{both_true}
use Rattle.std.proofs.lemmas.Bool.{true≢false, eqb-true, eq-eqb, ne_eqb, or_parts}
use Rattle.std.proofs.lemmas.Bool.Decides.{eqb_tells}
use Rattle.std.proofs.lemmas.List.Quantifiers.{position-Some}
use Rattle.std.proofs.lemmas.Option.{slice_get-get_or}
use Rattle.sync_text.proofs.Tests.{or-second}
use Rattle.sync_text.proofs.Each.{each-at}
use Rattle.sync_ql.specs.declared.rules.Cmd.TheVariants as command
use Rattle.sync_topo.specs.declared.input.InputId.{InputId}
use Rattle.sync_topo.specs.declared.input.InputId.TheVariants.{Line, Source}
use Rattle.sync_topo.specs.declared.event.Part.{Part}
use Rattle.sync_topo.specs.declared.event.Part.TheVariants as part
use Rattle.sync_topo.specs.declared.event.What.{What}
use Rattle.sync_topo.specs.declared.event.What.TheVariants.{Down, Up, EsmcOff, EsmcOn, SourceLevel, Lockout, Unlock, Forced, Manual, Clear, ClearWtr}
use Rattle.sync_topo.specs.Topology.{Topology}
use Rattle.sync_topo.specs.Lines.{line_input, ends_at_b, sender_of, receiver_of, is_nominated_input, inputs_of, is_same_input, place_at}
use Rattle.net_rules.specs.Signals.{is_of_part, says_up, says_esmc, says_level, clears, command_to}
use Rattle.net_rules.specs.Inputs.{IsInputOf}
use Rattle.net_rules.specs.Activity.{is_at, is_part_at}
use Rattle.net_rules.proofs.InputLaws.{inputs-are}
use Rattle.net_rules.proofs.TouchLaws.{input-is_at, up-silent, level-silent, if_none, not_here}
use Rattle.node_rules.specs.FromNetwork.{is_part_out, is_input_at, is_told_to}

-- ---- the two lines of a link

-- the line that leads back on a link begins where the other ends
pub even-sender : (plan : Topology) (link : ℕ) → receiver_of plan (2 * link + 1) ≡ sender_of plan (2 * link)
even-sender plan link =
    let half : (2 * link + 1) / 2 ≡ 2 * link / 2 = omega arith in
    let odd : ends_at_b (2 * link + 1) ≡ false = ne_eqb ((2 * link + 1) % 2) 0 (omega arith) in
    let even : ends_at_b (2 * link) ≡ true = eq-eqb (2 * link % 2) 0 (omega arith) in
    rw (half, odd, even) refl

pub odd-sender : (plan : Topology) (link : ℕ) → receiver_of plan (2 * link) ≡ sender_of plan (2 * link + 1)
odd-sender plan link =
    let half : (2 * link + 1) / 2 ≡ 2 * link / 2 = omega arith in
    let odd : ends_at_b (2 * link + 1) ≡ false = ne_eqb ((2 * link + 1) % 2) 0 (omega arith) in
    let even : ends_at_b (2 * link) ≡ true = eq-eqb (2 * link % 2) 0 (omega arith) in
    rw (half, odd, even) refl

pub halves : (n k : ℕ) → n / 2 ≡ k → (n ≡ 2 * k) ⊎ (n ≡ 2 * k + 1)
halves n k half = elim (eqb_tells n (2 * k)) [
  | inl even ↦ inl even.1
  | inr odd ↦ inr (omega (arith, half, odd.1))
]

-- an input that is of a link is of one of its lines
pub of-lines : (input : InputId) (link : ℕ) → is_of_part input (part.Link link) ≡ (is_of_part input (part.Line (record { 0 = 2 * link })) || is_of_part input (part.Line (record { 0 = 2 * link + 1 })))
of-lines (Source source) link = refl
of-lines (Line line) link = by (nat_eq (line.0 / 2) link) (nat_eq line.0 (2 * link)) (nat_eq line.0 (2 * link + 1)) refl refl refl
  where
    by : (half even odd : Bool) → nat_eq (line.0 / 2) link ≡ half → nat_eq line.0 (2 * link) ≡ even → nat_eq line.0 (2 * link + 1) ≡ odd → half ≡ (even || odd)
    by true true odd is at other = refl
    by true false true is at other = refl
    by false false false is at other = refl
    by true false false is at other = elim (halves line.0 link (eqb-true (line.0 / 2) link is)) [
      | inl same ↦ absurd (true≢false (sym (eq-eqb line.0 (2 * link) same) ∙ at))
      | inr same ↦ absurd (true≢false (sym (eq-eqb line.0 (2 * link + 1) same) ∙ other))
    ]
    by false true odd is at other =
        let same : line.0 ≡ 2 * link = eqb-true line.0 (2 * link) at in
        absurd (true≢false (sym (eq-eqb (line.0 / 2) link (omega (arith, same))) ∙ is))
    by false false true is at other =
        let same : line.0 ≡ 2 * link + 1 = eqb-true line.0 (2 * link + 1) other in
        absurd (true≢false (sym (eq-eqb (line.0 / 2) link (omega (arith, same))) ∙ is))

or_first : (a b : Bool) → ((a || b) || false) ≡ true → (a || b) ≡ true
or_first true b is = refl
or_first false true is = refl
or_first false false is = is

or_turned : (a b : Bool) → (a || b) ≡ true → (b || a) ≡ true
or_turned true true is = refl
or_turned true false is = refl
or_turned false true is = refl
or_turned false false is = is

-- what is told of a link is told of each of its lines
pub even-told : (plan : Topology) (element link : ℕ) → ((nat_eq (receiver_of plan (2 * link)) element || nat_eq (receiver_of plan (2 * link + 1)) element) || false) ≡ true
    → (nat_eq (receiver_of plan (2 * link)) element || nat_eq (sender_of plan (2 * link)) element) ≡ true
even-told plan element link is =
    subst (λ s. (nat_eq (receiver_of plan (2 * link)) element || nat_eq s element) ≡ true) (even-sender plan link)
    (or_first (nat_eq (receiver_of plan (2 * link)) element) (nat_eq (receiver_of plan (2 * link + 1)) element) is)

pub odd-told : (plan : Topology) (element link : ℕ) → ((nat_eq (receiver_of plan (2 * link)) element || nat_eq (receiver_of plan (2 * link + 1)) element) || false) ≡ true
    → (nat_eq (receiver_of plan (2 * link + 1)) element || nat_eq (sender_of plan (2 * link + 1)) element) ≡ true
odd-told plan element link is =
    subst (λ s. (nat_eq (receiver_of plan (2 * link + 1)) element || nat_eq s element) ≡ true) (odd-sender plan link)
    (or_turned (nat_eq (receiver_of plan (2 * link)) element) (nat_eq (receiver_of plan (2 * link + 1)) element)
    (or_first (nat_eq (receiver_of plan (2 * link)) element) (nat_eq (receiver_of plan (2 * link + 1)) element) is))

-- ---- what isn't told is silent

pub up-untold : (plan : Topology) (input : InputId) (element : ℕ) → IsInputOf plan element input → (what : What) → is_told_to plan element what ≡ false → says_up input what ≡ None
up-untold plan input element of (Down p) none = up-silent plan input element of (Down p) (or_parts (is_part_at plan element p) (is_part_out plan element p) none).0
up-untold plan input element of (Up p) none = up-silent plan input element of (Up p) (or_parts (is_part_at plan element p) (is_part_out plan element p) none).0
up-untold plan input element of (EsmcOff line) none = refl
up-untold plan input element of (EsmcOn line) none = refl
up-untold plan input element of (SourceLevel source level) none = refl
up-untold plan input element of (Lockout other) none = refl
up-untold plan input element of (Unlock other) none = refl
up-untold plan input element of (Forced other) none = refl
up-untold plan input element of (Manual other) none = refl
up-untold plan input element of (Clear other) none = refl
up-untold plan input element of (ClearWtr other) none = refl

-- a part that a line out of an element is of is told
part-told : (plan : Topology) (line element : ℕ) → sender_of plan line ≡ element → (p : Part) → is_of_part (line_input line) p ≡ true → (is_part_at plan element p || is_part_out plan element p) ≡ true
part-told plan line element from (part.Line other) is =
    or-second (is_at plan element (Line other)) (nat_eq (sender_of plan other.0) element) (eq-eqb (sender_of plan other.0) element (ap (sender_of plan) (sym (eqb-true line other.0 is)) ∙ from))
part-told plan line element from (part.Source source) is = cc
part-told plan line element from (part.Link link) is = elim (halves line link (eqb-true (line / 2) link is)) [
  | inl even ↦
      let there : nat_eq (receiver_of plan (2 * link + 1)) element ≡ true = eq-eqb (receiver_of plan (2 * link + 1)) element (even-sender plan link ∙ ap (sender_of plan) (sym even) ∙ from) in
      rw (or-second (nat_eq (receiver_of plan (2 * link)) element) (nat_eq (receiver_of plan (2 * link + 1)) element) there) refl
  | inr odd ↦
      let there : nat_eq (receiver_of plan (2 * link)) element ≡ true = eq-eqb (receiver_of plan (2 * link)) element (odd-sender plan link ∙ ap (sender_of plan) (sym odd) ∙ from) in
      rw there refl
]

pub out-untold : (plan : Topology) (line element : ℕ) → sender_of plan line ≡ element → (what : What) → is_told_to plan element what ≡ false → says_up (line_input line) what ≡ None
out-untold plan line element from (Down p) none =
    if_none (is_of_part (line_input line) p) false (not_here (is_of_part (line_input line) p) (is_part_at plan element p || is_part_out plan element p) (part-told plan line element from p) none)
out-untold plan line element from (Up p) none =
    if_none (is_of_part (line_input line) p) true (not_here (is_of_part (line_input line) p) (is_part_at plan element p || is_part_out plan element p) (part-told plan line element from p) none)
out-untold plan line element from (EsmcOff other) none = refl
out-untold plan line element from (EsmcOn other) none = refl
out-untold plan line element from (SourceLevel source level) none = refl
out-untold plan line element from (Lockout other) none = refl
out-untold plan line element from (Unlock other) none = refl
out-untold plan line element from (Forced other) none = refl
out-untold plan line element from (Manual other) none = refl
out-untold plan line element from (Clear other) none = refl
out-untold plan line element from (ClearWtr other) none = refl

pub esmc-untold : (plan : Topology) (line element : ℕ) → sender_of plan line ≡ element → (what : What) → is_told_to plan element what ≡ false → says_esmc line what ≡ None
esmc-untold plan line element from (EsmcOff other) none =
    if_none (nat_eq line other.0) false (not_here (nat_eq line other.0) (nat_eq (sender_of plan other.0) element) (λ is. eq-eqb (sender_of plan other.0) element (ap (sender_of plan) (sym (eqb-true line other.0 is)) ∙ from)) none)
esmc-untold plan line element from (EsmcOn other) none =
    if_none (nat_eq line other.0) true (not_here (nat_eq line other.0) (nat_eq (sender_of plan other.0) element) (λ is. eq-eqb (sender_of plan other.0) element (ap (sender_of plan) (sym (eqb-true line other.0 is)) ∙ from)) none)
esmc-untold plan line element from (Down p) none = refl
esmc-untold plan line element from (Up p) none = refl
esmc-untold plan line element from (SourceLevel source level) none = refl
esmc-untold plan line element from (Lockout other) none = refl
esmc-untold plan line element from (Unlock other) none = refl
esmc-untold plan line element from (Forced other) none = refl
esmc-untold plan line element from (Manual other) none = refl
esmc-untold plan line element from (Clear other) none = refl
esmc-untold plan line element from (ClearWtr other) none = refl

pub level-untold : (plan : Topology) (source element : ℕ) → IsInputOf plan element (Source source) → (what : What) → is_told_to plan element what ≡ false → says_level source what ≡ None
level-untold plan source element of (SourceLevel other level) none = level-silent plan source element of (SourceLevel other level) none
level-untold plan source element of (Down p) none = refl
level-untold plan source element of (Up p) none = refl
level-untold plan source element of (EsmcOff line) none = refl
level-untold plan source element of (EsmcOn line) none = refl
level-untold plan source element of (Lockout other) none = refl
level-untold plan source element of (Unlock other) none = refl
level-untold plan source element of (Forced other) none = refl
level-untold plan source element of (Manual other) none = refl
level-untold plan source element of (Clear other) none = refl
level-untold plan source element of (ClearWtr other) none = refl

-- of two inputs that are the same the one is an input of an element where the other is
same-is_input : (plan : Topology) (element : ℕ) (input other : InputId) → is_same_input input other ≡ true → is_input_at plan element other ≡ is_input_at plan element input
same-is_input plan element (Line line) (Line other) is = ap (λ l. is_input_at plan element (line_input l)) (sym (eqb-true line.0 other.0 is))
same-is_input plan element (Source source) (Source other) is = ap (λ s. is_input_at plan element (Source s)) (sym (eqb-true source other is))
same-is_input plan element (Line line) (Source other) is = cc
same-is_input plan element (Source source) (Line other) is = cc

is-input : (plan : Topology) (element : ℕ) (input : InputId) → IsInputOf plan element input → is_input_at plan element input ≡ true
is-input plan element input of = both_true {s = is_nominated_input plan input} {t = is_at plan element input} of.nominated (input-is_at plan element input of)

pub clear-untold : (plan : Topology) (input : InputId) (element : ℕ) → IsInputOf plan element input → (what : What) → is_told_to plan element what ≡ false → clears input what ≡ false
clear-untold plan input element of (ClearWtr other) none =
    not_here (is_same_input input other) (is_input_at plan element other) (λ is. same-is_input plan element input other is ∙ is-input plan element input of) none
clear-untold plan input element of (Down p) none = refl
clear-untold plan input element of (Up p) none = refl
clear-untold plan input element of (EsmcOff line) none = refl
clear-untold plan input element of (EsmcOn line) none = refl
clear-untold plan input element of (SourceLevel source level) none = refl
clear-untold plan input element of (Lockout other) none = refl
clear-untold plan input element of (Unlock other) none = refl
clear-untold plan input element of (Forced other) none = refl
clear-untold plan input element of (Manual other) none = refl
clear-untold plan input element of (Clear other) none = refl

-- what is no input of an element has no place among its inputs
no-place : (plan : Topology) (element : ℕ) (input : InputId) → is_input_at plan element input ≡ false → place_at plan element input ≡ None
no-place plan element input other = of (place_at plan element input) refl
  where
    of : (o : Option ℕ) → place_at plan element input ≡ o → o ≡ None
    of None is = refl
    of (Some i) is =
        let found = position-Some (is_same_input input) (inputs_of plan element) i input is in
        let own = each-at (IsInputOf plan element) (inputs_of plan element) i (get_or (inputs_of plan element) i input) (inputs-are plan element)
        (slice_get-get_or (inputs_of plan element) i input found.0) in
        let here : is_input_at plan element input ≡ true =
        sym (same-is_input plan element input (get_or (inputs_of plan element) i input) found.1) ∙ is-input plan element (get_or (inputs_of plan element) i input) own in
        absurd (true≢false (sym here ∙ other))

pub command-untold : (plan : Topology) (element : ℕ) (what : What) → is_told_to plan element what ≡ false → command_to plan element what ≡ None
command-untold plan element (Lockout input) none = ap (option_map command.Lockout) (no-place plan element input none)
command-untold plan element (Unlock input) none = ap (option_map command.Unlock) (no-place plan element input none)
command-untold plan element (Forced input) none = ap (option_map command.Forced) (no-place plan element input none)
command-untold plan element (Manual input) none = ap (option_map command.Manual) (no-place plan element input none)
command-untold plan element (Clear other) none = if_none (nat_eq element other) command.Clear (not_here (nat_eq element other) (nat_eq other element) (λ is. eq-eqb other element (sym (eqb-true element other is))) none)
command-untold plan element (Down p) none = refl
command-untold plan element (Up p) none = refl
command-untold plan element (EsmcOff line) none = refl
command-untold plan element (EsmcOn line) none = refl
command-untold plan element (SourceLevel source level) none = refl
command-untold plan element (ClearWtr other) none = refl
