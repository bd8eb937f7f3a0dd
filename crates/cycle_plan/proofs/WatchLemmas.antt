-- The first open input of an element, and the first open one of another bundle.
use Rattle.std.proofs.Common.{◌≡◌, ℕ, ◌+◌, ◌<◌, ◌≤◌, Bool, true, false, not, nat_eq, List, length, Option, Some, None, refl, sym, ap, subst, ◌∙◌, inl, inr, arith}
use Rattle.std.specs.Prelude.{◌≢◌, ◌⊎◌, ◌&&◌, is_none}
use Rattle.std.specs.Option.{option_map_or}
use Rattle.std.proofs.lemmas.Bool.{true≢false, cases_lt, cases_eq, and_parts, eqb-false, not-true, ne_eqb}
use Rattle.std.proofs.lemmas.Option.{same_Some}
use Rattle.rank_cert.proofs.RuleLaws.{is_none-of}
use Rattle.sync_topo.specs.Topology.{Topology}
use Rattle.rank_cert.specs.Ranks.{Ranks, rank_at}
use Rattle.sync_topo.specs.declared.input.InputId.{InputId}
use Rattle.sync_topo.specs.declared.returns.ReturnRule.{ReturnRule}
use Rattle.cycle_plan.specs.private.Numbers.{number_in}
use Rattle.cycle_plan.specs.private.Inputs.{line_at, is_open, is_of_another, IsOpenLine, AreOpenInputs, AreFirstOpen}
use Rattle.cycle_plan.specs.declared.inputs.OpenInputs.{OpenInputs}
use Rattle.cycle_plan.proofs.HopFacts.{line_at_within}

-- an open input is a line without a rank
pub open_line : (ranks : Ranks) (inputs : List InputId) (place : ℕ) → is_open ranks inputs place ≡ true → (line : ℕ) × IsOpenLine ranks inputs place line
open_line ranks inputs place is_it = cases (line_at inputs place) refl is_it
  where
    cases : (o : Option ℕ) → line_at inputs place ≡ o → option_map_or (λ line. is_none (rank_at ranks line)) o false ≡ true
        → (line : ℕ) × IsOpenLine ranks inputs place line
    cases None at e = absurd (true≢false (sym e))
    cases (Some line) at e = (line, record { here = at; unranked = is_none-of (rank_at ranks line) e })

-- the line that stands at an open place has no rank
pub line_at_open : (ranks : Ranks) (inputs : List InputId) (place line : ℕ) → line_at inputs place ≡ Some line → is_open ranks inputs place ≡ true
    → IsOpenLine ranks inputs place line
line_at_open ranks inputs place line here is_it =
    let found = open_line ranks inputs place is_it in
    subst (λ l. IsOpenLine ranks inputs place l) (same_Some found.0 line (sym found.1.here ∙ here)) found.1

-- a line without a rank is open
pub line_open : (ranks : Ranks) (inputs : List InputId) (place line : ℕ) → IsOpenLine ranks inputs place line → is_open ranks inputs place ≡ true
line_open ranks inputs place line stands = rw (stands.here, stands.unranked) refl

-- what is closed is no such line
pub closed_line : (ranks : Ranks) (inputs : List InputId) (place line : ℕ) → is_open ranks inputs place ≡ false → IsOpenLine ranks inputs place line → ⊥
closed_line ranks inputs place line closed stands = true≢false (sym (line_open ranks inputs place line stands) ∙ closed)

-- an open input that isn't of another bundle is of this one
same_bundle : (returns : ReturnRule) (plan : Topology) (ranks : Ranks) (inputs : List InputId) (bundle place line : ℕ) → is_of_another returns plan ranks inputs bundle place ≡ false
    → IsOpenLine ranks inputs place line → number_in returns plan line ≡ bundle
same_bundle returns plan ranks inputs bundle place line never stands = elim (cases_eq (number_in returns plan line) bundle) [
  | inl same ↦ same
  | inr apart ↦
      let other : is_of_another returns plan ranks inputs bundle place ≡ true = rw (stands.here, stands.unranked, ne_eqb _ _ apart) refl in
      absurd (true≢false (sym other ∙ never))
]

-- an open input of another bundle
other_line : (returns : ReturnRule) (plan : Topology) (ranks : Ranks) (inputs : List InputId) (bundle place : ℕ) → is_of_another returns plan ranks inputs bundle place ≡ true
    → (line : ℕ) × IsOpenLine ranks inputs place line × (number_in returns plan line ≢ bundle)
other_line returns plan ranks inputs bundle place is_it = cases (line_at inputs place) refl is_it
  where
    cases : (o : Option ℕ) → line_at inputs place ≡ o
        → option_map_or (λ line. is_none (rank_at ranks line) && not (nat_eq (number_in returns plan line) bundle)) o false ≡ true
        → (line : ℕ) × IsOpenLine ranks inputs place line × (number_in returns plan line ≢ bundle)
    cases None at e = absurd (true≢false (sym e))
    cases (Some line) at e =
        let parts = and_parts (is_none (rank_at ranks line)) (not (nat_eq (number_in returns plan line) bundle)) e in
        (line, record { here = at; unranked = is_none-of (rank_at ranks line) parts.0 }, eqb-false _ _ (not-true _ parts.1))

-- where no line stands, though an open one would stand there inside the list, the list has ended
pub past_end : (ranks : Ranks) (inputs : List InputId) (place : ℕ) → (place < length inputs → is_open ranks inputs place ≡ true) → line_at inputs place ≡ None
    → length inputs ≤ place
past_end ranks inputs place holds none = elim (cases_lt place (length inputs)) [
  | inl inside ↦
      let closed : is_open ranks inputs place ≡ false = rw none refl in
      absurd (true≢false (sym (holds inside) ∙ closed))
  | inr past ↦ past
]

-- what a search for the next open place finds, from this one on
pub record IsNextOpen (ranks : Ranks) (inputs : List InputId) (from found : ℕ) : Type 0 where
  pub within : found ≤ length inputs
  pub behind : from ≤ found
  pub closed : (place : ℕ) → from ≤ place → place < found → is_open ranks inputs place ≡ false
  pub open_there : found < length inputs → is_open ranks inputs found ≡ true

-- no place before the next open one is open
closed_before : (returns : ReturnRule) (plan : Topology) (ranks : Ranks) (inputs : List InputId) (watch : OpenInputs) (first : ℕ) → AreOpenInputs returns plan ranks inputs watch
    → IsNextOpen ranks inputs watch.first first → (place : ℕ) → place < first → is_open ranks inputs place ≡ false
closed_before returns plan ranks inputs watch first was next place low = elim (cases_lt place watch.first) [
  | inl before ↦ was.before place before
  | inr not_before ↦ next.closed place not_before low
]

-- what a search for the next open place of another bundle finds
pub record IsNextOther (returns : ReturnRule) (plan : Topology) (ranks : Ranks) (inputs : List InputId) (bundle from found : ℕ) : Type 0 where
  pub within : found ≤ length inputs
  pub behind : found < length inputs → from ≤ found
  pub closed : (place : ℕ) → from ≤ place → place < found → is_of_another returns plan ranks inputs bundle place ≡ false
  pub other_there : found < length inputs → is_of_another returns plan ranks inputs bundle found ≡ true

-- each open place from the first up to the second is of the first's bundle
near : (returns : ReturnRule) (plan : Topology) (ranks : Ranks) (inputs : List InputId) (watch : OpenInputs) (first second from line : ℕ) → AreOpenInputs returns plan ranks inputs watch
    → watch.first ≤ first → IsOpenLine ranks inputs first line → IsNextOther returns plan ranks inputs (number_in returns plan line) from second
    → first < from → (watch.second ≤ from) → ((watch.second ≡ from) ⊎ (from ≡ first + 1))
    → (place other : ℕ) → first ≤ place → place < second → IsOpenLine ranks inputs place other → number_in returns plan other ≡ number_in returns plan line
near returns plan ranks inputs watch first second from line was low here next after bound is place other not_before before there = elim (cases_lt place from) [
  | inr behind ↦ same_bundle returns plan ranks inputs (number_in returns plan line) place other (next.closed place behind before) there
  | inl in_front ↦ elim (cases_eq place first) [
    | inl same ↦
        let lines : other ≡ line = same_Some other line (sym there.here ∙ ap (λ p. line_at inputs p) same ∙ here.here) in
        ap (λ l. number_in returns plan l) lines
    | inr differs ↦ elim is [
      | inl old ↦ was.between place first other line (omega (arith, low, not_before)) (omega (arith, old, in_front)) low (omega (arith, old, after)) there here
      | inr new ↦ absurd (omega (arith, new, in_front, not_before, differs))
    ]
  ]
]

-- the first open place, and the first open one of another bundle
pub AreFirstOpen-other : (returns : ReturnRule) (plan : Topology) (ranks : Ranks) (inputs : List InputId) (watch : OpenInputs) (first second from line : ℕ) (back done : Bool)
    → AreOpenInputs returns plan ranks inputs watch → IsNextOpen ranks inputs watch.first first → line_at inputs first ≡ Some line → first < length inputs
    → IsNextOther returns plan ranks inputs (number_in returns plan line) from second → first < from → (watch.second ≤ from) → ((watch.second ≡ from) ⊎ (from ≡ first + 1))
    → AreFirstOpen returns plan ranks inputs (record { first = first; second = second; back = back; done = done })
AreFirstOpen-other returns plan ranks inputs watch first second from line back done was next at inside other after bound is =
    let found = open_line ranks inputs first (next.open_there inside) in
    let same : found.0 ≡ line = same_Some found.0 line (sym found.1.here ∙ at) in
    let here : IsOpenLine ranks inputs first line = subst (λ l. IsOpenLine ranks inputs first l) same found.1 in
    let one = near returns plan ranks inputs watch first second from line was next.behind here other after bound is in
    record {
      watched = record {
        first_within = next.within;
        second_within = other.within;
        before = closed_before returns plan ranks inputs watch first was next;
        between = λ place later there after_it from_first low later_from later_low stands also.
            one place there from_first low stands ∙ sym (one later after_it later_from later_low also);
      };
      first = next.open_there;
      second = λ second_inside.
          let there = other_line returns plan ranks inputs (number_in returns plan line) second (other.other_there second_inside) in
          line_open ranks inputs second there.0 there.1;
      apart = λ second_inside. omega (arith, other.behind second_inside, after);
      differ = λ one_line other_line_there first_is second_is bundles.
          let second_inside = line_at_within inputs second other_line_there second_is in
          let there = other_line returns plan ranks inputs (number_in returns plan line) second (other.other_there second_inside) in
          let ones : one_line ≡ line = same_Some one_line line (sym first_is ∙ at) in
          let others : there.0 ≡ other_line_there = same_Some there.0 other_line_there (sym there.1.here ∙ second_is) in
          there.2 (ap (λ l. number_in returns plan l) others ∙ sym bundles ∙ ap (λ l. number_in returns plan l) ones);
    }
