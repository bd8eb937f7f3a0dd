-- An input may be taken exactly where its verdict says so, and verdicts by the words of a network.
use Rattle.std.proofs.Common.{◌≡◌, ◌<◌, ℕ, suc, Bool, true, false, not, ◌&&◌, List, ◌∷◌, length, Option, None, Some, IfSome, slice_get, refl, ap, sym, subst, ◌∙◌, zero-add, inl, inr, arith}
use Rattle.std.specs.Prelude.{◌↔◌, IsTrue, nat_eq, if◌then◌else◌, option_and_then}
use Rattle.std.proofs.lemmas.Bool.{true≢false, eqb-true, eq-eqb, lt-ltb}
use Rattle.std.proofs.lemmas.Bool.Decides.{eqb_tells}
use Rattle.std.proofs.lemmas.List.FromFn.{get_or-map-range_with_len}
use Rattle.std.proofs.lemmas.Option.{slice_get_cases, same_Some}
use Rattle.sync_ql.specs.declared.levels.Level.{Level}
use Rattle.sync_ql.specs.Condition.{failed_at}
use Rattle.sync_ql.specs.Switches.{Switches, is_locked}
use Rattle.sync_ql.specs.Selection.{candidate, is_eligible, is_above_do_not_use, is_better, IsEligible}
use Rattle.sync_ql.specs.Moment.{Moment, Settings, signals_of, level_now, usable_at, candidates_at, switches_at, selection_at}
use Rattle.sync_ql.specs.Taken.{MayBeTaken}
use Rattle.sync_ql.proofs.Eligible.{nobody}
use Rattle.sync_ql.proofs.QuietMoments.{seen, selection_at-within}
use Rattle.sync_ql.proofs.TakenInputs.{taken_may_be_taken}
use Rattle.sync_topo.specs.declared.input.InputId.{InputId}
use Rattle.sync_topo.specs.Topology.{Topology}
use Rattle.sync_topo.specs.Lines.{inputs_of, is_same_input}
use Rattle.sync_topo.proofs.InputPlaces.{same-is, same-self}
use Rattle.net_rules.specs.Signals.{Signals}
use Rattle.net_rules.specs.History.{Levels, settings_of, heard, moment_at, element_past, taken_at, failed_by}
use Rattle.net_rules.proofs.NetLaws.{many-inputs, failed-at, level-at}
use Rattle.net_words.proofs.DistinctInputs.{place-at, input-of}
use Rattle.shown_words.specs.Sameness.{is_same_taken}
use Rattle.inspection.specs.declared.verdicts.InputVerdict.TheVariants.{BelowFloor, Reserve, DoNotUse}
use Rattle.inspection.specs.Verdict.{verdict_of, is_place, verdict_at, verdict_in, MayBeUsed}

-- by the level of an input that is free and good
by-level : (above better : Bool) → IsTrue (not better && above) ↔ MayBeUsed (if above then (if better then BelowFloor else Reserve) else DoNotUse)
by-level true true = (λ is. absurd (true≢false (sym is)), λ never. absurd never)
by-level true false = (λ is. tt, λ may. refl)
by-level false true = (λ is. absurd (true≢false (sym is)), λ never. absurd never)
by-level false false = (λ is. absurd (true≢false (sym is)), λ never. absurd never)

-- by the tests alone: what is taken passes those of the choice
eligible-reason : (taken locked failed : Bool) (floor level : Option Level)
    → (taken ≡ true → (not locked && not failed && not (is_better floor level) && is_above_do_not_use level) ≡ true)
    → IsTrue (not locked && not failed && not (is_better floor level) && is_above_do_not_use level) ↔ MayBeUsed (verdict_of taken locked failed floor level)
eligible-reason true locked failed floor level good = (λ is. tt, λ may. good refl)
eligible-reason false true failed floor level good = (λ is. absurd (true≢false (sym is)), λ never. absurd never)
eligible-reason false false true floor level good = (λ is. absurd (true≢false (sym is)), λ never. absurd never)
eligible-reason false false false None None good = (λ is. absurd (true≢false (sym is)), λ never. absurd never)
eligible-reason false false false (Some floor) None good = (λ is. absurd (true≢false (sym is)), λ never. absurd never)
eligible-reason false false false floor (Some level) good = by-level (is_above_do_not_use (Some level)) (is_better floor (Some level))

-- what is taken passes them
taken-good : (settings : Settings) (past : List Moment) (i : ℕ) (taken : Option ℕ) → IfSome taken (MayBeTaken settings past) → is_place taken i ≡ true
    → (usable_at settings (switches_at settings past) past i && is_above_do_not_use (level_now i past)) ≡ true
taken-good settings past i None may is = absurd (true≢false (sym is))
taken-good settings past i (Some k) may is =
    let here : MayBeTaken settings past i = subst (MayBeTaken settings past) (eqb-true k i is) may in
    rw (here.not_locked, here.not_failed, here.level_is, here.not_below) (lt-ltb _ _ here.above_do_not_use)

pub eligible-verdict : (settings : Settings) (now : Moment) (before : List Moment) (i : ℕ) → i < length settings.priorities
    → IsEligible (candidates_at settings (switches_at settings (now ∷ before)) (now ∷ before)) i ↔ MayBeUsed (verdict_at settings (now ∷ before) i)
unfolding verdict_at
eligible-verdict settings now before i within =
    let past : List Moment = now ∷ before in
    let s : Switches = switches_at settings past in
    let at : candidate (candidates_at settings s past) i ≡ seen settings s past i = get_or-map-range_with_len (seen settings s past) 0 (length settings.priorities) i i nobody within (zero-add i) in
    subst (λ c. IsTrue (is_eligible c) ↔ MayBeUsed (verdict_of (is_place (selection_at settings past) i) (is_locked s i) (failed_at settings.timers (signals_of i past)) settings.floor (level_now i past)))
    (sym at)
    (eligible-reason (is_place (selection_at settings past) i) (is_locked s i) (failed_at settings.timers (signals_of i past)) settings.floor (level_now i past)
    (taken-good settings past i (selection_at settings past) (taken_may_be_taken settings now before)))

-- two places of an element are the same exactly where the inputs there are
differs : (plan : Topology) (element i k : ℕ) (input other : InputId) → slice_get (inputs_of plan element) i ≡ Some input → slice_get (inputs_of plan element) k ≡ Some other
    → (k ≡ i → ⊥) → (b : Bool) → is_same_input other input ≡ b → is_same_input other input ≡ false
differs plan element i k input other at there apart false is = is
differs plan element i k input other at there apart true is =
    let one : other ≡ input = same-is other input is in
    absurd (apart (same_Some k i (sym (place-at plan element k input (there ∙ ap Some one)) ∙ place-at plan element i input at)))

same-place : (plan : Topology) (element i k : ℕ) (input other : InputId) → slice_get (inputs_of plan element) i ≡ Some input → slice_get (inputs_of plan element) k ≡ Some other
    → nat_eq k i ≡ is_same_input other input
same-place plan element i k input other at there = elim (eqb_tells k i) [
  | inl same ↦
      let one : other ≡ input = same_Some other input (sym there ∙ ap (slice_get (inputs_of plan element)) same.1 ∙ at) in
      eq-eqb k i same.1 ∙ sym (ap (λ x. is_same_input x input) one ∙ same-self input)
  | inr apart ↦ apart.0 ∙ sym (differs plan element i k input other at there apart.1 (is_same_input other input) refl)
]

-- a place is the one that is taken exactly where its input is the one that is taken
place-taken : (plan : Topology) (element i : ℕ) (input : InputId) (taken : Option ℕ) → slice_get (inputs_of plan element) i ≡ Some input
    → IfSome taken (λ k. k < length (inputs_of plan element))
    → is_place taken i ≡ is_same_taken (option_and_then (slice_get (inputs_of plan element)) taken) (Some input)
place-taken plan element i input None at within = refl
place-taken plan element i input (Some k) at within = elim (slice_get_cases (inputs_of plan element) k).1 [
  | inl there ↦ same-place plan element i k input there.0 at there.2 ∙ ap (λ o. is_same_taken o (Some input)) (sym there.2)
  | inr past ↦ absurd (omega (arith, within, past.0))
]

pub verdict-words : (plan : Topology) (signals : Signals) (out : Levels) (element t i : ℕ) (input : InputId) → slice_get (inputs_of plan element) i ≡ Some input
    → verdict_at (settings_of plan element) (element_past plan signals out element (suc t)) i ≡ verdict_in plan signals out element t i input
unfolding verdict_at taken_at
verdict-words plan signals out element t i input at =
    let settings : Settings = settings_of plan element in
    let past : List Moment = element_past plan signals out element (suc t) in
    let locked : Bool = is_locked (switches_at settings past) i in
    let within = subst (λ n. IfSome (selection_at settings past) (λ k. k < n)) (many-inputs plan element)
    (selection_at-within settings (moment_at plan signals (heard plan signals out) element t) (element_past plan signals out element t)) in
    ap (λ taken. verdict_of taken locked (failed_at settings.timers (signals_of i past)) settings.floor (level_now i past)) (place-taken plan element i input (selection_at settings past) at within)
    ∙ ap (λ failed. verdict_of (is_same_taken (taken_at plan signals out element t) (Some input)) locked failed settings.floor (level_now i past))
    (failed-at plan signals out element t i input at (input-of plan element i input at).of_element)
    ∙ ap (verdict_of (is_same_taken (taken_at plan signals out element t) (Some input)) locked (failed_by plan signals input t) settings.floor) (level-at plan signals out element t i input at)
