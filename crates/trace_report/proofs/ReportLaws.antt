-- What stands behind the rows of a report.
use Rattle.std.proofs.Common.{◌≡◌, ◌<◌, ◌+◌, ◌-◌, ℕ, suc, List, [], ◌∷◌, ◌++◌, length, Some, slice_get, sym, ap, ◌∙◌, arith}
use Rattle.std.proofs.lemmas.List.{length-map, append_assoc}
use Rattle.sync_ql.specs.declared.rules.Cond.{Cond}
use Rattle.sync_ql.specs.Pasts.{past_of}
use Rattle.sync_ql.specs.Condition.{condition_at}
use Rattle.sync_ql.specs.Moment.{Moment, signals_of}
use Rattle.sync_ql.specs.Told.{moments_until}
use Rattle.sync_ql.proofs.Delivered.{length-past_of}
use Rattle.input_monitor.specs.Ending.{later_by}
use Rattle.sync_element.specs.ElementState.{ElementState, IsInTime}
use Rattle.sync_element.specs.ElementState as Seen
use Rattle.sync_element.specs.StandsFor.{StandsFor}
use Rattle.sync_topo.specs.declared.input.InputId.{InputId}
use Rattle.sync_topo.specs.Topology.{Topology}
use Rattle.sync_topo.specs.Lines.{inputs_of, input_priority}
use Rattle.net_rules.specs.Signals.{Signals}
use Rattle.net_rules.specs.History.{Levels, settings_of, heard, moment_at, element_past, condition_by}
use Rattle.net_rules.specs.Settings.{timers_of, signal_at}
use Rattle.net_rules.proofs.NetLaws.{signals-at}
use Rattle.sync_net.specs.Standing.{ElementStands}
use Rattle.net_words.proofs.DistinctInputs.{input-of}

-- an element has the inputs of the plan
pub inputs-count : (plan : Topology) (place : ℕ) (element : ElementState) → element.settings ≡ settings_of plan place
    → length (inputs_of plan place) ≡ Seen.inputs_of element
unfolding settings_of
inputs-count plan place element is = sym (ap (λ s. length s.priorities) is ∙ length-map (inputs_of plan place) (input_priority plan))

-- the condition of an input, from the past of its element
condition-at : (plan : Topology) (signals : Signals) (out : Levels) (e t i : ℕ) (input : InputId)
    → slice_get (inputs_of plan e) i ≡ Some input
    → condition_at (settings_of plan e).timers (signals_of i (element_past plan signals out e (suc t))) ≡ condition_by plan signals input t
unfolding settings_of
condition-at plan signals out e t i input at =
    ap (condition_at (timers_of plan e)) (signals-at plan signals (heard plan signals out) e (suc t) i input at)
    ∙ ap (λ own. condition_at (timers_of plan own) (past_of (signal_at signals input) (suc t))) (sym (input-of plan e i input at).of_element)

-- the condition in a later millisecond, from that of the last step
pub condition-now : (plan : Topology) (signals : Signals) (out : Levels) (e until place count passed : ℕ) (input : InputId) (element : ElementState) (told : Cond)
    → slice_get (inputs_of plan e) place ≡ Some input → place < count → ElementStands plan signals out e (until + 1) element
    → ((past : List Moment) → StandsFor element past → told ≡ condition_at element.settings.timers (signals_of place past))
    → ((past : List Moment) (n : ℕ) → StandsFor element past → IsInTime element n →
    condition_at element.settings.timers (signals_of place (moments_until element.settings n past)) ≡ later_by (n - element.next) told)
    → ((past : List Moment) (i : ℕ) → StandsFor element past → element.next ≡ length past → IsInTime element (until + 1) → i < count →
    later_by passed (condition_at element.settings.timers (signals_of i past))
    ≡ later_by (until + 1 - element.next) (condition_at element.settings.timers (signals_of i past)))
    → later_by passed told ≡ condition_by plan signals input until
condition-now plan signals out e until place count passed input element told at within is last left runs =
    ap (later_by passed) (last past is.stands)
    ∙ runs past place is.stands (sym (length-past_of (moment_at plan signals (heard plan signals out) e) element.next)) is.in_time within
    ∙ ap (later_by (until + 1 - element.next)) (sym (last past is.stands))
    ∙ sym (left past (until + 1) is.stands is.in_time)
    ∙ ap (λ s. condition_at s.timers (signals_of place (moments_until s (until + 1) past))) is.settings
    ∙ ap (λ p. condition_at (settings_of plan e).timers (signals_of place p)) (sym is.quiet)
    ∙ ap (λ n. condition_at (settings_of plan e).timers (signals_of place (element_past plan signals out e n))) after
    ∙ condition-at plan signals out e until place input at
  where
    past : List Moment
    past = element_past plan signals out e element.next

    after : until + 1 ≡ suc until
    after = omega arith

-- three texts put one after another
pub three-parts : (old one two three first second third : List ℕ) → one ≡ old ++ first → two ≡ one ++ second → three ≡ two ++ third
    → three ≡ old ++ (first ++ second ++ third)
three-parts old one two three first second third is_one is_two is_three =
    is_three ∙ ap (λ t. t ++ third) (is_two ∙ ap (λ t. t ++ second) is_one)
    ∙ ap (λ t. t ++ third) (append_assoc old first second)
    ∙ append_assoc old (first ++ second) third
