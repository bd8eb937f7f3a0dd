use Rattle.std.proofs.Common.{◌≡◌, ◌<◌, ◌-◌, ap, length, sym, ◌∙◌, subst, arith}
use Rattle.std.proofs.lemmas.List.{get_or_default}
use Rattle.sync_ql.specs.Condition.{condition_at, IsSameKind}
use Rattle.sync_ql.specs.Moment.{signals_of}
use Rattle.sync_ql.specs.Told.{moments_until}
use Rattle.input_monitor.specs.Ending.{later_by}
use Rattle.sync_element.specs.Kept.{unused}
use Rattle.sync_element.specs.ElementState.{ElementState, inputs_of}
use Rattle.sync_element.specs.StandsFor.{StandsFor}
use Rattle.sync_element.specs.Whole.{element_state}
use Rattle.sync_element.specs.private.Whole.{watched_of, monitor_of}
use Rattle.sync_element.proofs.DueLemmas.{condition_is, kind_until, left_until}
use Rattle.sync_element.proofs.element.Element.cond.Goals as goal

abbrev state : goal.After-condition_before → ElementState
state c = element_state c.self.inside

within : (c : goal.After-condition_before) → c.args.input < inputs_of (state c)
within c = rw (← c.self.view_is) at c.requires.place

-- the condition that is given is that of the input at the place
given : (c : goal.After-condition_before) → later_by ((state c).next - (monitor_of (state c) c.args.input).next) (monitor_of (state c) c.args.input).condition ≡ c.condition_before.result
given c =
    let inside : c.args.input < length c.self.inside.inputs.watched.items = omega (arith, within c, c.self.invariant.watched_length) in
    let read : watched_of (state c) c.args.input ≡ c.index-as_slice-input.result = get_or_default c.self.inside.inputs.watched.items c.args.input unused c.index-as_slice-input.result inside ∙ sym (rw c.as_slice.ensures at c.index-as_slice-input.is) in
    ap (λ w. later_by ((state c).next - w.monitor.next) w.monitor.condition) read ∙ sym c.condition_before.ensures.value

pub returns-clause-last : goal.returns-clause-last
unfolding StandsFor
returns-clause-last c =
    rw (← c.self.view_is)
    (λ past stands. sym (condition_is (state c) past c.self.invariant stands c.args.input (within c) ∙ given c))

pub returns-clause-kind : goal.returns-clause-kind
unfolding StandsFor
returns-clause-kind c =
    rw (← c.self.view_is)
    (λ past n stands in_time. subst (λ d. IsSameKind d (condition_at (state c).settings.timers (signals_of c.args.input (moments_until (state c).settings n past)))) (given c)
    (kind_until (state c) c.self.invariant c.args.input (within c) past n stands in_time))

pub returns-clause-left : goal.returns-clause-left
unfolding StandsFor
returns-clause-left c =
    rw (← c.self.view_is)
    (λ past n stands in_time. left_until (state c) c.self.invariant c.args.input (within c) past n stands in_time
    ∙ ap (later_by (n - (state c).next)) (given c))
