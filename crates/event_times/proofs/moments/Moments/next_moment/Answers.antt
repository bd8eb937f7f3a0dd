use Rattle.std.proofs.Common.{sym, subst, arith}
use Rattle.event_times.specs.EventTimes.{AreAhead, AreNext, MomentsLeft}
use Rattle.event_times.proofs.EventTimes.{later-between, are-next, later-told}
use Rattle.event_times.proofs.moments.Moments.next_moment.Goals as goal

pub invariant_of-self : goal.invariant_of-self
invariant_of-self c =
    let is = c.next_time-now.ensures in
    let ahead = later-between c.self.inside.rest.now c.split_at_time.result.0.now
    c.split_at_time.result.1.now c.self.inside.next c.self.inside.until c.next_time-now.result
    c.args.due is c.self.invariant.1.1 c.split_at_time.ensures in
    (omega (arith, is.up_to), (c.self.invariant.1.0, ahead))

pub returns-clause-here : goal.returns-clause-here
returns-clause-here c = λ plan all ahead.
    subst (λ (left : MomentsLeft). AreNext plan all left.next c.next_time-now.result
    c.split_at_time.result.0.now) c.self.view_is
    (are-next c.self.inside.rest.now c.split_at_time.result.0.now c.split_at_time.result.1.now
    c.self.inside.next c.self.inside.until c.next_time-now.result c.args.due c.next_time-now.ensures
    c.self.invariant.1.1 c.split_at_time.ensures plan all
    (subst (AreAhead plan all) (sym c.self.view_is) ahead))

pub returns-clause-ahead : goal.returns-clause-ahead
returns-clause-ahead c = λ plan all ahead.
    later-told c.self.inside.rest.now c.split_at_time.result.0.now c.split_at_time.result.1.now
    c.self.inside.next c.self.inside.until c.next_time-now.result c.args.due c.next_time-now.ensures
    c.self.invariant.1.1 c.split_at_time.ensures plan all
    (subst (AreAhead plan all) (sym c.self.view_is) ahead)
