use Rattle.std.proofs.Common.{List, drop, subst, sym}
use Rattle.sync_topo.specs.declared.event.Event.{Event}
use Rattle.event_times.specs.private.EventTimes.{AreParted}
use Rattle.event_times.proofs.EventTimes.{parted}
use Rattle.event_times.proofs.events.split_at_time.Goals as goal

pub returns : goal.returns
returns c = λ until between.
    subst (λ (back : List Event). AreParted c.args.now until c.args.events.now
    c.split_at.result.0.now back) (sym c.split_at.ensures.back)
    (subst (λ (front : List Event). AreParted c.args.now until c.args.events.now front
    (drop c.count_at.result c.args.events.now)) (sym c.split_at.ensures.front)
    (parted c.args.now until c.count_at.result c.args.events.now between
    c.count_at.ensures.within c.count_at.ensures.here c.count_at.ensures.later))
