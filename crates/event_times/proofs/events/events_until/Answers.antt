use Rattle.event_times.proofs.EventCut.{are-told, are-within}
use Rattle.event_times.proofs.events.events_until.Goals as goal

pub returns-clause-told : goal.returns-clause-told
returns-clause-told c = λ plan list.
    are-told plan c.args.until c.count_at.result c.args.events.now list c.count_at.ensures.within
    c.count_at.ensures.here c.count_at.ensures.later

pub returns-clause-within : goal.returns-clause-within
returns-clause-within c = λ plan list.
    are-within plan c.args.until c.count_at.result c.args.events.now list c.count_at.ensures.within
    c.count_at.ensures.here c.count_at.ensures.later
