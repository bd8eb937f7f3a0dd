use Rattle.event_times.proofs.EventTimes.{next-event, next-last}
use Rattle.event_times.proofs.events.next_time.Goals as goal

pub returns-in-Some : goal.returns-in-Some
returns-in-Some c =
    next-event c.args.next c.args.until c.earlier-last.result c.args.rest.now c.args.due
    c.in-Some.event.now c.in-Some.ensures.value
    c.requires.events.in_order c.requires.events.later
    c.if-next-eq0.false c.if-event-last.true c.earlier-last.ensures.up_to
    c.earlier-last.ensures.until_due

pub returns-in_default : goal.returns-in_default
returns-in_default c =
    next-last c.args.next c.args.until c.earlier-last.result c.args.rest.now c.args.due
    c.in-Some.event.now c.in-Some.ensures.value
    c.requires.events.in_order c.if-next-eq0.false c.if-event-last.false c.requires.later c.requires.due
    c.earlier-last.ensures.up_to c.earlier-last.ensures.until_due c.earlier-last.ensures.cause
