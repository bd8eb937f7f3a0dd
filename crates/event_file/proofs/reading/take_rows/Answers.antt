use Rattle.std.proofs.Common.{ap, Ok}
use Rattle.event_file.proofs.Taking.{AreTaken-more, rows_refused, rows_given}
use Rattle.event_file.proofs.reading.take_rows.Goals as goal

pub returns-in-Err-clause-exact : goal.returns-in-Err-clause-exact
returns-in-Err-clause-exact c =
    let next = c.in_ok-advance.ensures.found (ap Ok c.if-branch.true) in
    rows_refused c.args.plan.now c.args.records.now.left c.loop-events.number c.loop-events.before c.taken.result.now c.advance.new.self.left c.loop-events.events c.in-Err.refused
    (rw (c.taken.ensures, ← next) c.loop-events.invariant.0) c.in-Err.ensures.refused

pub loop-events-preserved : goal.loop-events-preserved
loop-events-preserved c =
    let next = c.in_ok-advance.ensures.found (ap Ok c.if-branch.true) in (
      rw c.in_ok-push.ensures.ok (AreTaken-more c.args.plan.now c.args.records.now.left c.loop-events.number c.loop-events.before c.taken.result.now c.advance.new.self.left c.loop-events.events c.in-Ok.event
          (rw (c.taken.ensures, ← next) c.loop-events.invariant.0) c.in-Ok.ensures.sound c.in-Ok.ensures.event c.in-Ok.ensures.time c.in-Ok.ensures.after
          c.in-Ok.ensures.in_time c.in-Ok.ensures.few c.in-Ok.ensures.fits),
      c.in_ok-advance.ensures.goes_on,
    )

pub returns-clause-exact : goal.returns-clause-exact
returns-clause-exact c =
    let none = c.in_ok-advance.ensures.none (ap Ok c.if-branch.false) in
    rows_given c.args.plan.now c.args.records.now.left c.loop-events.number c.loop-events.before c.loop-events.events (rw none at c.loop-events.invariant.0)
