use Rattle.sync_top.proofs.Reports.{whole, short}
use Rattle.sync_top.proofs.sim.simulated.Goals as goal

pub returns-in-Until : goal.returns-in-Until
returns-in-Until c =
    let run = (rw c.in-Until.is at c.in_ok-sim.ensures.run) in
    rw c.done.ensures (whole c.args.plan.now c.args.events.now c.args.until c.in_ok-sim.sim c.in_ok-report-in-Until.field-0 run
    (c.in_ok-report-in-Until.ensures.text c.args.events.now run.stands))

pub returns : goal.returns
returns c =
    let run = (rw c.in-Stopped.is at c.in_ok-sim.ensures.run) in
    short c.args.plan.now c.args.events.now c.args.until c.in_ok-sim.sim c.in_ok-report-in-Stopped.field-0 c.in-Stopped.t run
    (c.in_ok-report-in-Stopped.ensures.text c.args.events.now run.stands)
