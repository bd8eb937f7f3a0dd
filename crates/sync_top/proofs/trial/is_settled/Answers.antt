use Rattle.sync_top.specs.declared.trial.TheConstants.{TRIAL_END}
use Rattle.sync_top.specs.Forms.Trial.{trial_events}
use Rattle.event_sim.proofs.Reached.{unwatched}
use Rattle.sync_top.proofs.RunLaws.{events-listed, settled_at}
use Rattle.sync_top.proofs.trial.is_settled.Goals as goal

pub run_to-requires-clause-events : goal.run_to-requires-clause-events
run_to-requires-clause-events c = events-listed c.args.plan.now c.requires.link

pub returns-in_ok-unwatched-in-Stopped : goal.returns-in_ok-unwatched-in-Stopped
returns-in_ok-unwatched-in-Stopped c =
    let plan = c.args.plan.now in
    let sim = c.in_ok-unwatched-in-Stopped.unwatched in
    let run = c.in_ok-unwatched-in-Stopped.ensures.run in
    let next = (unwatched plan trial_events TRIAL_END sim c.in_ok-unwatched-in-Stopped.field-0-1 run).2 in
    settled_at plan trial_events TRIAL_END sim c.settled-in-Stopped.result run.of_plan next
    ((rw c.net-in-Stopped.ensures.net at c.settled-in-Stopped.ensures.exact) trial_events run.stands.net)
