use Rattle.sync_top.specs.declared.trial.TheConstants.{TRIAL_END}
use Rattle.sync_top.specs.Forms.Trial.{trial_events}
use Rattle.sync_top.proofs.RunLaws.{events-listed, report_rows, run-text}
use Rattle.sync_top.proofs.trial.put_run.Goals as goal

pub run_to-requires-clause-events : goal.run_to-requires-clause-events
run_to-requires-clause-events c = events-listed c.args.plan.now c.requires.link

pub returns : goal.returns
returns c =
    let plan = c.args.plan.now in
    let sim = c.in_ok-sim.sim in
    record {
      put = (
        sim.changes,
        report_rows plan trial_events TRIAL_END sim c.in_ok-sim.reach c.in_ok-sim.ensures.run,
        (
          c.in_ok-is_settled.field-0,
          c.in_ok-is_settled.ensures,
          run-text plan sim.changes c.in_ok-is_settled.field-0 c.args.text.now c.put_counted.new.text c.put_last.new.text c.put_settled.new.text
              (rw c.changes.ensures.changes at c.in_ok-put_counted.ensures) (rw c.changes-2.ensures.changes at c.in_ok-put_last.ensures.put) c.in_ok-put_settled.ensures.put,
        ),
      );
    }
