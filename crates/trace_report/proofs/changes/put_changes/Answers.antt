use Rattle.std.proofs.Common.{◌++◌, ap, ◌∙◌}
use Rattle.std.specs.Prelude.{codes}
use Rattle.trace_report.specs.Words.{change_row}
use Rattle.sync_text.proofs.PutRows.{one-row}
use Rattle.trace_report.proofs.changes.put_changes.Goals as goal

pub loop-change-preserved : goal.loop-change-preserved
loop-change-preserved c =
    c.in_ok-put_change.ensures.put
    ∙ one-row (change_row c.args.plan.now) c.args.changes.now c.loop-change.change-index c.change-item.result (c.args.text.now ++ codes "changes\n") c.loop-change.text
    (change_row c.args.plan.now c.change-item.result) c.loop-change-test.true c.loop-change.invariant (ap (change_row c.args.plan.now) c.change-item.is)
