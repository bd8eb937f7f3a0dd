use Rattle.std.proofs.Common.{◌++◌, refl, ◌∙◌}
use Rattle.std.specs.Prelude.{codes}
use Rattle.inspection.specs.Commands.{row_at}
use Rattle.inspection.specs.private.Tables.{table_at}
use Rattle.sync_text.proofs.PutRows.{one-number}
use Rattle.inspection.proofs.commands.put_commands.Goals as goal

pub loop-place-preserved : goal.loop-place-preserved
loop-place-preserved c = (
  c.in_ok-put_event.ensures.put
      ∙ one-number (row_at c.args.plan.now c.args.events.now (table_at c.args.plan.now c.args.events.now)) c.loop-place.place (c.args.text.now ++ codes "commands\n") c.loop-place.text _ c.loop-place.invariant.0 refl,
  c.in_ok-put_event.ensures.tables,
)
