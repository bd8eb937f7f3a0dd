use Rattle.sync_top.proofs.WrittenSizes.{plan-fits, still-short}
use Rattle.sync_top.proofs.written.plan_text.Goals as goal

pub returns-clause-fits : goal.returns-clause-fits
returns-clause-fits c = still-short c.write_plan.result _ _ (plan-fits c.args.plan.now c.lines-lines.ensures.well_formed) c.write_plan.ensures.short
