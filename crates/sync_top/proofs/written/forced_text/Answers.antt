use Rattle.sync_top.proofs.WrittenSizes.{forced-fits, still-short}
use Rattle.sync_top.proofs.written.forced_text.Goals as goal

pub returns-clause-fits : goal.returns-clause-fits
returns-clause-fits c = still-short c.write_forced.result _ _ (forced-fits c.args.plan.now c.lines-lines.ensures.well_formed) c.write_forced.ensures.short
