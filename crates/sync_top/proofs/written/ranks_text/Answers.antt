use Rattle.sync_top.proofs.WrittenSizes.{certificate-fits, still-short}
use Rattle.sync_top.proofs.written.ranks_text.Goals as goal

pub returns-clause-fits : goal.returns-clause-fits
returns-clause-fits c = still-short c.write_cert.result _ _ (certificate-fits c.args.plan.now c.lines-lines.ensures.well_formed) c.write_cert.ensures.short
