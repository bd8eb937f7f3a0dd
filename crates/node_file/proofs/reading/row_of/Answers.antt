use Rattle.std.proofs.Common.{sym}
use Rattle.node_file.proofs.reading.row_of.Goals as goal

pub returns-clause-fits : goal.returns-clause-fits
returns-clause-fits c = (
  c.in-Some-time_of.ensures.within,
  c.in_ok-word.ensures.fits c.args.plan.now c.args.element (sym c.option.ensures.option) c.in-Some-of.ensures.fits,
)
