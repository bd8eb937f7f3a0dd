use Rattle.std.proofs.Common.{sym}
use Rattle.event_file.proofs.row.event_said.Goals as goal

-- what the word says fits the plan, and its value is of the plan's option
pub returns-in-Some-with_value-clause-fits : goal.returns-in-Some-with_value-clause-fits
returns-in-Some-with_value-clause-fits c =
    c.in-Some-with_value.ensures.fits c.args.plan.now (sym c.option.ensures.option) c.in-Some-said_of.ensures.fits
