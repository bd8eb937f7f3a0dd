-- A line that has fewer bytes than a source has digits is no row.
use Rattle.std.proofs.Common.{◌∙◌, arith}
use Rattle.std.proofs.lemmas.Grind.{common_steps}
use Rattle.capture_text.proofs.ReadingLemmas.{read_is_row}
use Rattle.capture_text.proofs.StepLemmas.{too_short}
use Rattle.capture_text.proofs.reading.read_row.Goals as goal

pub returns-in_err-source-clause-exact : goal.returns-in_err-source-clause-exact
returns-in_err-source-clause-exact c =
    c.from_residual.ensures ∙ too_short c.args.option c.args.line.now (grind (arith, common_steps))

pub returns-in_err-source-clause-row : goal.returns-in_err-source-clause-row
returns-in_err-source-clause-row c =
    read_is_row c.args.option c.args.line.now _ (returns-in_err-source-clause-exact c)
