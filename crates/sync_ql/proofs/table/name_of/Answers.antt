use Rattle.std.proofs.Common.{ap, ◌∙◌}
use Rattle.sync_ql.specs.Level.{level_of_name}
use Rattle.sync_ql.proofs.Tables.{level_of_name-name_of}
use Rattle.sync_ql.proofs.table.name_of.Goals as goal

pub returns-clause-back : goal.returns-clause-back
returns-clause-back c = ap (level_of_name c.args.level.option) c.row_of.ensures.name ∙ level_of_name-name_of c.args.level
