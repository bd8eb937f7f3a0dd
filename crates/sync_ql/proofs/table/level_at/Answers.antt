use Rattle.sync_ql.proofs.Tables.{level_at-place}
use Rattle.sync_ql.proofs.table.level_at.Goals as goal

pub returns-clause-level : goal.returns-clause-level
returns-clause-level c = level_at-place _
