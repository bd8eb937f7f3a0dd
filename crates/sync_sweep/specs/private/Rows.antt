-- Private to this crate: the rows of what the engine gives.
use Rattle.std.specs.Prelude.{◌≡◌}
use Rattle.sync_sweep.specs.declared.row.SweepRow.{SweepRow}
use Rattle.sync_sweep.specs.declared.studying.StudyRow.{StudyRow}
use Rattle.sync_sweep.specs.declared.working.Worked.{Worked}

-- a row of a sweep says what becomes of the network in its case
abbrev pub IsRowOf : Worked → SweepRow → Type 0
IsRowOf worked row = row.outcome ≡ worked.outcome

-- and one of a study its timing too, and what the case costs on the way
pub record IsStudyRowOf (worked : Worked) (row : StudyRow) : Type 0 where
  pub outcome : row.outcome ≡ worked.outcome
  pub timing : row.timing ≡ worked.timing
  pub way : row.way ≡ worked.way
