use Rattle.std.proofs.Common.{take}
use Rattle.std.specs.List.{AllZip}
use Rattle.sync_sweep.specs.private.Rows.{IsStudyRowOf}
use Rattle.sync_sweep.proofs.studying.study_rows.Given as goal

-- what is behind has its rows
abbrev pub invariant-loop-one : goal.invariant-loop-one
invariant-loop-one l = AllZip IsStudyRowOf (take l.one-index l.worked) l.rows
