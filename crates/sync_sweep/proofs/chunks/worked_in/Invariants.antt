use Rattle.std.proofs.Common.{take}
use Rattle.sync_sweep.specs.private.AtBase.{IsAtBase}
use Rattle.sync_sweep.specs.private.Working.{AreWorked}
use Rattle.sync_sweep.proofs.chunks.worked_in.Given as goal

-- the cases behind are worked, and the branch is where it began
abbrev pub invariant-loop-case : goal.invariant-loop-case
invariant-loop-case g l = record {
  worked : AreWorked g.T.Timer.IsTold l.study.base.now.plan l.study.common.now l.study.until (take l.case-index l.cases) l.worked;
  branch : IsAtBase l.study.base.now l.branch;
  timer : g.T.Timer.IsTimer l.study.base.now l.timer;
}
