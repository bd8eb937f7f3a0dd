use Rattle.std.proofs.Common.{◌≤◌}
use Rattle.sync_ql.specs.declared.limits.TheConstants.{GREATEST_WTR}
use Rattle.cycle_plan.specs.private.BoundParts.{IsWaitBelow}
use Rattle.cycle_plan.proofs.bound.longest_wait.Given as goal

abbrev pub invariant-loop-element : goal.invariant-loop-element
invariant-loop-element l = IsWaitBelow l.plan l.delay l.element l.longest × (l.longest ≤ GREATEST_WTR)
