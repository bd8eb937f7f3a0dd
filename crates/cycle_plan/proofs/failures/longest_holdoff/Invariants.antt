use Rattle.std.proofs.Common.{◌≤◌}
use Rattle.sync_topo.specs.Limits.{greatest_holdoff}
use Rattle.cycle_plan.specs.private.Latest.{IsHoldoffBelow}
use Rattle.cycle_plan.proofs.failures.longest_holdoff.Given as goal

abbrev pub invariant-loop-element : goal.invariant-loop-element
invariant-loop-element l = IsHoldoffBelow l.plan l.element l.longest × (l.longest ≤ greatest_holdoff)
