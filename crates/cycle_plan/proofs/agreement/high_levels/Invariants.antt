use Rattle.std.proofs.Common.{◌≤◌}
use Rattle.cycle_plan.specs.private.Agreed.{IsHighBelow}
use Rattle.cycle_plan.proofs.agreement.high_levels.Given as goal

abbrev pub invariant-loop-element : goal.invariant-loop-element
invariant-loop-element l = IsHighBelow l.plan l.element l.high × (l.high ≤ 13)
