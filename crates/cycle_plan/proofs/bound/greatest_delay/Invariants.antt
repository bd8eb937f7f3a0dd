use Rattle.std.proofs.Common.{◌≤◌}
use Rattle.sync_ql.specs.declared.limits.TheConstants.{GREATEST_DELAY}
use Rattle.cycle_plan.specs.private.BoundParts.{IsDelayBelow}
use Rattle.cycle_plan.proofs.bound.greatest_delay.Given as goal

abbrev pub invariant-loop-number : goal.invariant-loop-number
invariant-loop-number l = IsDelayBelow l.plan l.number l.greatest × (l.greatest ≤ GREATEST_DELAY)
