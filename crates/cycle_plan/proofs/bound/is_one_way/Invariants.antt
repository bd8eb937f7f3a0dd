use Rattle.cycle_plan.specs.private.BoundParts.{AreDirections}
use Rattle.cycle_plan.proofs.bound.is_one_way.Given as goal

abbrev pub invariant-loop-number : goal.invariant-loop-number
invariant-loop-number l = AreDirections l.plan l.number l.receivers.items
