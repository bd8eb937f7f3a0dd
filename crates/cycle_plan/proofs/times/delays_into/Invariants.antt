use Rattle.cycle_plan.specs.private.Latest.{AreDelaysInto}
use Rattle.cycle_plan.proofs.times.delays_into.Given as goal

abbrev pub invariant-loop-number : goal.invariant-loop-number
invariant-loop-number l = AreDelaysInto l.plan l.number l.delays.items
