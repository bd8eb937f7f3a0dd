use Rattle.cycle_plan.specs.private.BoundParts.{IsRankBelow}
use Rattle.cycle_plan.proofs.bound.greatest_rank.Given as goal

abbrev pub invariant-loop-number : goal.invariant-loop-number
invariant-loop-number l = IsRankBelow l.plan l.cert l.number l.greatest
