use Rattle.cycle_plan.specs.private.Mosts.{AreReaches}
use Rattle.cycle_plan.proofs.ranking.Ranking.reaches.Given as goal

abbrev pub invariant-loop-place : goal.invariant-loop-place
invariant-loop-place l = AreReaches l.plan l.self.order.items l.place l.reaches.items
