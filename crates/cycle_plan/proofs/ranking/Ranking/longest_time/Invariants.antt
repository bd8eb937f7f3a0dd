use Rattle.cycle_plan.specs.private.Latest.{AreLates, IsLong}
use Rattle.cycle_plan.proofs.ranking.Ranking.longest_time.Given as goal

abbrev pub invariant-loop-place : goal.invariant-loop-place
invariant-loop-place l = AreLates l.plan l.self.order.items l.place l.lates.items × IsLong l.plan l.self.order.items l.place l.longest
