use Rattle.cycle_plan.specs.private.Peeling.{IsPeeling, AreKept, work}
use Rattle.cycle_plan.proofs.ranking.Ranking.peel.Given as goal

abbrev pub invariant-loop-element : goal.invariant-loop-element
invariant-loop-element l = record {
  peeling : IsPeeling l.returns l.plan l.self;
  kept : AreKept l.returns l.plan l.self;
}

abbrev pub decreases-loop-element : goal.decreases-loop-element
decreases-loop-element l = work l.self
