use Rattle.sync_topo.specs.Ranks.{StepsBack}
use Rattle.sync_topo.specs.Hops.{hops_by}
use Rattle.cycle_plan.specs.private.GoingBack.{IsLeft, IsLowOn}
use Rattle.cycle_plan.proofs.ranking.Ranking.lowest_on_cycle.Given as goal

abbrev pub invariant-loop-step : goal.invariant-loop-step
invariant-loop-step l = record {
  back : StepsBack (hops_by l.returns l.plan) l._step l.fn.on.0 l.at.0;
  left : IsLeft l.plan l.self.ranks l.at.0;
  low : IsLowOn (hops_by l.returns l.plan) l.fn.on.0 l._step l.low.0;
  low_left : IsLeft l.plan l.self.ranks l.low.0;
}
