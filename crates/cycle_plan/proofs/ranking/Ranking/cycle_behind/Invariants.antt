use Rattle.std.proofs.Common.{◌-◌, length}
use Rattle.sync_topo.specs.Lines.{line_count}
use Rattle.sync_topo.specs.Hops.{hops_by}
use Rattle.cycle_plan.specs.private.GoingBack.{IsLeft, IsWalked}
use Rattle.cycle_plan.proofs.ranking.Ranking.cycle_behind.Given as goal

abbrev pub invariant-loop-returns : goal.invariant-loop-returns
invariant-loop-returns l = record {
  walked : IsWalked (hops_by l.returns l.plan) l.low.0 l.at.0 l.lines.items;
  left : IsLeft l.plan l.self.ranks l.at.0;
}

abbrev pub decreases-loop-returns : goal.decreases-loop-returns
decreases-loop-returns l = line_count l.plan - length l.lines.items
