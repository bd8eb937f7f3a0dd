use Rattle.std.proofs.Common.{refl, arith}
use Rattle.cycle_plan.proofs.Settling.{kept_after, peeled_at_end}
use Rattle.cycle_plan.proofs.ranking.Ranking.peel.Goals as goal

pub loop-element-preserved : goal.loop-element-preserved
loop-element-preserved c = record {
  peeling = c.in_ok-rank_lines_out.ensures.more.peeling;
  kept =
      kept_after c.args.returns c.args.plan.now c.loop-element.self (record c.loop-element.self { waiting = c.pop.new.self }) c.rank_lines_out.new.self c.in-Some.element
      c.loop-element.invariant.kept refl c.in-Some.ensures.items c.in_ok-rank_lines_out.ensures.more c.in_ok-rank_lines_out.ensures.settled;
}

pub returns-clause-peeled : goal.returns-clause-peeled
returns-clause-peeled c =
    peeled_at_end c.args.returns c.args.plan.now c.loop-element.self c.loop-element.invariant.peeling c.loop-element.invariant.kept
    (omega (arith, c.loop-element.self.waiting.ok, c.in_default.ensures.cases.0))
