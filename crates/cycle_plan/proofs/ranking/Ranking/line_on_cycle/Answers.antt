use Rattle.std.proofs.Common.{arith}
use Rattle.sync_topo.specs.Lines.{line_count}
use Rattle.sync_topo.specs.Hops.{hops_by}
use Rattle.cycle_plan.proofs.Back.{back_at}
use Rattle.cycle_plan.proofs.Rounds.{back_more}
use Rattle.cycle_plan.proofs.ranking.Ranking.line_on_cycle.Goals as goal

pub loop-step-preserved : goal.loop-step-preserved
loop-step-preserved c = record {
  back = back_more (hops_by c.args.returns c.args.plan.now) c.loop-step._step c.args.start.0 c.loop-step.at.0 c.before-at.result.0 c.loop-step.invariant.back c.before-at.ensures.before;
  left = c.before-at.ensures.left;
}

pub returns-clause-back : goal.returns-clause-back
returns-clause-back c =
    back_at (hops_by c.args.returns c.args.plan.now) c.loop-step._step (line_count c.args.plan.now) c.args.start.0 c.loop-step.at.0
    (omega (arith, c.loop-step.auto._step-end, c.loop-step-test.false, c.lines-step-end.ensures.count)) c.loop-step.invariant.back
