use Rattle.std.proofs.Common.{sym}
use Rattle.std.proofs.lemmas.Bool.{eqb-false, not-true}
use Rattle.sync_topo.specs.Hops.{hops_by}
use Rattle.cycle_plan.proofs.Rounds.{walked_first, walked_more}
use Rattle.cycle_plan.proofs.ranking.Ranking.cycle_behind.Goals as goal

pub loop-returns-init : goal.loop-returns-init
loop-returns-init c = record {
  walked = rw c.new-lines.ensures.items (walked_first (hops_by c.args.returns c.args.plan.now) c.args.low.0 c.before-at.result.0 c.before-at.ensures.before);
  left = c.before-at.ensures.left;
}

pub loop-returns-preserved : goal.loop-returns-preserved
loop-returns-preserved c = record {
  walked =
      rw c.in-Ok.ensures.items
      (walked_more (hops_by c.args.returns c.args.plan.now) c.args.low.0 c.before-at-in-loop-returns.result.0 c.loop-returns.at c.loop-returns.lines.items c.requires.lowest
      (eqb-false _ _ (not-true _ (sym c.loop-returns-test.ensures))) c.loop-returns.invariant.walked c.before-at-in-loop-returns.ensures.before);
  left = c.before-at-in-loop-returns.ensures.left;
}
