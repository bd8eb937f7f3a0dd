use Rattle.std.proofs.Common.{refl, sym, ap, subst, inl, inr}
use Rattle.sync_topo.specs.Hops.{hops_by}
use Rattle.cycle_plan.specs.private.GoingBack.{IsLeft}
use Rattle.cycle_plan.proofs.Rounds.{back_more, low_start, low_more}
use Rattle.cycle_plan.proofs.ranking.Ranking.lowest_on_cycle.Goals as goal

pub loop-step-init : goal.loop-step-init
loop-step-init c = record { back = refl; left = c.requires.left; low = low_start (hops_by c.args.returns c.args.plan.now) c.args.on.0; low_left = c.requires.left }

pub loop-step-preserved : goal.loop-step-preserved
loop-step-preserved c = record {
  back = back_more (hops_by c.args.returns c.args.plan.now) c.loop-step._step c.args.on.0 c.loop-step.at.0 c.before-at.result.0 c.loop-step.invariant.back c.before-at.ensures.before;
  left = c.before-at.ensures.left;
  low =
      low_more (hops_by c.args.returns c.args.plan.now) c.args.on.0 c.loop-step._step c.loop-step.at.0 c.before-at.result.0 c.loop-step.low.0 c.lower-low.result.0
      c.loop-step.invariant.low c.loop-step.invariant.back c.before-at.ensures.before c.lower-low.ensures.one c.lower-low.ensures.other
      (elim c.lower-low.ensures.either [
        | inl same ↦ inl (ap (λ line. line.0) same)
        | inr same ↦ inr (ap (λ line. line.0) same)
      ]);
  low_left = elim c.lower-low.ensures.either [
    | inl same ↦ subst (λ line. IsLeft c.args.plan.now c.args.self.now.ranks line.0) (sym same) c.loop-step.invariant.low_left
    | inr same ↦ subst (λ line. IsLeft c.args.plan.now c.args.self.now.ranks line.0) (sym same) c.before-at.ensures.left
  ];
}
