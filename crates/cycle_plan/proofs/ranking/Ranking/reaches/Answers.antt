use Rattle.std.proofs.Common.{◌≡◌, length, ap, subst, ◌∙◌, arith}
use Rattle.std.specs.Prelude.{replicate}
use Rattle.cycle_plan.specs.private.Mosts.{no_reach, AreReaches}
use Rattle.cycle_plan.proofs.ReachLemmas.{AreReaches-none}
use Rattle.cycle_plan.proofs.ranking.Ranking.reaches.Goals as goal

pub loop-place-init : goal.loop-place-init
loop-place-init c =
    AreReaches-none c.args.plan.now c.args.self.now.order.items c.in-Ok.reaches.items
    (c.in-Ok.ensures.items_if_clones_equal (λ y same. same) ∙ ap (λ reach. replicate c.elements.result reach) c.none.ensures ∙ ap (λ n. replicate n no_reach) c.elements.ensures.count)

pub returns : goal.returns
returns c =
    let all : c.loop-place.place ≡ length c.args.self.now.order.items = omega (arith, c.loop-place-test.false, c.loop-place.auto.place-end, c.len-place-end.ensures) in
    subst (λ n. AreReaches c.args.plan.now c.args.self.now.order.items n c.loop-place.reaches.items) all c.loop-place.invariant
