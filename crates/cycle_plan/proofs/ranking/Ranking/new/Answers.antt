use Rattle.std.proofs.Common.{◌∙◌, ap}
use Rattle.std.specs.Prelude.{replicate}
use Rattle.cycle_plan.proofs.Beginning.{unwatched, peeling_new}
use Rattle.cycle_plan.proofs.ranking.Ranking.new.Goals as goal

pub returns-clause-peeling : goal.returns-clause-peeling
returns-clause-peeling c =
    let count = ap (λ n. replicate n unwatched) c.elements.ensures.count in
    peeling_new c.args.returns c.args.plan.now (record { ranks = c.in_ok-ranks.ranks; watches = c.in-Ok.watches; waiting = c.in_ok-waiting.waiting; order = c.in-Ok-with_capacity.order })
    c.in_ok-ranks.ensures.unranked (c.in-Ok.ensures.items_if_clones_equal (λ y same. same) ∙ count) c.in_ok-waiting.ensures.within c.in-Ok-with_capacity.ensures.items
