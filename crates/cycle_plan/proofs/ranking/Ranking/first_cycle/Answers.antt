use Rattle.std.proofs.Common.{◌≡◌, ◌∷◌, reverse}
use Rattle.std.proofs.lemmas.Result.{IfOk-weaker}
use Rattle.sync_topo.specs.Ranks.{IsFirstCycle}
use Rattle.sync_topo.specs.Hops.{hops_by}
use Rattle.sync_topo.specs.Lines.{line_count, numbers}
use Rattle.cycle_plan.proofs.Before.{round_there}
use Rattle.cycle_plan.proofs.Rounds.{ring_low, round_low, first_from, numbers-reverse}
use Rattle.cycle_plan.proofs.ranking.Ranking.first_cycle.Goals as goal

pub cycle_behind-requires-clause-round : goal.cycle_behind-requires-clause-round
cycle_behind-requires-clause-round c =
    round_low (hops_by c.args.returns c.args.plan.now) c.line_on_cycle-on.result.0 (line_count c.args.plan.now) c.lowest_on_cycle-low.result.0
    (round_there c.args.returns c.args.plan.now c.args.self.now.ranks c.args.start.0 c.line_on_cycle-on.result.0 c.requires.done.peeled c.requires.left c.line_on_cycle-on.ensures.back)
    c.lowest_on_cycle-low.ensures.low

pub cycle_behind-requires-clause-lowest : goal.cycle_behind-requires-clause-lowest
cycle_behind-requires-clause-lowest c =
    ring_low (hops_by c.args.returns c.args.plan.now) c.line_on_cycle-on.result.0 (line_count c.args.plan.now) c.lowest_on_cycle-low.result.0
    (round_there c.args.returns c.args.plan.now c.args.self.now.ranks c.args.start.0 c.line_on_cycle-on.result.0 c.requires.done.peeled c.requires.left c.line_on_cycle-on.ensures.back)
    c.lowest_on_cycle-low.ensures.low

pub returns : goal.returns
returns c =
    IfOk-weaker c.in_hop_order.result (λ lines. lines ≡ c.lowest_on_cycle-low.result ∷ reverse c.in_ok-behind.behind.items) (λ lines. IsFirstCycle (hops_by c.args.returns c.args.plan.now) (numbers lines))
    (λ lines is.
    rw (is, numbers-reverse c.in_ok-behind.behind.items)
    (first_from (hops_by c.args.returns c.args.plan.now) c.args.start.0 (line_count c.args.plan.now) c.line_on_cycle-on.result.0 c.lowest_on_cycle-low.result.0 c.in_ok-behind.behind.items
    c.requires.lowest c.line_on_cycle-on.ensures.back c.lowest_on_cycle-low.ensures.low c.in_ok-behind.ensures))
    c.in_hop_order.ensures
