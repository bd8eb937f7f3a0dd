use Rattle.std.proofs.Common.{refl}
use Rattle.sync_topo.specs.declared.returns.ReturnRule.TheVariants.{Barred}
use Rattle.sync_topo.specs.Lines.{is_nominated, numbers}
use Rattle.sync_topo.specs.Hops.{hops}
use Rattle.rank_cert.specs.Ranks.{rank_at, rank_of}
use Rattle.net_rules.proofs.WalkLaws.{no_cycle}
use Rattle.cycle_plan.proofs.HopFacts.{hop_parts}
use Rattle.cycle_plan.proofs.Walks.{ranks_rise}
use Rattle.cycle_plan.proofs.CycleLaws.{IsCycle-first, All_within-first}
use Rattle.cycle_plan.proofs.ReachLemmas.{AreRows-all}
use Rattle.cycle_plan.proofs.chaining.chain_plan.Goals as goal

pub returns-in-Some-clause-cycle : goal.returns-in-Some-clause-cycle
returns-in-Some-clause-cycle c = IsCycle-first Barred c.args.plan.now (numbers c.in_ok-first_cycle-in-Some.field-0) c.in_ok-first_cycle-in-Some.ensures

pub returns-in-Some-clause-within : goal.returns-in-Some-clause-within
returns-in-Some-clause-within c = All_within-first Barred c.args.plan.now (numbers c.in_ok-first_cycle-in-Some.field-0) c.in_ok-first_cycle-in-Some.ensures

pub returns-clause-rows : goal.returns-clause-rows
returns-clause-rows c =
    AreRows-all c.args.plan.now c.in_ok-ranking.ranking.ranks c.in_ok-ranking.ranking.order.items c.in_ok-reaches-in-None.reaches.items
    c.in_ok-ranking.ensures.peeling.ordered (c.in-None.ensures.none refl) c.in_ok-reaches-in-None.ensures

pub returns-clause-rising : goal.returns-clause-rising
returns-clause-rising c = (
  rank_of c.in_ok-ranking.ranking.ranks,
  ranks_rise (hops c.args.plan.now) (is_nominated c.args.plan.now) (rank_at c.in_ok-ranking.ranking.ranks)
      (λ line next hop. (hop_parts Barred c.args.plan.now line next hop).1) c.in_ok-ranking.ensures.peeled (c.in-None.ensures.none refl),
)

pub returns-clause-acyclic : goal.returns-clause-acyclic
returns-clause-acyclic c = λ lines.
    let rising = returns-clause-rising c in no_cycle (hops c.args.plan.now) rising.0 rising.1 lines
