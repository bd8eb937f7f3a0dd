use Rattle.std.proofs.Common.{refl}
use Rattle.sync_topo.specs.Lines.{is_nominated, numbers}
use Rattle.rank_cert.specs.Ranks.{rank_at}
use Rattle.sync_topo.specs.Hops.{hops_by}
use Rattle.cycle_plan.proofs.HopFacts.{hop_parts}
use Rattle.cycle_plan.proofs.Walks.{least_ranks, none_rise, ranks_rise}
use Rattle.cycle_plan.proofs.CycleLaws.{IsCycle-first, All_within-first}
use Rattle.cycle_plan.proofs.ranked.rank_with.Goals as goal

pub returns-in_ok-first_cycle-in-Some-clause-cycle : goal.returns-in_ok-first_cycle-in-Some-clause-cycle
returns-in_ok-first_cycle-in-Some-clause-cycle c =
    IsCycle-first c.args.returns c.args.plan.now (numbers c.in_ok-first_cycle-in-Some.field-0) c.in_ok-first_cycle-in-Some.ensures

pub returns-in_ok-first_cycle-in-Some-clause-never : goal.returns-in_ok-first_cycle-in-Some-clause-never
returns-in_ok-first_cycle-in-Some-clause-never c = λ rank rising.
    none_rise (hops_by c.args.returns c.args.plan.now) rank c.in-Some.start.0 c.in-Some.ensures.lowest.residue rising

pub returns-in-None-clause-least : goal.returns-in-None-clause-least
returns-in-None-clause-least c =
    least_ranks (hops_by c.args.returns c.args.plan.now) (is_nominated c.args.plan.now) (rank_at c.in_ok-ranking.ranking.ranks) c.in_ok-ranking.ensures.peeled (c.in-None.ensures.none refl)

pub returns-in-None-clause-rising : goal.returns-in-None-clause-rising
returns-in-None-clause-rising c =
    ranks_rise (hops_by c.args.returns c.args.plan.now) (is_nominated c.args.plan.now) (rank_at c.in_ok-ranking.ranking.ranks)
    (λ line next hop. (hop_parts c.args.returns c.args.plan.now line next hop).1) c.in_ok-ranking.ensures.peeled (c.in-None.ensures.none refl)

pub returns-in_ok-first_cycle-in-Some-clause-within : goal.returns-in_ok-first_cycle-in-Some-clause-within
returns-in_ok-first_cycle-in-Some-clause-within c =
    All_within-first c.args.returns c.args.plan.now (numbers c.in_ok-first_cycle-in-Some.field-0) c.in_ok-first_cycle-in-Some.ensures
