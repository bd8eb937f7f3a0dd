use Rattle.std.proofs.Common.{map, ap, sym, subst}
use Rattle.std.specs.Prelude.{◌+◌}
use Rattle.sync_topo.specs.Hops.{hops}
use Rattle.net_rules.specs.Settling.{IsGreatest, IsDelay}
use Rattle.net_rules.proofs.Backs.{hop-nominates}
use Rattle.cycle_plan.proofs.BoundLemmas.{cyclic-none, rank-all, ranked-all}
use Rattle.cycle_plan.proofs.bound.settling_bound.Goals as goal

pub returns-in-Cycle : goal.returns-in-Cycle
returns-in-Cycle c = record {
  bound = λ other is. cyclic-none (hops c.args.plan.now) c.args.plan.now (map (λ line. line.0) c.in-Cycle.field-0) (hop-nominates c.args.plan.now)
      (rw (c.in-Cycle.is) at c.in_ok-rank_plan.ensures.first) is.ranked;
}

pub returns : goal.returns
returns c =
    let least = rw (c.in-Ranks.is) at c.in_ok-rank_plan.ensures.least in
    record {
      bound = record {
        one_way = c.in_ok-is_one_way.ensures.one_way c.if-not-branch.false;
        ranked = ranked-all (hops c.args.plan.now) c.args.plan.now _ least;
        delay = c.from-delay.result;
        greatest_delay = subst (λ d. IsGreatest (IsDelay c.args.plan.now) d) (sym c.from-delay.ensures) c.greatest_delay.ensures.greatest;
        rank = c.greatest_rank-rank.result;
        greatest_rank = rank-all (hops c.args.plan.now) c.args.plan.now _ c.greatest_rank-rank.result least c.greatest_rank-rank.ensures.greatest;
        wait = c.longest_wait-wait.result;
        greatest_wait = c.longest_wait-wait.ensures.longest;
        is = ap (λ n. c.args.last + c.longest_wait-wait.result + 1 + n) c.time_of_ranks.ensures.time;
      };
    }
