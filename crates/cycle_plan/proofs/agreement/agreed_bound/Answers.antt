use Rattle.std.proofs.Common.{ap, sym, subst, ◌∙◌}
use Rattle.std.specs.Prelude.{◌+◌, ◌*◌}
use Rattle.sync_topo.specs.Hops.{bears_on}
use Rattle.net_rules.specs.Settling.{IsGreatest, IsDelay}
use Rattle.cycle_plan.proofs.BoundLemmas.{rank-all, ranked-all}
use Rattle.cycle_plan.proofs.agreement.agreed_bound.Goals as goal

pub returns : goal.returns
returns c = record {
  bound = record {
    ranked = ranked-all (bears_on c.args.plan.now) c.args.plan.now c.args.cert.now c.requires.least;
    delay = c.from-delay.result;
    greatest_delay = subst (λ d. IsGreatest (IsDelay c.args.plan.now) d) (sym c.from-delay.ensures) c.greatest_delay.ensures.greatest;
    rank = c.greatest_rank.result;
    greatest_rank = rank-all (bears_on c.args.plan.now) c.args.plan.now c.args.cert.now c.greatest_rank.result c.requires.least c.greatest_rank.ensures.greatest;
    wait = c.longest_wait-wait.result;
    greatest_wait = c.longest_wait-wait.ensures.longest;
    high = c.high_levels.result;
    are_high = c.high_levels.ensures.high;
    is = ap (λ n. c.longest_wait-wait.result + n + c.from-delay.result)
        (c.time_of_levels.ensures.levels ∙ ap (λ n. (c.high_levels.result + 1) * n) c.time_of_ranks-time.ensures.time);
  };
}
