use Rattle.std.proofs.Common.{sym, ap, subst, ◌∙◌}
use Rattle.std.specs.Prelude.{◌+◌, ◌*◌}
use Rattle.net_rules.specs.Settling.{IsGreatest, IsDelay}
use Rattle.cycle_plan.proofs.FailureBound.{bound-is}
use Rattle.cycle_plan.proofs.failures.failure_bound.Goals as goal

pub returns : goal.returns
returns c = record {
  bound =
      bound-is c.args.plan.now c.args.ranking.now c.in_ok-longest.longest c.longest_holdoff.result c.from-delay.result c.high_levels.result
      (c.longest_holdoff.result + c.time_of_turns.result + 2 * c.from-delay.result) c.requires.done c.requires.ranked c.in_ok-longest.ensures.longest
      (subst (λ d. IsGreatest (IsDelay c.args.plan.now) d) (sym c.from-delay.ensures) c.greatest_delay.ensures.greatest) c.longest_holdoff.ensures.greatest
      c.high_levels.ensures.high
      (ap (λ n. c.longest_holdoff.result + n + 2 * c.from-delay.result)
      (c.time_of_turns.ensures.turns ∙ ap (λ n. n * c.in_ok-longest.longest) c.planned_levels-levels.ensures.count));
}
