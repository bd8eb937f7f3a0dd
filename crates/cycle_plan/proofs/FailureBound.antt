-- The bound after failures, put together.
use Rattle.std.proofs.Common.{◌≡◌, ℕ, None}
use Rattle.std.specs.Prelude.{◌≢◌}
use Rattle.sync_topo.specs.declared.returns.ReturnRule.TheVariants.{BarredFromLast}
use Rattle.sync_topo.specs.Topology.{Topology}
use Rattle.sync_topo.specs.Lines.{is_nominated, IsNominated}
use Rattle.sync_topo.specs.Hops.{bears_on}
use Rattle.rank_cert.specs.Ranks.{rank_at, rank_of}
use Rattle.net_rules.specs.Settling.{IsGreatest, IsDelay}
use Rattle.net_rules.specs.Losing.{IsHoldoff, IsLineTime}
use Rattle.reach_rules.specs.Agreement.{IsHighCount, IsAgreeing}
use Rattle.reach_rules.specs.Failing.{AreTimes, count_below, failed_in, is_planned, IsFailureBound}
use Rattle.cycle_plan.specs.private.GoingBack.{IsDone}
use Rattle.cycle_plan.specs.declared.ranking.Ranking.{Ranking}
use Rattle.cycle_plan.proofs.HopFacts.{hop_parts}
use Rattle.cycle_plan.proofs.TimeLaws.{time_by, times-exist}
use Rattle.cycle_plan.proofs.Walks.{ranks_rise}

pub bound-is : (plan : Topology) (ranking : Ranking) (longest holdoff delay high total : ℕ) → IsDone BarredFromLast plan ranking
    → ((line : ℕ) → IsNominated plan line → rank_at ranking.ranks line ≢ None)
    → ((time : ℕ → ℕ) → AreTimes plan time → IsGreatest (IsLineTime plan time) longest)
    → IsGreatest (IsDelay plan) delay → IsGreatest (IsHoldoff plan) holdoff → IsHighCount plan high
    → total ≡ failed_in holdoff (count_below (is_planned plan) high) longest delay → IsFailureBound (is_planned plan) plan total
bound-is plan ranking longest holdoff delay high total done ranked is_longest is_delay is_holdoff is_high is = record {
  time = time_by plan (rank_of ranking.ranks) rising;
  times = times;
  longest = longest;
  greatest_time = is_longest (time_by plan (rank_of ranking.ranks) rising) times;
  delay = delay;
  greatest_delay = is_delay;
  holdoff = holdoff;
  greatest_holdoff = is_holdoff;
  high = high;
  are_high = is_high;
  is = is;
}
  where
    rising : IsAgreeing plan (rank_of ranking.ranks)
    rising = ranks_rise (bears_on plan) (is_nominated plan) (rank_at ranking.ranks) (λ line next hop. (hop_parts BarredFromLast plan line next hop).1) done.peeled ranked

    times : AreTimes plan (time_by plan (rank_of ranking.ranks) rising)
    times = times-exist plan (rank_of ranking.ranks) rising
