use Rattle.std.proofs.Common.{subst, ◌∙◌}
use Rattle.closed_walks.specs.Taking.{taken_in_list}
use Rattle.timings.specs.Timing.{IsTiming}
use Rattle.sync_sweep.proofs.timed.TimedTimer.new.Goals as goal

pub returns : goal.returns
returns c = record {
  taken = c.in_ok-taken.ensures.taking;
  same = c.in_ok-now.ensures ∙ c.as_slice.ensures.value;
  timing = subst (λ plan. IsTiming plan (taken_in_list c.in_ok-taken.taken.items) c.in_ok-timing.timing) c.plan.ensures
      (subst (λ list. IsTiming c.plan.result.now (taken_in_list list) c.in_ok-timing.timing) c.as_slice-2.ensures.value c.in_ok-timing.ensures.timing);
}
