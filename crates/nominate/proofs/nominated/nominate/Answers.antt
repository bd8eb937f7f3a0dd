use Rattle.std.proofs.Common.{sym, subst}
use Rattle.sync_topo.specs.PlanRows.{plan_of_rows}
use Rattle.net_rules.specs.Safety.{IsLoopFree}
use Rattle.net_rules.specs.Settling.{IsOneWay}
use Rattle.nominate.specs.Nomination.{nominated_plan}
use Rattle.nominate.proofs.NominatedLaws.{nominated-loop_free, nominated-one_way, nominated-rows, first-for_any}
use Rattle.nominate.proofs.RowLemmas.{same_answer, not_both}
use Rattle.nominate.proofs.nominated.nominate.Goals as goal

pub returns-in-Ok-clause-nominated : goal.returns-in-Ok-clause-nominated
returns-in-Ok-clause-nominated c =
    let rows = nominated-rows c.args.plan.now c.in_ok-hops.hops c.in_ok-priorities.ensures.well_formed c.in_ok-hops.ensures.least c.as_slice.result.now c.in_ok-rows.rows
    (rw c.as_slice.ensures.value c.in_ok-priorities.ensures.given) c.in_ok-rows.ensures c.in-Ok.ensures.again in
    record {
      counts = c.in_ok-hops.hops;
      are = c.in_ok-hops.ensures.least;
      is = same_answer (plan_of_rows c.in_ok-rows.rows) (nominated_plan c.args.plan.now c.in_ok-hops.hops) c.in-Ok.nominated rows c.in-Ok.ensures.exact;
    }

pub returns-in-Ok-clause-first : goal.returns-in-Ok-clause-first
unfolding returns-in-Ok-clause-nominated
returns-in-Ok-clause-first c = λ counts element hops are counted.
    first-for_any c.args.plan.now c.in_ok-hops.hops c.in_ok-priorities.ensures.well_formed c.in_ok-hops.ensures.least c.in-Ok.nominated (returns-in-Ok-clause-nominated c).is counts element hops are counted

pub returns-in-Ok-clause-loop_free : goal.returns-in-Ok-clause-loop_free
unfolding returns-in-Ok-clause-nominated
returns-in-Ok-clause-loop_free c =
    subst IsLoopFree (sym (returns-in-Ok-clause-nominated c).is)
    (nominated-loop_free c.args.plan.now c.in_ok-hops.hops c.in_ok-priorities.ensures.well_formed c.in_ok-hops.ensures.least)

pub returns-in-Ok-clause-one_way : goal.returns-in-Ok-clause-one_way
unfolding returns-in-Ok-clause-nominated
returns-in-Ok-clause-one_way c =
    subst IsOneWay (sym (returns-in-Ok-clause-nominated c).is)
    (nominated-one_way c.args.plan.now c.in_ok-hops.hops c.in_ok-priorities.ensures.well_formed c.in_ok-hops.ensures.least)

pub unreachable-requires : goal.unreachable-requires
unreachable-requires c =
    let rows = nominated-rows c.args.plan.now c.in_ok-hops.hops c.in_ok-priorities.ensures.well_formed c.in_ok-hops.ensures.least c.as_slice.result.now c.in_ok-rows.rows
    (rw c.as_slice.ensures.value c.in_ok-priorities.ensures.given) c.in_ok-rows.ensures c.in-Err-Refused.ensures.again in
    not_both (plan_of_rows c.in_ok-rows.rows) (nominated_plan c.args.plan.now c.in_ok-hops.hops) _ rows (rw c.in-Err-Refused.field-0-is at c.in-Err-Refused.ensures.exact)
