use Rattle.std.proofs.Common.{map}
use Rattle.std.specs.Prelude.{slice_index}
use Rattle.sync_topo.specs.RowsOfPlan.{row_of_link}
use Rattle.nominate.specs.Nomination.{with_priorities}
use Rattle.nominate.proofs.RowLemmas.{links-more}
use Rattle.nominate.proofs.rows.link_rows.Goals as goal

pub loop-link-preserved : goal.loop-link-preserved
loop-link-preserved c =
    rw (c.in_ok-push.ensures.ok, c.in_ok-row.ensures)
    (links-more (row_of_link c.args.plan.now) (λ line. slice_index c.args.priorities.now line) c.args.plan.now.links c.loop-link.link c.link.result.now c.loop-link.rows
    (map (row_of_link c.args.plan.now) (with_priorities (λ line. slice_index c.args.priorities.now line) 0 c.args.plan.now.links)) c.link.ensures.link c.loop-link.invariant)
