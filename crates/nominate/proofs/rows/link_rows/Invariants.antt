use Rattle.std.proofs.Common.{◌≡◌, ◌++◌, map, drop}
use Rattle.std.specs.Prelude.{slice_index}
use Rattle.sync_topo.specs.RowsOfPlan.{row_of_link}
use Rattle.nominate.specs.Nomination.{with_priorities}
use Rattle.nominate.proofs.rows.link_rows.Given as goal

abbrev pub invariant-loop-link : goal.invariant-loop-link
invariant-loop-link l =
    l.rows ++ map (row_of_link l.plan) (with_priorities (λ line. slice_index l.priorities line) l.link (drop l.link l.plan.links))
    ≡ map (row_of_link l.plan) (with_priorities (λ line. slice_index l.priorities line) 0 l.plan.links)
