use Rattle.std.proofs.Common.{◌≡◌, ◌++◌, map, drop}
use Rattle.sync_topo.specs.RowsOfPlan.{row_of_source}
use Rattle.nominate.proofs.rows.source_rows.Given as goal

abbrev pub invariant-loop-source : goal.invariant-loop-source
invariant-loop-source l = l.rows ++ map (row_of_source l.plan) (drop l.source l.plan.sources) ≡ map (row_of_source l.plan) l.plan.sources
