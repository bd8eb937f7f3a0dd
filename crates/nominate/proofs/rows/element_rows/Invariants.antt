use Rattle.std.proofs.Common.{◌≡◌, ◌++◌, map, drop}
use Rattle.sync_topo.specs.RowsOfPlan.{row_of_element}
use Rattle.nominate.proofs.rows.element_rows.Given as goal

abbrev pub invariant-loop-element : goal.invariant-loop-element
invariant-loop-element l = l.rows ++ map row_of_element (drop l.element l.plan.elements) ≡ map row_of_element l.plan.elements
