use Rattle.std.proofs.Common.{map}
use Rattle.sync_topo.specs.RowsOfPlan.{row_of_element}
use Rattle.nominate.proofs.RowLemmas.{rows-more}
use Rattle.nominate.proofs.rows.element_rows.Goals as goal

pub loop-element-preserved : goal.loop-element-preserved
loop-element-preserved c =
    rw (c.in_ok-push.ensures.ok, c.in_ok-element_row.ensures)
    (rows-more row_of_element c.args.plan.now.elements c.loop-element.element c.element.result.now c.loop-element.rows (map row_of_element c.args.plan.now.elements) c.element.ensures.element c.loop-element.invariant)
