use Rattle.std.proofs.Common.{map}
use Rattle.sync_topo.specs.RowsOfPlan.{row_of_source}
use Rattle.nominate.proofs.RowLemmas.{rows-more}
use Rattle.nominate.proofs.rows.source_rows.Goals as goal

pub loop-source-preserved : goal.loop-source-preserved
loop-source-preserved c =
    rw (c.in_ok-push.ensures.ok, c.in_ok-source_row.ensures)
    (rows-more (row_of_source c.args.plan.now) c.args.plan.now.sources c.loop-source.source c.source.result.now c.loop-source.rows (map (row_of_source c.args.plan.now) c.args.plan.now.sources) c.source.ensures.source c.loop-source.invariant)
