use Rattle.std.proofs.Common.{codes}
use Rattle.plan_file.specs.Writing.{source_table}
use Rattle.plan_file.proofs.Puts.{row_put}
use Rattle.plan_file.proofs.writing.put_sources.Goals as goal

pub loop-source-preserved : goal.loop-source-preserved
loop-source-preserved c =
    row_put (codes "source") (source_table c.args.plan.now) c.args.plan.now.sources c.loop-source.source c.source-source.result.now c.args.text.now c.loop-source.text c.put_source.new.text c.source-source.ensures.source c.loop-source.invariant (rw c.element_name.ensures at c.in_ok-put_source.ensures)
