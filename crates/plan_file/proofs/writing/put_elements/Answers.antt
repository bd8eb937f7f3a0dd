use Rattle.std.proofs.Common.{codes}
use Rattle.plan_file.specs.Writing.{element_table}
use Rattle.plan_file.proofs.Puts.{row_put}
use Rattle.plan_file.proofs.writing.put_elements.Goals as goal

pub loop-element-preserved : goal.loop-element-preserved
loop-element-preserved c =
    row_put (codes "element") element_table c.args.plan.now.elements c.loop-element.element c.element.result.now c.args.text.now c.loop-element.text c.put_element.new.text c.element.ensures.element c.loop-element.invariant c.in_ok-put_element.ensures
