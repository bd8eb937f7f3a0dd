use Rattle.plan_gen.proofs.LadderText.{element_put}
use Rattle.plan_gen.proofs.text.put_elements.Goals as goal

pub loop-element-preserved : goal.loop-element-preserved
loop-element-preserved c =
    element_put c.loop-element.element c.args.text.now c.loop-element.text c.put_element.new.text c.loop-element.invariant
    (rw c.in_ok-ladder_element.ensures at c.in_ok-put_element.ensures)
