use Rattle.plan_gen.proofs.LadderText.{links_put}
use Rattle.plan_gen.proofs.text.put_links.Goals as goal

pub loop-element-preserved : goal.loop-element-preserved
loop-element-preserved c =
    links_put c.loop-element.element c.args.text.now c.loop-element.text c.put_links_up_to.new.text c.loop-element.invariant c.in_ok-put_links_up_to.ensures
