use Rattle.std.proofs.Common.{codes}
use Rattle.plan_file.specs.Writing.{link_table}
use Rattle.plan_file.proofs.Puts.{row_put}
use Rattle.plan_file.proofs.writing.put_links.Goals as goal

pub loop-link-preserved : goal.loop-link-preserved
loop-link-preserved c =
    row_put (codes "link") (link_table c.args.plan.now) c.args.plan.now.links c.loop-link.link c.link-link.result.now c.args.text.now c.loop-link.text c.put_link.new.text c.link-link.ensures.link c.loop-link.invariant (rw (c.element_name.ensures, c.element_name-in-loop-link.ensures) at c.in_ok-put_link.ensures)
