use Rattle.std.proofs.Common.{refl}
use Rattle.std.specs.Prelude.{codes}
use Rattle.sync_text.proofs.PutRows.{one-number}
use Rattle.plan_texts.specs.Hops.{hops_row}
use Rattle.plan_texts.proofs.hops.hops_text.Goals as goal

pub loop-element-preserved : goal.loop-element-preserved
loop-element-preserved c =
    rw c.in_ok-put_row.ensures
    (one-number (hops_row c.args.plan.now c.args.hops.now) c.loop-element.element (codes "element,hops,from\n") c.loop-element.text
    (hops_row c.args.plan.now c.args.hops.now c.loop-element.element) c.loop-element.invariant refl)
