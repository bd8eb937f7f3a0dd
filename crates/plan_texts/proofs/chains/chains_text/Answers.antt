use Rattle.std.proofs.Common.{refl}
use Rattle.std.specs.Prelude.{codes}
use Rattle.sync_text.proofs.PutRows.{one-number}
use Rattle.plan_texts.specs.Chains.{chains_row}
use Rattle.plan_texts.proofs.chains.chains_text.Goals as goal

pub loop-element-preserved : goal.loop-element-preserved
loop-element-preserved c =
    rw c.in_ok-put_row.ensures
    (one-number (chains_row c.args.plan.now c.args.chains.now) c.loop-element.element (codes "element,links,since,clocks\n") c.loop-element.text
    (chains_row c.args.plan.now c.args.chains.now c.loop-element.element) c.loop-element.invariant refl)
