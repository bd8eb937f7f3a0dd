use Rattle.std.proofs.Common.{◌+◌, ◌++◌, subst, ap, ◌∙◌, sym}
use Rattle.std.specs.Prelude.{codes}
use Rattle.net_rules.specs.Signals.{signals_by}
use Rattle.net_rules.specs.History.{out_at}
use Rattle.sync_net.specs.Standing.{ElementStands}
use Rattle.trace_report.specs.Report.{element_rows, conditions_at}
use Rattle.sync_text.proofs.PutRows.{one-number}
use Rattle.trace_report.proofs.inputs.put_inputs.Goals as goal

pub loop-element-preserved : goal.loop-element-preserved
loop-element-preserved c = λ all is.
    let plan = c.args.net.now.plan in
    let stands = subst (λ p. ElementStands p (signals_by p all) (out_at p (signals_by p all)) c.loop-element.element (c.args.until + 1) c.element.result.now)
    (sym c.plan-plan.ensures) (c.element.ensures.stands all (c.args.until + 1) is) in
    c.in_ok-put_element.ensures.put all stands
    ∙ one-number (element_rows plan (conditions_at plan all c.args.until)) c.loop-element.element (c.args.text.now ++ codes "inputs\n") c.loop-element.text _ (c.loop-element.invariant all is)
    (ap (λ p. element_rows p (conditions_at p all c.args.until) c.loop-element.element) c.plan-plan.ensures)
