use Rattle.std.proofs.Common.{◌≡◌, ◌+◌, ◌++◌, ap, ◌∙◌}
use Rattle.std.specs.Prelude.{codes}
use Rattle.sync_topo.specs.Topology.{Topology}
use Rattle.net_rules.specs.Signals.{signals_by}
use Rattle.net_rules.specs.History.{out_at}
use Rattle.sync_text.proofs.PutRows.{one-number}
use Rattle.inspection.specs.Inspection.{element_after, element_in, element_row}
use Rattle.inspection.proofs.Accessors.{at-until}
use Rattle.inspection.proofs.elements.put_elements.Goals as goal

pub loop-element-preserved : goal.loop-element-preserved
loop-element-preserved c = λ all until is.
    let plan = c.args.net.now.plan in
    let signals = signals_by plan all in
    let out = out_at plan signals in
    let e = c.loop-element.element in
    let seen : c.inspected-it.result ≡ element_in plan signals out until e =
    at-until (element_after plan e) plan signals out e until c.element.result.now c.inspected-it.result (c.element.ensures.stands all (until + 1) is)
    (λ past n stands in_time later. (rw c.plan-plan.ensures at c.inspected-it.ensures.chose) past n stands in_time) in
    c.in_ok-put_row.ensures.put
    ∙ one-number (λ element. element_row plan element (element_in plan signals out until element)) e (c.args.text.now ++ codes "elements\n") c.loop-element.text _ (c.loop-element.invariant all until is)
    (ap (λ (p : Topology). element_row p e c.inspected-it.result) c.plan-plan.ensures ∙ ap (element_row plan e) seen)
