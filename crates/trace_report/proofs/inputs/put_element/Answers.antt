use Rattle.std.proofs.Common.{◌++◌, append_assoc, arith, length, slice_get, ap, ◌∙◌, sym}
use Rattle.std.specs.Prelude.{codes}
use Rattle.std.proofs.Math.ListN.{get_or}
use Rattle.std.proofs.lemmas.Option.{slice_get-get_or}
use Rattle.sync_topo.specs.Lines.{line_input}
use Rattle.net_rules.specs.Signals.{signals_by}
use Rattle.net_rules.specs.History.{out_at}
use Rattle.trace_report.specs.Words.{condition_text, input_row}
use Rattle.trace_report.specs.Report.{conditions_at}
use Rattle.sync_text.proofs.PutRows.{one-row}
use Rattle.trace_report.proofs.ReportLaws.{inputs-count, condition-now}
use Rattle.trace_report.proofs.inputs.put_element.Goals as goal

pub passed_until-passed-requires : goal.passed_until-passed-requires
passed_until-passed-requires c = record {
  inputs = ap (λ xs. length xs) c.inputs-inputs.ensures.inputs ∙ inputs-count c.args.plan.now c.args.number c.args.element.now c.requires.settings;
}

pub cond-requires : goal.cond-requires
cond-requires c = record {
  place = omega (arith, c.loop-place-test.true, ap (λ xs. length xs) c.inputs-inputs.ensures.inputs ∙ inputs-count c.args.plan.now c.args.number c.args.element.now c.requires.settings);
}

pub loop-place-preserved : goal.loop-place-preserved
loop-place-preserved c = λ all stands.
    let plan = c.args.plan.now in
    let signals = signals_by plan all in
    let out = out_at plan signals in
    let input = get_or c.inputs-inputs.result.now c.loop-place.place (line_input 0) in
    let at = ap (λ xs. slice_get xs c.loop-place.place) (sym c.inputs-inputs.ensures.inputs) ∙ slice_get-get_or c.inputs-inputs.result.now c.loop-place.place (line_input 0) c.loop-place-test.true in
    let condition = condition-now plan signals out c.args.number c.args.until c.loop-place.place (length c.inputs-inputs.result.now) c.passed_until-passed.result input c.args.element.now c.cond.result
    at c.loop-place-test.true stands c.cond.ensures.last c.cond.ensures.left c.passed_until-passed.ensures.passed in
    c.in_ok-put.ensures.ok
    ∙ ap (λ t. t ++ codes "\n") c.in_ok-put_condition.ensures.put
    ∙ append_assoc c.loop-place.text (condition_text plan c.args.number input c.later-condition.result) (codes "\n")
    ∙ one-row (λ i. input_row plan c.args.number i (conditions_at plan all c.args.until i)) c.inputs-inputs.result.now c.loop-place.place (line_input 0) c.args.text.now c.loop-place.text
    (input_row plan c.args.number input c.later-condition.result) c.loop-place-test.true (c.loop-place.invariant all stands)
    (ap (input_row plan c.args.number input) (c.later-condition.ensures ∙ condition))
