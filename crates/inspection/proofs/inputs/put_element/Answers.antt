use Rattle.std.proofs.Common.{arith, length, slice_get, ap, ◌∙◌, sym}
use Rattle.std.proofs.Math.ListN.{get_or}
use Rattle.std.proofs.lemmas.Option.{slice_get-get_or}
use Rattle.sync_ql.specs.Moment.{level_now}
use Rattle.sync_topo.specs.Lines.{line_input}
use Rattle.net_rules.specs.Signals.{signals_by}
use Rattle.net_rules.specs.History.{out_at}
use Rattle.net_rules.proofs.NetLaws.{level-at}
use Rattle.sync_text.proofs.PutRows.{one-number}
use Rattle.trace_report.proofs.ReportLaws.{inputs-count, condition-now}
use Rattle.inspection.specs.Verdict.{verdict_at}
use Rattle.inspection.specs.Inspection.{row_in}
use Rattle.inspection.proofs.Accessors.{at-until}
use Rattle.inspection.proofs.Shown.{input-shown}
use Rattle.inspection.proofs.inputs.put_element.Goals as goal

pub passed_until-passed-requires : goal.passed_until-passed-requires
passed_until-passed-requires c = record {
  inputs = ap (λ xs. length xs) c.inputs-inputs.ensures.inputs ∙ inputs-count c.args.plan.now c.args.number c.args.element.now c.requires.settings;
}

pub cond-requires : goal.cond-requires
cond-requires c = record {
  place = omega (arith, c.loop-place-test.true, ap (λ xs. length xs) c.inputs-inputs.ensures.inputs ∙ inputs-count c.args.plan.now c.args.number c.args.element.now c.requires.settings);
}

pub level_of-requires : goal.level_of-requires
level_of-requires c = record {
  place = omega (arith, c.loop-place-test.true, ap (λ xs. length xs) c.inputs-inputs.ensures.inputs ∙ inputs-count c.args.plan.now c.args.number c.args.element.now c.requires.settings);
}

pub verdict_of-requires : goal.verdict_of-requires
verdict_of-requires c = record {
  place = omega (arith, c.loop-place-test.true, ap (λ xs. length xs) c.inputs-inputs.ensures.inputs ∙ inputs-count c.args.plan.now c.args.number c.args.element.now c.requires.settings);
}

pub loop-place-preserved : goal.loop-place-preserved
loop-place-preserved c = λ all stands.
    let plan = c.args.plan.now in
    let signals = signals_by plan all in
    let out = out_at plan signals in
    let e = c.args.number in
    let place = c.loop-place.place in
    let until = c.args.until in
    let element = c.args.element.now in
    let input = get_or c.inputs-inputs.result.now place (line_input 0) in
    let at = ap (λ xs. slice_get xs place) (sym c.inputs-inputs.ensures.inputs) ∙ slice_get-get_or c.inputs-inputs.result.now place (line_input 0) c.loop-place-test.true in
    let condition = condition-now plan signals out e until place (length c.inputs-inputs.result.now) c.passed_until-passed.result input element c.cond.result
    at c.loop-place-test.true stands c.cond.ensures.last c.cond.ensures.left c.passed_until-passed.ensures.passed in
    let level = at-until (λ settings past. level_now place past) plan signals out e until element c.level_of.result stands c.level_of.ensures.level ∙ level-at plan signals out e until place input at in
    let verdict = at-until (λ settings past. verdict_at settings past place) plan signals out e until element c.verdict_of.result stands c.verdict_of.ensures.verdict in
    c.in_ok-put_row.ensures.put
    ∙ one-number (row_in plan signals out until e) place c.args.text.now c.loop-place.text _ (c.loop-place.invariant all stands)
    (input-shown plan signals out until e place input (record { condition = c.later.result; level = c.level_of.result; verdict = c.verdict_of.result }) at (c.later.ensures ∙ condition) level verdict)
