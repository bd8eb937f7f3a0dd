use Rattle.std.proofs.Common.{◌≡◌, ◌<◌, map, length, sym, subst, ap, ◌∙◌}
use Rattle.std.proofs.lemmas.List.{with_items_is, length-map}
use Rattle.std.specs.List.{All}
use Rattle.sync_ql.specs.Told.{FitsElement}
use Rattle.net_rules.specs.History.{settings_of}
use Rattle.sync_topo.specs.Lines.{inputs_of, line_count}
use Rattle.node_replay.specs.declared.lines_out.LineOut.{LineOut}
use Rattle.node_replay.specs.private.Keeping.{input_after}
use Rattle.node_replay.specs.private.Telling.{all_told}
use Rattle.node_replay.proofs.KeptLevels.{kept-all, ids-after, lines-within}
use Rattle.node_replay.proofs.FittingWords.{words-fit}
use Rattle.node_replay.proofs.running.NodeRun.take_rows.Goals as goal

pub step_alone-requires-clause-fits : goal.step_alone-requires-clause-fits
step_alone-requires-clause-fits c =
    let plan = c.args.plan.now in
    let place = c.args.element in
    let here = c.args.here.now in
    let run = c.requires.run in
    let inputs = map (input_after here c.args.self.now.next) c.args.self.now.inputs.items in
    let noted : c.note_inputs.new.inputs ≡ map (input_after c.args.here.now c.args.self.now.next) c.args.self.now.inputs.items =
    c.note_inputs.ensures ∙ ap (map (input_after here c.args.self.now.next)) c.as_mut_slice.ensures.value in
    let count : length c.note_inputs.new.inputs ≡ c.args.self.now.inputs.len =
    ap length noted ∙ length-map c.args.self.now.inputs.items (input_after here c.args.self.now.next) ∙ sym c.args.self.now.inputs.ok.0 in
    let items : c.as_slice-inputs.result.now ≡ map (input_after c.args.here.now c.args.self.now.next) c.args.self.now.inputs.items =
    c.as_slice-inputs.ensures.value ∙ with_items_is c.args.self.now.inputs c.note_inputs.new.inputs count ∙ noted in
    let told = c.as_slice.ensures ∙ c.in_ok-tell_all.ensures
    ∙ ap (λ ids. all_told ids place here c.as_slice-inputs.result.now) c.inputs.ensures.inputs
    ∙ ap (all_told (inputs_of plan place) place here) items in
    subst (λ settings. All (FitsElement settings) c.as_slice.result.now) (sym run.settings)
    (subst (All (FitsElement (settings_of plan place))) (sym told)
    (words-fit plan place c.inputs.ensures.well_formed c.requires.within here inputs
    (ids-after here c.args.self.now.next c.args.self.now.inputs.items ∙ run.ids)
    (kept-all plan place here c.args.self.now.next c.args.self.now.inputs.items c.requires.here run.options)))

pub note_lines_out-requires-clause-lines : goal.note_lines_out-requires-clause-lines
note_lines_out-requires-clause-lines c =
    subst (All (λ (out : LineOut). out.line.0 < line_count c.args.plan.now)) (sym c.as_mut_slice-2.ensures.value)
    (lines-within c.args.plan.now c.args.element c.args.self.now.lines_out.items c.requires.run.lines)
