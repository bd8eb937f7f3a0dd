use Rattle.std.proofs.Common.{◌<◌, ◌++◌, [], length, ap, sym, ◌∙◌, arith}
use Rattle.std.specs.Prelude.{codes}
use Rattle.std.specs.Option.{option_map_or}
use Rattle.std.proofs.lemmas.Option.{slice_get-get_or}
use Rattle.trace_report.specs.LastParts.{trace_row, trace_row_of}
use Rattle.sync_text.proofs.PutRows.{one-number}
use Rattle.trace_report.proofs.last_parts.put_traces.Goals as goal

pub loop-element-preserved : goal.loop-element-preserved
loop-element-preserved c =
    let plan = c.args.plan.now in
    let endings = c.args.endings.now in
    let inside : c.loop-element.element < length endings = omega (arith, c.loop-element-test.true, c.elements-element-end.ensures.count, c.requires.count) in
    c.in_ok-put_trace.ensures.put
    ∙ one-number (trace_row_of plan endings) c.loop-element.element (c.args.text.now ++ codes "traces\n") c.loop-element.text _ c.loop-element.invariant
    (ap (λ o. option_map_or (trace_row plan c.loop-element.element) o []) (sym (slice_get-get_or endings c.loop-element.element _ inside)))
