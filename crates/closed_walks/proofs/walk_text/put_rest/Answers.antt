use Rattle.std.proofs.Common.{◌++◌, map, ap, sym, ◌∙◌, refl}
use Rattle.std.specs.Prelude.{codes}
use Rattle.std.specs.List.{concat}
use Rattle.std.proofs.lemmas.List.{take_all}
use Rattle.sync_topo.specs.declared.input.LineId.{LineId}
use Rattle.sync_topo.specs.Lines.{line_name}
use Rattle.std.proofs.lemmas.Simd.{map-map}
use Rattle.sync_text.proofs.PutRows.{one-row}
use Rattle.closed_walks.proofs.walk_text.put_rest.Goals as goal

pub loop-line-preserved : goal.loop-line-preserved
loop-line-preserved c =
    c.in_ok-put_line.ensures.put
    ∙ one-row (λ (line : LineId). codes " " ++ line_name c.args.plan.now line.0) c.args.rest.now c.loop-line.line-index _ c.args.text.now c.loop-line.text
    _ c.loop-line-test.true c.loop-line.invariant refl

pub returns : goal.returns
returns c = record {
  put =
      c.loop-line.invariant
      ∙ ap (λ lines. c.args.text.now ++ concat (map (λ (line : LineId). codes " " ++ line_name c.args.plan.now line.0) lines)) (take_all c.loop-line.line-index c.args.rest.now c.loop-line-test.false)
      ∙ ap (λ rows. c.args.text.now ++ concat rows) (sym (map-map (λ line. codes " " ++ line_name c.args.plan.now line) (λ (line : LineId). line.0) c.args.rest.now));
}
