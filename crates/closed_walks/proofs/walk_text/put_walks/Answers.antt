use Rattle.std.proofs.Common.{◌++◌, map, List, ap, sym, ◌∙◌}
use Rattle.std.specs.List.{concat}
use Rattle.std.proofs.lemmas.List.{take_all}
use Rattle.std.proofs.lemmas.Simd.{map-map}
use Rattle.sync_text.proofs.PutRows.{one-row}
use Rattle.sync_topo.specs.declared.input.LineId.{LineId}
use Rattle.sync_topo.specs.Lines.{numbers}
use Rattle.closed_walks.specs.WalkText.{walk_row}
use Rattle.closed_walks.proofs.walk_text.put_walks.Goals as goal

pub loop-walk-preserved : goal.loop-walk-preserved
loop-walk-preserved c =
    let row = λ (walk : List LineId). walk_row c.args.plan.now (numbers walk) in
    c.in_ok-put_walk.ensures.put
    ∙ one-row row c.args.walks.now c.loop-walk.walk-index c.walk-item.result c.args.text.now c.loop-walk.text
    (row c.as_slice.result.now) c.loop-walk-test.true c.loop-walk.invariant (ap row (c.as_slice.ensures ∙ c.walk-item.is))

pub returns : goal.returns
returns c = record {
  put =
      c.loop-walk.invariant
      ∙ ap (λ walks. c.args.text.now ++ concat (map (λ (walk : List LineId). walk_row c.args.plan.now (numbers walk)) walks)) (take_all c.loop-walk.walk-index c.args.walks.now c.loop-walk-test.false)
      ∙ ap (λ rows. c.args.text.now ++ concat rows) (sym (map-map (walk_row c.args.plan.now) numbers c.args.walks.now));
}
