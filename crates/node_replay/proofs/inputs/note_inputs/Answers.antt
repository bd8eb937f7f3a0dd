use Rattle.std.proofs.Common.{ap, sym, ◌∙◌}
use Rattle.node_replay.specs.private.Keeping.{input_after}
use Rattle.node_replay.proofs.RowWords.{step-map}
use Rattle.node_replay.proofs.inputs.note_inputs.Goals as goal

pub loop-input-preserved : goal.loop-input-preserved
loop-input-preserved c =
    step-map (input_after c.args.here.now c.args.now) c.args.inputs.now c.loop-input.inputs c.loop-input.input-index c.input-item.result c.input_after.result
    c.loop-input-test.true c.loop-input.invariant c.input-item.is (c.input_after.ensures ∙ ap (input_after c.args.here.now c.args.now) (sym c.input-item.is))
