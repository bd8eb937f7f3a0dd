use Rattle.std.proofs.Common.{◌++◌, arith}
use Rattle.node_replay.specs.private.Telling.{told_from}
use Rattle.node_replay.proofs.RowWords.{step-told, end-told}
use Rattle.node_replay.proofs.told.tell_inputs.Goals as goal

pub loop-place-preserved : goal.loop-place-preserved
loop-place-preserved c =
    step-told c.args.inputs.now c.loop-place.place c.index-inputs-place.result c.loop-place.told c.tell_input.new.told
    (c.args.told.now ++ told_from 0 c.args.inputs.now) c.loop-place-test.true c.index-inputs-place.is c.loop-place.invariant c.in_ok-tell_input.ensures

pub returns : goal.returns
returns c =
    end-told c.args.inputs.now c.loop-place.place c.loop-place.told
    (c.args.told.now ++ told_from 0 c.args.inputs.now) (omega (arith, c.loop-place-test.false)) c.loop-place.invariant
