use Rattle.std.proofs.Common.{◌≡◌, ◌++◌, map, take, drop}
use Rattle.node_replay.specs.private.Keeping.{input_after}
use Rattle.node_replay.proofs.inputs.note_inputs.Given as goal

-- the inputs so far have taken in the rows
abbrev pub invariant-loop-input : goal.invariant-loop-input
invariant-loop-input l = l.inputs ≡ map (input_after l.here l.now) (take l.input-index l.fn.inputs) ++ drop l.input-index l.fn.inputs
