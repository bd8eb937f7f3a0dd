use Rattle.std.proofs.Common.{◌≡◌, ◌++◌, drop}
use Rattle.node_replay.specs.private.Telling.{told_from}
use Rattle.node_replay.proofs.told.tell_inputs.Given as goal

-- what is left of the inputs is still to be told
abbrev pub invariant-loop-place : goal.invariant-loop-place
invariant-loop-place l = l.told ++ told_from l.place (drop l.place l.inputs) ≡ l.fn.told ++ told_from 0 l.inputs
