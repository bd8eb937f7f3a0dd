use Rattle.std.proofs.Common.{◌≡◌, map, take}
use Rattle.node_replay.specs.private.Starting.{new_input}
use Rattle.node_replay.proofs.starting.new_inputs.Given as goal

-- the inputs so far
abbrev pub invariant-loop-input : goal.invariant-loop-input
invariant-loop-input l = l.inputs ≡ map (new_input l.plan) (take l.input-index l.input-items)
