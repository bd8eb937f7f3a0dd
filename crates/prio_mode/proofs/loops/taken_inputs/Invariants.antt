use Rattle.std.proofs.Common.{◌≡◌, take}
use Rattle.prio_mode.specs.private.Running.{inputs_shown}
use Rattle.prio_mode.proofs.loops.taken_inputs.Given as goal

-- what those behind take
abbrev pub invariant-loop-one : goal.invariant-loop-one
invariant-loop-one l = l.inputs.items ≡ inputs_shown (take l.one-index l.seen)
