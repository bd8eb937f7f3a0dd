use Rattle.std.proofs.Common.{◌≡◌, ◌++◌, drop}
use Rattle.std.specs.Option.{option_map}
use Rattle.sync_sweep.specs.private.Chunks.{joined}
use Rattle.sync_sweep.proofs.chunks.join_worked.Given as goal

-- what was joined so far and those of the parts to come are those of all parts
abbrev pub invariant-loop-part : goal.invariant-loop-part
invariant-loop-part l = option_map (λ rest. l.worked ++ rest) (joined (drop l.part-index l.parts)) ≡ joined l.parts
