use Rattle.std.proofs.Common.{take}
use Rattle.sync_sweep.specs.private.Spells.{AreTaken}
use Rattle.sync_sweep.proofs.spells.take_way.Given as goal

-- the places behind are counted, and all others are as they were
abbrev pub invariant-loop-place : goal.invariant-loop-place
invariant-loop-place l = AreTaken l.fn.spells l.next (take l.place-index l.places) l.spells l.way
