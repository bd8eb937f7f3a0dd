use Rattle.std.proofs.Common.{take}
use Rattle.sync_sweep.specs.private.Spells.{AreNotedSo}
use Rattle.sync_sweep.proofs.spells.note_worse.Given as goal

-- the places behind are noted, and all others are as they were
abbrev pub invariant-loop-place : goal.invariant-loop-place
invariant-loop-place l = AreNotedSo l.net l.levels l.now l.fn.spells (take l.place-index l.places) l.spells
