use Rattle.std.proofs.Common.{◌<◌, ◌+◌, ℕ, length, slice_index_or}
use Rattle.sync_ql.specs.declared.levels.Level.{Level}
use Rattle.sync_sweep.proofs.counted_levels.CountedLevels.greatest_place.Given as goal

-- no level has one of the places behind, from the last on
abbrev pub invariant-loop-below : goal.invariant-loop-below
invariant-loop-below l = (k : ℕ) (other : Level) → k < length l.self → (slice_index_or l.self k other).place + l.below < 16
