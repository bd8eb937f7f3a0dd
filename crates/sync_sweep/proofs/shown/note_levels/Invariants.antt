use Rattle.std.proofs.Common.{◌≡◌, ◌<◌, ℕ, true, false, length, take, slice_index_or}
use Rattle.std.specs.Prelude.{nat_eq}
use Rattle.std.specs.List.{list_any}
use Rattle.sync_ql.specs.declared.levels.Level.{Level}
use Rattle.sync_element.specs.ElementState.{ElementState}
use Rattle.sync_sweep.specs.private.ShownNow.{ShowsLevel}
use Rattle.sync_sweep.proofs.shown.note_levels.Given as goal

-- the places behind are noted, and all others are as they were
abbrev pub invariant-loop-place : goal.invariant-loop-place
invariant-loop-place l = record {
  count : length l.levels ≡ length l.fn.levels;
  noted : (k : ℕ) (element : ElementState) (other : Level) → k < length l.net.plan.elements → list_any (nat_eq k) (take l.place-index l.places) ≡ true
      → ShowsLevel (slice_index_or l.net.elements k element) (slice_index_or l.levels k other);
  left : (k : ℕ) (other : Level) → list_any (nat_eq k) (take l.place-index l.places) ≡ false → slice_index_or l.levels k other ≡ slice_index_or l.fn.levels k other;
}
