use Rattle.std.proofs.Common.{◌≡◌, ◌<◌, ℕ, length, slice_index_or}
use Rattle.sync_ql.specs.declared.levels.Level.{Level}
use Rattle.sync_element.specs.ElementState.{ElementState}
use Rattle.sync_sweep.specs.private.ShownNow.{ShowsLevel}
use Rattle.sync_sweep.proofs.shown.all_levels.Given as goal

-- the elements behind show what is kept
abbrev pub invariant-loop-element : goal.invariant-loop-element
invariant-loop-element l = record {
  count : length l.levels ≡ l.element;
  each : (k : ℕ) (element : ElementState) (other : Level) → k < l.element → ShowsLevel (slice_index_or l.net.elements k element) (slice_index_or l.levels k other);
}
