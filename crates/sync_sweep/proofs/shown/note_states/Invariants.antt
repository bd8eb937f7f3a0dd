use Rattle.std.proofs.Common.{◌≡◌, ◌<◌, ℕ, true, false, length, take, slice_index_or}
use Rattle.std.specs.Prelude.{nat_eq}
use Rattle.std.specs.List.{list_any}
use Rattle.sync_ql.specs.declared.rules.ClockState.{ClockState}
use Rattle.sync_element.specs.ElementState.{ElementState}
use Rattle.sync_sweep.specs.private.ShownNow.{ShowsState}
use Rattle.sync_sweep.proofs.shown.note_states.Given as goal

-- the places behind are noted, and all others are as they were
abbrev pub invariant-loop-place : goal.invariant-loop-place
invariant-loop-place l = record {
  count : length l.states ≡ length l.fn.states;
  noted : (k : ℕ) (element : ElementState) (other : ClockState) → k < length l.net.plan.elements → list_any (nat_eq k) (take l.place-index l.places) ≡ true
      → ShowsState (slice_index_or l.net.elements k element) (slice_index_or l.states k other);
  left : (k : ℕ) (other : ClockState) → list_any (nat_eq k) (take l.place-index l.places) ≡ false → slice_index_or l.states k other ≡ slice_index_or l.fn.states k other;
}
