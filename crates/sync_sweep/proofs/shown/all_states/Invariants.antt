use Rattle.std.proofs.Common.{◌≡◌, ◌<◌, ℕ, length, slice_index_or}
use Rattle.sync_ql.specs.declared.rules.ClockState.{ClockState}
use Rattle.sync_element.specs.ElementState.{ElementState}
use Rattle.sync_sweep.specs.private.ShownNow.{ShowsState}
use Rattle.sync_sweep.proofs.shown.all_states.Given as goal

-- the elements behind show what is kept
abbrev pub invariant-loop-element : goal.invariant-loop-element
invariant-loop-element l = record {
  count : length l.states ≡ l.element;
  each : (k : ℕ) (element : ElementState) (other : ClockState) → k < l.element → ShowsState (slice_index_or l.net.elements k element) (slice_index_or l.states k other);
}
