use Rattle.std.proofs.Common.{◌≡◌, ◌<◌, ℕ, length}
use Rattle.std.specs.Prelude.{slice_index_or}
use Rattle.sync_element.specs.ElementState.{ElementState}
use Rattle.event_sim.specs.private.Showing.{Shows, kept_in}
use Rattle.event_sim.proofs.noting.first_shown.Given as goal

-- what the elements behind show is kept
abbrev pub invariant-loop-element : goal.invariant-loop-element
invariant-loop-element l = record {
  count : length l.shown.items ≡ l.element;
  each : (place : ℕ) (other : ElementState) → place < l.element
      → Shows l.net.plan place (slice_index_or l.net.elements place other) (kept_in l.net.plan l.shown.items place);
}
