use Rattle.std.proofs.Common.{◌≡◌, ◌≤◌, ◌<◌, ℕ, slice_index_or}
use Rattle.node_replay.specs.declared.inputs.InputNow.{InputNow}
use Rattle.node_replay.specs.private.Keeping.{heard_of}
use Rattle.node_replay.proofs.running.first_loss.Given as goal

-- no level of the inputs so far is lost before the millisecond
abbrev pub invariant-loop-input : goal.invariant-loop-input
invariant-loop-input l = record {
  up_to : l.first ≤ l.until;
  later : l.now < l.first;
  heard : (m : ℕ) → l.now ≤ m → m < l.first → (place : ℕ) (other : InputNow) → place < l.input-index
      → heard_of (slice_index_or l.inputs place other).last m ≡ heard_of (slice_index_or l.inputs place other).last l.now;
}
