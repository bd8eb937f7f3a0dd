use Rattle.std.proofs.Common.{◌<◌, ℕ, slice_index_or}
use Rattle.sync_topo.specs.declared.event.Event.{Event}
use Rattle.sync_sweep.proofs.cases.count_before.Given as goal

abbrev pub invariant-loop-place : goal.invariant-loop-place
invariant-loop-place l = (k : ℕ) (other : Event) → k < l.place → (slice_index_or l.events k other).at < l.from
