use Rattle.std.proofs.Common.{◌≡◌, ℕ, [], length}
use Rattle.sync_topo.specs.Held.{held}
use Rattle.sync_topo.proofs.outputs.no_outputs.Given as goal

abbrev pub invariant-loop-element : goal.invariant-loop-element
invariant-loop-element l = (length l.outputs.items ≡ l._element) × ((element : ℕ) → held l.outputs.items element ≡ [])
