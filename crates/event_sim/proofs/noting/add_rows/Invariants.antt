use Rattle.std.proofs.Common.{◌≡◌, ◌++◌, ℕ, map, take}
use Rattle.std.specs.Prelude.{slice_index_or}
use Rattle.event_sim.specs.declared.shown.Shown.{Shown}
use Rattle.event_sim.specs.Rows.{row_of}
use Rattle.event_sim.proofs.noting.add_rows.Given as goal

-- the rows of the places behind were added
abbrev pub invariant-loop-element : goal.invariant-loop-element
invariant-loop-element l = (other : ℕ → Shown) → l.changes.items
    ≡ l.fn.changes.items ++ map (λ place. row_of l.now place (slice_index_or l.shown place (other place))) (take l.element-index l.changed)
