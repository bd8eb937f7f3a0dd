-- Ways from a source to an element: lines, each of which ends where the next begins. This project's own.
use Rattle.std.specs.Prelude.{ℕ, List, [], ◌∷◌}
use Rattle.sync_topo.specs.declared.input.InputId.{InputId}
use Rattle.sync_topo.specs.declared.input.InputId.TheVariants.{Source}
use Rattle.sync_topo.specs.Topology.{Topology}
use Rattle.sync_topo.specs.Lines.{line_input, sender_of}

-- a way from a source to an element, its last line first: each of its inputs leads into the element at its end. So what is
-- left of a way without its last line is a way to where that line begins, and the empty way leads to the source's own element
abbrev pub IsReached : Topology → (ℕ → InputId → Type 0) → ℕ → List ℕ → ℕ → Type 0
IsReached plan LeadsIn source [] element = LeadsIn element (Source source)
IsReached plan LeadsIn source (line ∷ before) element =
    LeadsIn element (line_input line) × IsReached plan LeadsIn source before (sender_of plan line)

-- some way does
abbrev pub HasWay : Topology → (ℕ → InputId → Type 0) → ℕ → Type 0
HasWay plan LeadsIn element = (source : ℕ) × (way : List ℕ) × IsReached plan LeadsIn source way element
