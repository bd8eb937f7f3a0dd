-- Lines that are followed from an element on, and marks on the elements passed.
use Rattle.std.specs.Prelude.{◌≡◌, ◌⊎◌, ℕ, Bool, true, false, List, [], ◌∷◌, slice_index_or, Option, None, Some}
use Rattle.sync_topo.specs.declared.input.InputId.{InputId}
use Rattle.sync_topo.specs.declared.input.InputId.TheVariants.{Line, Source}
use Rattle.sync_topo.specs.Topology.{Topology}
use Rattle.sync_topo.specs.Lines.{line_input, sender_of}
use Rattle.net_rules.specs.Walks.{Taken, IsOneOf}
use Rattle.closed_walks.specs.declared.traced.End.TheVariants as end
use Rattle.closed_walks.specs.declared.following.Next.{Next}
use Rattle.closed_walks.specs.declared.following.Next.TheVariants.{On, Over}

-- what comes after an element, by what it takes
abbrev pub next_of : Option InputId → ℕ → Next
next_of (Some (Line line)) element = On line
next_of (Some (Source source)) element = Over (end.Source source)
next_of None element = Over (end.OwnClock element)

-- lines that are taken, each by the sender of the one before, lead from an element to another
abbrev pub Follows : Topology → Taken → ℕ → List ℕ → ℕ → Type 0
Follows plan taken element [] last = element ≡ last
Follows plan taken element (line ∷ rest) last =
    (taken element ≡ Some (line_input line)) × Follows plan taken (sender_of plan line) rest last

-- an element is passed on the way
abbrev pub IsPassed : Topology → ℕ → List ℕ → ℕ → Type 0
IsPassed plan element [] k = ⊥
IsPassed plan element (line ∷ rest) k = (k ≡ element) ⊎ IsPassed plan (sender_of plan line) rest k

abbrev pub is_met : List Bool → ℕ → Bool
is_met met element = slice_index_or met element false

-- just the elements of a list are marked
abbrev pub AreMet : List Bool → List ℕ → Type 0
AreMet met passed = (k : ℕ) → (is_met met k ≡ true → IsOneOf k passed) × (IsOneOf k passed → is_met met k ≡ true)
