-- Elements that a line from one with one less leads to are marked: what only private clauses cite.
use Rattle.std.specs.Prelude.{◌≡◌, ℕ, ◌<◌, ◌↔◌, Bool, true, false, nat_lt, List, Option, Some, None, slice_index_or}
use Rattle.sync_topo.specs.Topology.{Topology}
use Rattle.sync_topo.specs.Lines.{sender_of, receiver_of}
use Rattle.nominate.specs.HopCount.{Counts, count_at, is_one_less}

-- a line below n leads to the element from one with one less
abbrev pub IsMarked : Topology → Counts → ℕ → ℕ → Type 0
IsMarked plan counts n element =
    (line : ℕ) × (line < n) × (receiver_of plan line ≡ element) × (is_one_less (count_at counts (sender_of plan line)) (count_at counts element) ≡ true)

-- just such elements are marked
abbrev pub AreMarks : Topology → Counts → ℕ → List Bool → Type 0
AreMarks plan counts n marks = (element : ℕ) → (slice_index_or marks element false ≡ true) ↔ IsMarked plan counts n element

-- there is a count, and it is above 0
abbrev pub is_above : Option ℕ → Bool
is_above None = false
is_above (Some hops) = nat_lt 0 hops
