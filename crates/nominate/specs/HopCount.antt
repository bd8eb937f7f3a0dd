-- Hop counts: over how many links an element is reached from the nearest one with a clock. This project's own.
use Rattle.std.specs.Prelude.{◌≡◌, ℕ, ◌+◌, ◌<◌, ◌≤◌, zero, suc, Bool, false, ◌==◌, List, length, Option, Some, None, slice_get}
use Rattle.std.specs.Option.{option_flatten}
use Rattle.sync_topo.specs.Topology.{Topology}
use Rattle.sync_topo.specs.Lines.{line_count, sender_of, receiver_of, sources_at}

-- for each element, in order of number, its count if it has one
abbrev pub Counts : Type 0
Counts = List (Option ℕ)

-- an element's count, if it has one
abbrev pub count_at : Counts → ℕ → Option ℕ
count_at counts element = option_flatten (slice_get counts element)

-- it is this count
abbrev pub is_count : ℕ → Option ℕ → Bool
is_count hops None = false
is_count hops (Some count) = count == hops

-- both have counts, and the first one's is one less
abbrev pub is_one_less : Option ℕ → Option ℕ → Bool
is_one_less None other = false
is_one_less (Some one) None = false
is_one_less (Some one) (Some other) = one + 1 == other

-- the element has a clock of its own: a nominated source, whatever its level
abbrev pub IsRoot : Topology → ℕ → Type 0
IsRoot plan element = 0 < length (sources_at plan element)

-- a walk over so many links leads from a root to the element. A link is walked in either direction, nominated or not
abbrev pub IsReachedIn : Topology → ℕ → ℕ → Type 0
IsReachedIn plan zero element = IsRoot plan element
IsReachedIn plan (suc links) element =
    (line : ℕ) × (line < line_count plan) × (receiver_of plan line ≡ element) × IsReachedIn plan links (sender_of plan line)

-- the least number of links of such a walk
pub record IsHopCount (plan : Topology) (element hops : ℕ) : Type 0 where
  pub reached : IsReachedIn plan hops element
  pub least : (links : ℕ) → IsReachedIn plan links element → hops ≤ links

-- the least number, and none where there is no such walk
abbrev pub IsCountOf : Topology → ℕ → Option ℕ → Type 0
IsCountOf plan element None = (links : ℕ) → ¬ IsReachedIn plan links element
IsCountOf plan element (Some hops) = IsHopCount plan element hops

-- the list has the count of each element
pub record AreHopCounts (plan : Topology) (counts : Counts) : Type 0 where
  pub counted : length counts ≡ length plan.elements
  pub each : (element : ℕ) → element < length plan.elements → IsCountOf plan element (count_at counts element)

-- no count is above the number of elements
abbrev pub AreBounded : Topology → Counts → Type 0
AreBounded plan counts = (element hops : ℕ) → count_at counts element ≡ Some hops → hops ≤ length plan.elements
