-- How elements get their counts one after another: what only private clauses cite.
use Rattle.std.specs.Prelude.{◌≡◌, ℕ, ◌+◌, ◌<◌, ◌≤◌, ◌⊎◌, suc, length, Some, is_none, Bool, true, false}
use Rattle.std.specs.List.{All, Contains, count_by}
use Rattle.sync_topo.specs.declared.input.InputId.{InputId}
use Rattle.sync_topo.specs.declared.input.InputId.TheVariants.{Line, Source}
use Rattle.sync_topo.specs.Topology.{Topology}
use Rattle.sync_topo.specs.Lines.{line_count, sender_of, receiver_of}
use Rattle.nominate.specs.HopCount.{Counts, count_at, IsRoot}
use Rattle.nominate.specs.LocalFacts.{HasNeighbour}
use Rattle.nominate.specs.declared.search.HopSearch.{HopSearch}

-- the input is a source
abbrev pub is_source : InputId → Bool
is_source (Line line) = false
is_source (Source source) = true

-- how many elements have no count
abbrev pub left_over : Counts → ℕ
left_over counts = count_by is_none counts

-- a bound on the work that is left
abbrev pub work : HopSearch → ℕ
work search = left_over search.counts.items + length search.current.items + length search.next.items

-- the counts so far, and who waits
pub record IsSearching (plan : Topology) (search : HopSearch) : Type 0 where
  pub counted : length search.counts.items ≡ length plan.elements
  pub roots : (element : ℕ) → IsRoot plan element → count_at search.counts.items element ≡ Some 0
  pub zeros : (element : ℕ) → count_at search.counts.items element ≡ Some 0 → IsRoot plan element
  pub closer : (element hops : ℕ) → count_at search.counts.items element ≡ Some (suc hops) → HasNeighbour plan search.counts.items element hops
  pub of_depth : All (λ element. count_at search.counts.items element ≡ Some search.depth) search.current.items
  pub deeper : All (λ element. count_at search.counts.items element ≡ Some (suc search.depth)) search.next.items
  pub low : (element hops : ℕ) → count_at search.counts.items element ≡ Some hops → (hops ≤ search.depth) ⊎ ((hops ≡ suc search.depth) × (0 < length search.next.items))
  pub bound : search.depth + work search ≤ length plan.elements

-- the element has a count of at most one more
abbrev pub IsClose : Counts → ℕ → ℕ → Type 0
IsClose counts hops element = (next : ℕ) × (count_at counts element ≡ Some next) × (next ≤ suc hops)

-- each line out of the element leads to one that is close
abbrev pub IsLed : Topology → Counts → ℕ → ℕ → Type 0
IsLed plan counts element hops = (line : ℕ) → line < line_count plan → sender_of plan line ≡ element → IsClose counts hops (receiver_of plan line)

-- the element waits to be looked at
abbrev pub IsWaiting : HopSearch → ℕ → Type 0
IsWaiting search element = Contains search.current.items element ⊎ Contains search.next.items element

-- each element with a count leads on to elements that are close, or waits
abbrev pub AreKept : Topology → HopSearch → Type 0
AreKept plan search =
    (element hops : ℕ) → count_at search.counts.items element ≡ Some hops → IsLed plan search.counts.items element hops ⊎ IsWaiting search element

-- the same, but for one element
abbrev pub AreKeptBut : Topology → HopSearch → ℕ → Type 0
AreKeptBut plan search but =
    (element hops : ℕ) → count_at search.counts.items element ≡ Some hops
    → (element ≡ but) ⊎ (IsLed plan search.counts.items element hops ⊎ IsWaiting search element)

-- each element with a count leads on to elements that are close
abbrev pub AreLed : Topology → Counts → Type 0
AreLed plan counts = (element hops : ℕ) → count_at counts element ≡ Some hops → IsLed plan counts element hops

-- more elements have counts, and wait for the next depth
pub record IsMore (plan : Topology) (before after : HopSearch) : Type 0 where
  pub searching : IsSearching plan after
  pub grows : (element hops : ℕ) → count_at before.counts.items element ≡ Some hops → count_at after.counts.items element ≡ Some hops
  pub fresh : (element hops : ℕ) → count_at after.counts.items element ≡ Some hops
      → (count_at before.counts.items element ≡ Some hops) ⊎ Contains after.next.items element
  pub still_next : (element : ℕ) → Contains before.next.items element → Contains after.next.items element
  pub still_current : after.current.items ≡ before.current.items
  pub still_depth : after.depth ≡ before.depth
  pub work : work after ≤ work before

-- the element with its count is taken out of those that wait
pub record IsTakenOut (plan : Topology) (before after : HopSearch) (element : ℕ) : Type 0 where
  pub searching : IsSearching plan after
  pub counts : after.counts.items ≡ before.counts.items
  pub of_depth : count_at after.counts.items element ≡ Some after.depth
  pub kept : AreKept plan before → AreKeptBut plan after element
  pub less : work after + 1 ≤ work before
