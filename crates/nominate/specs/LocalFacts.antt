-- Three facts about counts that look at one element or one link at a time. This project's own.
use Rattle.std.specs.Prelude.{◌≡◌, ℕ, ◌<◌, ◌≤◌, ◌↔◌, ⊤, suc, length, Option, Some, None}
use Rattle.sync_topo.specs.Topology.{Topology}
use Rattle.sync_topo.specs.Lines.{line_count, sender_of, receiver_of}
use Rattle.nominate.specs.HopCount.{Counts, count_at, IsRoot}

-- both have no count, or counts that differ by at most 1
abbrev pub AreNear : Option ℕ → Option ℕ → Type 0
AreNear None None = ⊤
AreNear None (Some other) = ⊥
AreNear (Some one) None = ⊥
AreNear (Some one) (Some other) = (one ≤ suc other) × (other ≤ suc one)

-- a link joins the element to one with this count
abbrev pub HasNeighbour : Topology → Counts → ℕ → ℕ → Type 0
HasNeighbour plan counts element hops =
    (line : ℕ) × (line < line_count plan) × (receiver_of plan line ≡ element) × (count_at counts (sender_of plan line) ≡ Some hops)

-- just the roots have 0
abbrev pub AreRootsRight : Topology → Counts → Type 0
AreRootsRight plan counts = (element : ℕ) → element < length plan.elements → (count_at counts element ≡ Some 0) ↔ IsRoot plan element

-- the two ends of each link are near
abbrev pub AreEndsNear : Topology → Counts → Type 0
AreEndsNear plan counts = (line : ℕ) → line < line_count plan → AreNear (count_at counts (sender_of plan line)) (count_at counts (receiver_of plan line))

-- each other element with a count has a link to one with one less
abbrev pub HaveCloser : Topology → Counts → Type 0
HaveCloser plan counts = (element hops : ℕ) → element < length plan.elements → count_at counts element ≡ Some (suc hops) → HasNeighbour plan counts element hops

pub record AreLocallyRight (plan : Topology) (counts : Counts) : Type 0 where
  pub counted : length counts ≡ length plan.elements
  pub roots : AreRootsRight plan counts
  pub near : AreEndsNear plan counts
  pub closer : HaveCloser plan counts
