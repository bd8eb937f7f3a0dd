-- Private to this crate: parts of the settling bound, over the first lines and elements.
use Rattle.std.specs.Prelude.{◌≡◌, ◌≤◌, ◌<◌, ◌⊎◌, ℕ, ◌+◌, List, length, Option, None, Some, slice_get, slice_index_or}
use Rattle.sync_topo.specs.declared.element.Element.{Element}
use Rattle.sync_topo.specs.Topology.{Topology}
use Rattle.sync_topo.specs.Lines.{delay_of, receiver_of, IsNominated}
use Rattle.sync_topo.specs.Bundles.{line_bundle}
use Rattle.net_rules.specs.Settling.{IsDelay, IsWait}
use Rattle.rank_cert.specs.Ranks.{Ranks, rank_at}

-- the receiver that is kept for a bundle
abbrev pub receiver_in : List (Option ℕ) → ℕ → Option ℕ
receiver_in receivers bundle = slice_index_or receivers bundle None

-- each nominated line of the first n leads to the receiver that is kept for its bundle, and for no other
-- bundle one is kept
pub record AreDirections (plan : Topology) (n : ℕ) (receivers : List (Option ℕ)) : Type 0 where
  pub counted : length receivers ≡ length plan.links
  pub kept : (line : ℕ) → line < n → IsNominated plan line → receiver_in receivers (line_bundle plan line) ≡ Some (receiver_of plan line)
  pub only : (bundle receiver : ℕ) → receiver_in receivers bundle ≡ Some receiver
      → (line : ℕ) × (line < n) × IsNominated plan line × (line_bundle plan line ≡ bundle) × (receiver_of plan line ≡ receiver)

-- the greatest delay, and the greatest rank, of the nominated lines of the first n
pub record IsDelayBelow (plan : Topology) (n delay : ℕ) : Type 0 where
  pub most : (line : ℕ) → line < n → IsNominated plan line → delay_of plan line ≤ delay
  pub reached : (delay ≡ 0) ⊎ IsDelay plan delay

pub record IsRankBelow (plan : Topology) (ranks : Ranks) (n greatest : ℕ) : Type 0 where
  pub most : (line rank : ℕ) → line < n → rank_at ranks line ≡ Some rank → rank ≤ greatest
  pub reached : (greatest ≡ 0) ⊎ ((line : ℕ) × (rank_at ranks line ≡ Some greatest))

-- the longest wait by the first n elements
pub record IsWaitBelow (plan : Topology) (delay n wait : ℕ) : Type 0 where
  pub hearing : 5000 + delay ≤ wait
  pub most : (place : ℕ) (element : Element) → place < n → slice_get plan.elements place ≡ Some element → (element.holdoff ≤ wait) × (element.wtr ≤ wait)
  pub reached : IsWait plan delay wait
