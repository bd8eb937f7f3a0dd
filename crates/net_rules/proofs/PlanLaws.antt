-- What every plan has: delays, senders and receivers.
use Rattle.std.proofs.Common.{◌≡◌, ◌≤◌, ◌<◌, ◌/◌, ℕ, Bool, true, false, length, Some, inl, inr, arith}
use Rattle.std.specs.Prelude.{if◌then◌else◌}
use Rattle.std.proofs.lemmas.Option.{slice_get_cases}
use Rattle.sync_topo.specs.declared.link.Link.{Link}
use Rattle.sync_topo.specs.Topology.{Topology}
use Rattle.sync_topo.specs.Lines.{line_count, sender_of, receiver_of, delay_of, link_of, ends_at_b, IsNominated}
use Rattle.sync_topo.specs.WellFormed.{IsWellFormed, JoinsTwo}
use Rattle.sync_topo.proofs.LineLaws.{IsNominated-within}

-- a line's link, and what holds of it
pub record HasLink (plan : Topology) (line : ℕ) : Type 0 where
  pub link : Link
  pub is : link_of plan line ≡ Some link
  pub joins : JoinsTwo (length plan.elements) link

pub line-link : (plan : Topology) (line : ℕ) → IsWellFormed plan → line < line_count plan → HasLink plan line
line-link plan line well within = elim (slice_get_cases plan.links (line / 2)).1 [
  | inl there ↦ record { link = there.0; is = there.2; joins = well.links_join (line / 2) there.0 there.2 }
  | inr past ↦ absurd (omega (arith, within, past.0))
]

delays : (plan : Topology) (line : ℕ) → HasLink plan line → 1 ≤ delay_of plan line
delays plan line has = rw has.is (by (ends_at_b line))
  where
    by : (b : Bool) → 1 ≤ (if b then has.link.delay_b else has.link.delay_a)
    by true = has.joins.least_delay_b
    by false = has.joins.least_delay_a

pub IsDelayed-well : (plan : Topology) → IsWellFormed plan → (line : ℕ) → IsNominated plan line → 1 ≤ delay_of plan line
IsDelayed-well plan well line nominated = delays plan line (line-link plan line well (IsNominated-within plan line nominated))

pub sender-within : (plan : Topology) → IsWellFormed plan → (line : ℕ) → line < line_count plan → sender_of plan line < length plan.elements
sender-within plan well line within = of (line-link plan line well within)
  where
    of : HasLink plan line → sender_of plan line < length plan.elements
    of has = rw has.is (by (ends_at_b line))
      where
        by : (b : Bool) → (if b then has.link.a else has.link.b) < length plan.elements
        by true = has.joins.a_is_element
        by false = has.joins.b_is_element

pub receiver-within : (plan : Topology) → IsWellFormed plan → (line : ℕ) → line < line_count plan → receiver_of plan line < length plan.elements
receiver-within plan well line within = of (line-link plan line well within)
  where
    of : HasLink plan line → receiver_of plan line < length plan.elements
    of has = rw has.is (by (ends_at_b line))
      where
        by : (b : Bool) → (if b then has.link.b else has.link.a) < length plan.elements
        by true = has.joins.b_is_element
        by false = has.joins.a_is_element
