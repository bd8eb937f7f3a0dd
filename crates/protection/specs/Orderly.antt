-- Plans in which each element takes its timing from two sides at most, in an order of its own, so that no timing loop can form and the
-- network comes to rest; and what is found of a plan by giving its lines other priorities. This project's own.
use Rattle.std.specs.Prelude.{◌≡◌, ◌⊎◌, ℕ, Bool, true, not, ◌||◌, nat_eq, nat_lt, nat_le}
use Rattle.std.specs.List.{list_all}
use Rattle.sync_topo.specs.declared.input.InputId.{InputId}
use Rattle.sync_topo.specs.declared.input.InputId.TheVariants.{Line, Source}
use Rattle.sync_topo.specs.Topology.{Topology}
use Rattle.sync_topo.specs.Lines.{sender_of, receiver_of, priority_of, source_priority, input_priority, inputs_of, IsNominated}
use Rattle.sync_topo.specs.Bundles.{line_bundle}
use Rattle.sync_topo.specs.Hops.{IsRising}
use Rattle.sync_topo.specs.WellFormed.{IsWellFormed}
use Rattle.reach_rules.specs.Agreement.{IsAgreedBound}
use Rattle.reach_rules.specs.Failing.{IsFailureBound, is_planned}
use Rattle.nominate.specs.HopCount.{Counts, count_at, is_one_less, AreHopCounts}
use Rattle.nominate.specs.Nomination.{plan_with}

-- the nominated lines into an element are of two bundles at most. A link that names none is a bundle of its own
pub record IsOfTwoBundles (plan : Topology) (element : ℕ) : Type 0 where
  pub one : ℕ
  pub other : ℕ
  pub each : (line : ℕ) → IsNominated plan line → receiver_of plan line ≡ element → (line_bundle plan line ≡ one) ⊎ (line_bundle plan line ≡ other)

-- beside a line, another line has another number, and a source a smaller one
abbrev pub is_apart : Topology → ℕ → InputId → Bool
is_apart plan line (Line other) = nat_eq other.0 line || not (nat_eq (priority_of plan other.0) (priority_of plan line))
is_apart plan line (Source source) = nat_lt (source_priority plan source) (priority_of plan line)

-- so it is with all inputs of the line's element
abbrev pub stands_apart : Topology → ℕ → Bool
stands_apart plan line = list_all (is_apart plan line) (inputs_of plan (receiver_of plan line))

-- none of them has a smaller number than the line
abbrev pub is_first_choice : Topology → ℕ → Bool
is_first_choice plan line = list_all (λ input. nat_le (priority_of plan line) (input_priority plan input)) (inputs_of plan (receiver_of plan line))

-- a line that is its element's first choice comes from an element with one hop less
abbrev pub ComesByFewest : Topology → Counts → Type 0
ComesByFewest plan counts = (line : ℕ) → IsNominated plan line → is_first_choice plan line ≡ true
    → is_one_less (count_at counts (sender_of plan line)) (count_at counts (receiver_of plan line)) ≡ true

-- each element takes its timing from two sides at most, each input by a number of its own, its sources first, and then over the
-- fewest hops; ranks rise; and priorities agree with the ways of timing, so that there are both bounds
pub record IsOrderly (plan : Topology) : Type 0 where
  pub well_formed : IsWellFormed plan
  pub two : (element : ℕ) → IsOfTwoBundles plan element
  pub apart : (line : ℕ) → IsNominated plan line → stands_apart plan line ≡ true
  pub fewest : (counts : Counts) → AreHopCounts plan counts → ComesByFewest plan counts
  pub rising : (rank : ℕ → ℕ) × IsRising plan rank
  pub bound : (bound : ℕ) × IsAgreedBound plan bound
  pub failures : (bound : ℕ) × IsFailureBound (is_planned plan) plan bound

-- the plan but for the priorities of its lines
abbrev pub IsRenumbered : Topology → Topology → Type 0
IsRenumbered plan found = (priority : ℕ → ℕ) × (found ≡ plan_with plan priority)

-- an orderly plan that is found by giving lines other priorities. Which one is not said
pub record IsFound (plan found : Topology) : Type 0 where
  pub renumbered : IsRenumbered plan found
  pub orderly : IsOrderly found
