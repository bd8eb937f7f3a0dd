-- Private: the latest ends of the lines into elements, while lines are gone through in the order in which they were ranked.
use Rattle.std.specs.Prelude.{◌≡◌, ◌≢◌, ℕ, ◌+◌, ◌*◌, ◌<◌, ◌≤◌, ◌⊎◌, Bool, ◌&&◌, nat_eq, ◌==◌, if◌then◌else◌, List, length, Some, slice_get}
use Rattle.sync_ql.specs.Level.{place_of}
use Rattle.sync_topo.specs.declared.element.Element.{Element}
use Rattle.sync_topo.specs.declared.input.InputId.TheVariants.{Source}
use Rattle.sync_topo.specs.declared.input.LineId.{LineId}
use Rattle.sync_topo.specs.declared.returns.ReturnRule.TheVariants.{BarredFromLast}
use Rattle.sync_topo.specs.Topology.{Topology}
use Rattle.sync_topo.specs.Limits.{greatest_delay}
use Rattle.sync_topo.specs.Lines.{receiver_of, delay_of, is_nominated_input, IsNominated}
use Rattle.net_rules.specs.Signals.{planned_level}
use Rattle.net_rules.specs.Losing.{IsHoldoff}
use Rattle.reach_rules.specs.Failing.{IsDelayInto, AreTimes}
use Rattle.cycle_plan.specs.private.Numbers.{number_in}
use Rattle.cycle_plan.specs.private.Peeling.{IsAmongFirst}
use Rattle.cycle_plan.specs.declared.greatest.Greatest.{Greatest}
use Rattle.cycle_plan.specs.private.Greatest.{IsGreatestWay, IsBelow}

-- a line into the element stands among the first n of the order, has this number as a way in, and ends then: its time and its delay together
pub record IsEnd (plan : Topology) (order : List LineId) (n element : ℕ) (time : ℕ → ℕ) (number end : ℕ) : Type 0 where
  pub line : ℕ
  pub first : IsAmongFirst order n line
  pub into : receiver_of plan line ≡ element
  pub number_is : number_in BarredFromLast plan line ≡ number
  pub end_is : time line + delay_of plan line ≡ end

-- the latest of these ends, by whatever times, and with room for more
pub record IsLate (plan : Topology) (order : List LineId) (n element : ℕ) (late : Greatest) : Type 0 where
  pub few : IsBelow late ((n + 1) * greatest_delay)
  pub is : (time : ℕ → ℕ) → AreTimes plan time → IsGreatestWay (IsEnd plan order n element time) late

-- those of each element
pub record AreLates (plan : Topology) (order : List LineId) (n : ℕ) (lates : List Greatest) : Type 0 where
  pub counted : length lates ≡ length plan.elements
  pub each : (element : ℕ) (late : Greatest) → slice_get lates element ≡ Some late → IsLate plan order n element late

-- the longest time of the first n lines of the order
pub record IsLongest (plan : Topology) (order : List LineId) (n : ℕ) (time : ℕ → ℕ) (longest : ℕ) : Type 0 where
  pub above : (line : ℕ) → IsAmongFirst order n line → time line ≤ longest
  pub reached : (longest ≡ 0) ⊎ ((line : ℕ) × IsAmongFirst order n line × (longest ≡ time line))

pub record IsLong (plan : Topology) (order : List LineId) (n longest : ℕ) : Type 0 where
  pub few : longest ≤ (n + 1) * greatest_delay
  pub is : (time : ℕ → ℕ) → AreTimes plan time → IsLongest plan order n time longest

-- the greatest delay of the nominated lines of the first n into an element
pub record IsIntoBelow (plan : Topology) (n element delay : ℕ) : Type 0 where
  pub most : (line : ℕ) → line < n → IsNominated plan line → receiver_of plan line ≡ element → delay_of plan line ≤ delay
  pub reached : (delay ≡ 0) ⊎ IsDelayInto plan element delay
  pub few : delay ≤ greatest_delay

-- into each element
pub record AreDelaysInto (plan : Topology) (n : ℕ) (delays : List ℕ) : Type 0 where
  pub counted : length delays ≡ length plan.elements
  pub each : (element delay : ℕ) → slice_get delays element ≡ Some delay → IsIntoBelow plan n element delay

-- the greatest hold-off time of the first n elements
pub record IsHoldoffBelow (plan : Topology) (n holdoff : ℕ) : Type 0 where
  pub most : (place : ℕ) (element : Element) → place < n → slice_get plan.elements place ≡ Some element → element.holdoff ≤ holdoff
  pub reached : (holdoff ≡ 0) ⊎ IsHoldoff plan holdoff

-- a source is nominated, and the plan gives it the level of a row of the table
abbrev pub has_level : Topology → ℕ → ℕ → Bool
has_level plan place source = is_nominated_input plan (Source source) && nat_eq (place_of (planned_level plan source)) place
