-- From when on a network is settled after the last event, and what has to stand still for that.
-- This project's own.
use Rattle.std.specs.Prelude.{◌≡◌, ◌≤◌, ◌⊎◌, ℕ, ◌+◌, ◌*◌, Bool, ◌||◌, is_some, List, slice_get, Some, IsTrue}
use Rattle.std.specs.List.{All}
use Rattle.sync_ql.specs.Messages.{hearing_time}
use Rattle.sync_topo.specs.declared.element.Element.{Element}
use Rattle.sync_topo.specs.declared.event.What.{What}
use Rattle.sync_topo.specs.declared.event.Event.{Event}
use Rattle.sync_topo.specs.Topology.{Topology}
use Rattle.sync_topo.specs.Lines.{line_input, delay_of, IsNominated}
use Rattle.sync_topo.specs.Hops.{hops, goes_back}
use Rattle.sync_topo.specs.Ranks.{HopTest, IsLeastRank}
use Rattle.net_rules.specs.Signals.{says_up, says_esmc}

-- no event stands after a millisecond
abbrev pub NoneAfter : List Event → ℕ → Type 0
NoneAfter events t = All (λ event. event.at ≤ t) events

-- what happens switches a line: up or down, or its ESMC on or off
abbrev pub switches_line : ℕ → What → Bool
switches_line line what = is_some (says_up (line_input line) what) || is_some (says_esmc line what)

-- no event switches a nominated line later than its delay before the millisecond
abbrev pub AreUnswitchedBefore : Topology → List Event → ℕ → Type 0
AreUnswitchedBefore plan events t = (line : ℕ) → IsNominated plan line →
    All (λ event. IsTrue (switches_line line event.what) → event.at + delay_of plan line ≤ t) events

-- no two nominated lines of one bundle run in opposite directions
abbrev pub IsOneWay : Topology → Type 0
IsOneWay plan = (line back : ℕ) → IsNominated plan line → IsNominated plan back →
    ¬ IsTrue (goes_back plan line back)

-- the greatest of the numbers of a kind, or 0 where there is none
pub record IsGreatest (IsOne : ℕ → Type 0) (greatest : ℕ) : Type 0 where
  pub most : (n : ℕ) → IsOne n → n ≤ greatest
  pub reached : (greatest ≡ 0) ⊎ IsOne greatest

-- a nominated line has this delay, and this least rank over a test of hops
pub record IsDelay (plan : Topology) (delay : ℕ) : Type 0 where
  pub line : ℕ
  pub nominated : IsNominated plan line
  pub is : delay ≡ delay_of plan line

pub record IsRankOver (hop : HopTest) (plan : Topology) (rank : ℕ) : Type 0 where
  pub line : ℕ
  pub nominated : IsNominated plan line
  pub is : IsLeastRank hop line rank

abbrev pub IsRank : Topology → ℕ → Type 0
IsRank plan rank = IsRankOver (hops plan) plan rank

-- a hold-off or wait-to-restore time of an element of the plan
pub record IsElementTime (plan : Topology) (time : ℕ) : Type 0 where
  pub place : ℕ
  pub element : Element
  pub has : slice_get plan.elements place ≡ Some element
  pub is : (time ≡ element.holdoff) ⊎ (time ≡ element.wtr)

-- after the longest of these every time has run out: those of the elements, and the time for which a
-- level is heard with the greatest delay
abbrev pub IsWait : Topology → ℕ → ℕ → Type 0
IsWait plan delay time = IsElementTime plan time ⊎ (time ≡ hearing_time + delay)

-- the millisecond from which the network is settled, by the last event's, the longest wait, the greatest
-- least rank and the greatest delay
abbrev pub settled_from : ℕ → ℕ → ℕ → ℕ → ℕ
settled_from last wait rank delay = last + wait + 1 + (rank + 1) * delay

-- the settling bound of a plan after a millisecond: it exists where no two nominated lines of a bundle
-- run in opposite directions and each nominated line has a least rank, as it has without a cycle of hops
pub record IsSettlingBound (plan : Topology) (last bound : ℕ) : Type 0 where
  pub one_way : IsOneWay plan
  pub ranked : (line : ℕ) → IsNominated plan line → (rank : ℕ) × IsLeastRank (hops plan) line rank
  pub delay : ℕ
  pub greatest_delay : IsGreatest (IsDelay plan) delay
  pub rank : ℕ
  pub greatest_rank : IsGreatest (IsRank plan) rank
  pub wait : ℕ
  pub greatest_wait : IsGreatest (IsWait plan delay) wait
  pub is : bound ≡ settled_from last wait rank delay
