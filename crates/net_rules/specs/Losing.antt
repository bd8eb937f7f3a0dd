-- How soon a network is settled again where, out of a settled millisecond, parts of it go down and nothing comes up: neither a
-- wait-to-restore time nor the time for which a silent line is still heard then begins. This project's own.
use Rattle.std.specs.Prelude.{◌≡◌, ◌≤◌, ◌<◌, ℕ, suc, ◌+◌, Bool, true, false, List, slice_get, Some, IsTrue}
use Rattle.std.specs.List.{All}
use Rattle.sync_topo.specs.declared.element.Element.{Element}
use Rattle.sync_topo.specs.declared.event.What.{What}
use Rattle.sync_topo.specs.declared.event.What.TheVariants.{Up, EsmcOff}
use Rattle.sync_topo.specs.declared.event.Event.{Event}
use Rattle.sync_topo.specs.declared.input.InputId.{InputId}
use Rattle.sync_topo.specs.Topology.{Topology}
use Rattle.sync_topo.specs.Lines.{delay_of, IsNominated}
use Rattle.sync_topo.specs.Hops.{hops}
use Rattle.sync_topo.specs.Ranks.{HopTest}
use Rattle.net_rules.specs.Signals.{Signals, signals_by}
use Rattle.net_rules.specs.History.{Levels, out_at}
use Rattle.net_rules.specs.Settled.{IsSettled}
use Rattle.net_rules.specs.Staying.{IsQuietAfter}
use Rattle.net_rules.specs.Settling.{NoneAfter, IsOneWay, IsGreatest, IsDelay}

-- what happens is slow: a part comes up, whose wait-to-restore time then runs, or a line's ESMC goes off, whose last level is
-- heard for five seconds more
abbrev pub is_slow : What → Bool
is_slow (Up part) = true
is_slow (EsmcOff line) = true
is_slow what = false

-- nothing slow happens after a millisecond
abbrev pub NoneSlowAfter : List Event → ℕ → Type 0
NoneSlowAfter events t = All (λ event. t < event.at → is_slow event.what ≡ false) events

-- from a millisecond on no input comes up, and no line's ESMC goes off
pub record IsQuickAfter (signals : Signals) (t : ℕ) : Type 0 where
  pub up : (input : InputId) (u : ℕ) → t ≤ u → signals.up input (suc u) ≡ true → signals.up input u ≡ true
  pub esmc : (line u : ℕ) → t ≤ u → signals.esmc line (suc u) ≡ false → signals.esmc line u ≡ false

-- out of a settled millisecond a network only loses parts, and from a later one on nothing changes outside
pub record IsLosing (plan : Topology) (signals : Signals) (out : Levels) (settled last : ℕ) : Type 0 where
  pub rests : IsSettled plan signals out settled
  pub quick : IsQuickAfter signals settled
  pub later : settled ≤ last
  pub quiet : IsQuietAfter signals last

-- so by a list of events: none after the settled millisecond is slow, and none stands after the later one
pub record AreLosses (plan : Topology) (events : List Event) (settled last : ℕ) : Type 0 where
  pub rests : IsSettled plan (signals_by plan events) (out_at plan (signals_by plan events)) settled
  pub quick : NoneSlowAfter events settled
  pub later : settled ≤ last
  pub none : NoneAfter events last

-- a hold-off time of an element of the plan
pub record IsHoldoff (plan : Topology) (time : ℕ) : Type 0 where
  pub place : ℕ
  pub element : Element
  pub has : slice_get plan.elements place ≡ Some element
  pub is : time ≡ element.holdoff

-- the time of a line that hops to another, and its delay, come to this together
pub record IsTimeOver (hop : HopTest) (plan : Topology) (time : ℕ → ℕ) (line n : ℕ) : Type 0 where
  pub before : ℕ
  pub hops : IsTrue (hop before line)
  pub is : n ≡ time before + delay_of plan before

-- for so long a nominated line may change after those that change first: the greatest of these over all lines that hop to it,
-- the delays of a chain of hops together
abbrev pub AreHopTimes : Topology → (ℕ → ℕ) → Type 0
AreHopTimes plan time = (line : ℕ) → IsNominated plan line → IsGreatest (IsTimeOver (hops plan) plan time line) (time line)

-- a nominated line has this time
pub record IsLineTime (plan : Topology) (time : ℕ → ℕ) (n : ℕ) : Type 0 where
  pub line : ℕ
  pub nominated : IsNominated plan line
  pub is : n ≡ time line

-- how soon after the last loss a network is settled again, where no two nominated lines of a bundle run in opposite directions:
-- after the greatest hold-off time, the longest time of a line over hops, and the greatest delay
pub record IsSoonBound (plan : Topology) (bound : ℕ) : Type 0 where
  pub one_way : IsOneWay plan
  pub time : ℕ → ℕ
  pub times : AreHopTimes plan time
  pub longest : ℕ
  pub greatest_time : IsGreatest (IsLineTime plan time) longest
  pub delay : ℕ
  pub greatest_delay : IsGreatest (IsDelay plan) delay
  pub holdoff : ℕ
  pub greatest_holdoff : IsGreatest (IsHoldoff plan) holdoff
  pub is : bound ≡ holdoff + longest + delay
