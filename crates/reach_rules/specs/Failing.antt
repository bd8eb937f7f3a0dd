-- How soon after failures a network whose plan agrees is at rest again: where, out of a settled millisecond, parts of it go down and
-- nothing comes up, no wait-to-restore time runs. This project's own.
use Rattle.std.specs.Prelude.{◌≡◌, ◌≤◌, ◌⊎◌, ℕ, zero, suc, ◌+◌, ◌*◌, Bool, true, false, ◌&&◌, nat_eq, if◌then◌else◌, List, length, IsTrue}
use Rattle.std.specs.List.{All, list_any, range_with_len}
use Rattle.sync_ql.specs.declared.levels.Level.{Level}
use Rattle.sync_ql.specs.Level.{place_of}
use Rattle.sync_topo.specs.declared.event.What.{What}
use Rattle.sync_topo.specs.declared.event.What.TheVariants.{SourceLevel}
use Rattle.sync_topo.specs.declared.event.Event.{Event}
use Rattle.sync_topo.specs.declared.input.InputId.TheVariants.{Source}
use Rattle.sync_topo.specs.Topology.{Topology}
use Rattle.sync_topo.specs.Events.{IsEventList}
use Rattle.sync_topo.specs.Lines.{sender_of, receiver_of, delay_of, is_nominated_input, IsNominated}
use Rattle.sync_topo.specs.Hops.{bears_on}
use Rattle.net_rules.specs.Signals.{Signals, planned_level, signals_by}
use Rattle.net_rules.specs.History.{out_at}
use Rattle.net_rules.specs.Settling.{IsGreatest, IsDelay}
use Rattle.net_rules.specs.Losing.{AreLosses, IsHoldoff, IsTimeOver, IsLineTime}
use Rattle.reach_rules.specs.declared.failure.Failure.{Failure}
use Rattle.reach_rules.specs.declared.group.Group.{Group}
use Rattle.reach_rules.specs.Protection.{IsFailureOf, IsFailureAmong}
use Rattle.reach_rules.specs.Agreement.{IsHighCount, AreAuto, IsAtRestFrom}
use Rattle.reach_rules.specs.Survival.{AreOfFailure, AreClocksBetter, IsSurvivedFrom}

-- a nominated line into an element has this delay
pub record IsDelayInto (plan : Topology) (element n : ℕ) : Type 0 where
  pub before : ℕ
  pub nominated : IsNominated plan before
  pub into : receiver_of plan before ≡ element
  pub is : n ≡ delay_of plan before

-- for so long what a nominated line carries of one level may change after those that change first: the greatest of the delays into
-- its sender, and of the times of the lines that bear on it, each with its own delay; 0 where there is neither
abbrev pub IsTimeOf : Topology → (ℕ → ℕ) → ℕ → ℕ → Type 0
IsTimeOf plan time line n = IsDelayInto plan (sender_of plan line) n ⊎ IsTimeOver (bears_on plan) plan time line n

abbrev pub AreTimes : Topology → (ℕ → ℕ) → Type 0
AreTimes plan time = (line : ℕ) → IsNominated plan line → IsGreatest (IsTimeOf plan time line) (time line)

-- how many of the first rows of the table of levels pass a test
abbrev pub count_below : (ℕ → Bool) → ℕ → ℕ
count_below told zero = 0
count_below told (suc place) = if told place then suc (count_below told place) else count_below told place

-- for how long after the last failure the network may change, by the greatest hold-off time, the number of levels that sources
-- have, the longest time of a line and the greatest delay
abbrev pub failed_in : ℕ → ℕ → ℕ → ℕ → ℕ
failed_in holdoff levels longest delay = holdoff + levels * longest + 2 * delay

-- the bound of a plan after failures, where of the levels better than every own clock sources have those that pass a test. It
-- exists where no lines bear on one another in a circle
pub record IsFailureBound (told : ℕ → Bool) (plan : Topology) (bound : ℕ) : Type 0 where
  pub time : ℕ → ℕ
  pub times : AreTimes plan time
  pub longest : ℕ
  pub greatest_time : IsGreatest (IsLineTime plan time) longest
  pub delay : ℕ
  pub greatest_delay : IsGreatest (IsDelay plan) delay
  pub holdoff : ℕ
  pub greatest_holdoff : IsGreatest (IsHoldoff plan) holdoff
  pub high : ℕ
  pub are_high : IsHighCount plan high
  pub is : bound ≡ failed_in holdoff (count_below told high) longest delay

-- from a millisecond on the level of each nominated source passes a test
abbrev pub AreTold : (ℕ → Bool) → Topology → Signals → ℕ → Type 0
AreTold told plan signals from =
    (source t : ℕ) → IsTrue (is_nominated_input plan (Source source)) → from ≤ t → IsTrue (told (place_of (signals.source_level source t)))

-- out of a settled millisecond a network only loses parts, and the levels of sources pass a test from it on
pub record OnlyLoses (told : ℕ → Bool) (plan : Topology) (events : List Event) (settled last : ℕ) : Type 0 where
  pub losses : AreLosses plan events settled last
  pub levels : AreTold told plan (signals_by plan events) settled

-- for so long after the last of its losses the network may change, where no element is then under a forced or a manual switch:
-- whatever parts go down, and however many
abbrev pub RestsAfterFailures : (ℕ → Bool) → Topology → ℕ → Type 0
RestsAfterFailures told plan bound =
    (events : List Event) → IsEventList plan events → (settled last : ℕ) → OnlyLoses told plan events settled last
    → AreAuto plan (signals_by plan events) (out_at plan (signals_by plan events)) last → IsAtRestFrom plan events last (last + bound)

-- a nominated source of the plan has a level of a row of the table
abbrev pub is_planned : Topology → ℕ → Bool
is_planned plan place =
    list_any (λ source. is_nominated_input plan (Source source) && nat_eq (place_of (planned_level plan source)) place) (range_with_len 0 (length plan.sources))

-- an event changes a source's level
abbrev pub is_of_level : What → Bool
is_of_level (SourceLevel source level) = true
is_of_level what = false

-- no event does, at any time: each source keeps the level that the plan gives it
abbrev pub AreLevelsKept : List Event → Type 0
AreLevelsKept events = All (λ event. is_of_level event.what ≡ false) events

-- so with the levels that the plan's own sources have
abbrev pub RestsSoon : Topology → ℕ → Type 0
RestsSoon plan bound =
    (events : List Event) → IsEventList plan events → AreLevelsKept events → (settled last : ℕ) → AreLosses plan events settled last
    → AreAuto plan (signals_by plan events) (out_at plan (signals_by plan events)) last → IsAtRestFrom plan events last (last + bound)

-- a plan survives a failure so soon: where its clocks are so much better, and out of a settled millisecond parts of the failure go
-- down, and nothing else happens, then so long after the last of them whoever is in reach has come to rest on a clock
abbrev pub SurvivesSoon : Topology → ℕ → Failure → Type 0
SurvivesSoon plan bound failure =
    (worst : Level) → AreClocksBetter plan worst
    → (events : List Event) → IsEventList plan events → AreOfFailure plan failure events → (settled last : ℕ) → AreLosses plan events settled last
    → IsSurvivedFrom plan failure events worst (last + bound)

-- and each of its failures, and each of these groups
abbrev pub SurvivesEachSoon : Topology → ℕ → Type 0
SurvivesEachSoon plan bound = (failure : Failure) → IsFailureOf plan failure → SurvivesSoon plan bound failure

abbrev pub SurvivesSoonWith : Topology → ℕ → List Group → Type 0
SurvivesSoonWith plan bound groups = (failure : Failure) → IsFailureAmong plan groups failure → SurvivesSoon plan bound failure
