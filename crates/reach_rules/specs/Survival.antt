-- What becomes of a network when one thing fails, or one group of things, and its parts go down: whoever is in reach of a clock takes
-- an input, and by a bound it has come to rest on it. This project's own.
use Rattle.std.specs.Prelude.{◌≡◌, ◌<◌, ◌≤◌, ℕ, ◌+◌, ◌*◌, Bool, true, false, ◌&&◌, List, length, IsTrue, IsSome, ⊤}
use Rattle.std.specs.List.{All}
use Rattle.sync_ql.specs.declared.levels.Level.{Level}
use Rattle.sync_topo.specs.declared.event.Part.{Part}
use Rattle.sync_topo.specs.declared.event.Part.TheVariants as part
use Rattle.sync_topo.specs.declared.event.What.{What}
use Rattle.sync_topo.specs.declared.event.What.TheVariants.{Down, Up, EsmcOff, EsmcOn, ClearWtr}
use Rattle.sync_topo.specs.declared.event.Event.{Event}
use Rattle.sync_topo.specs.declared.input.InputId.{InputId}
use Rattle.sync_topo.specs.declared.input.InputId.TheVariants.{Source}
use Rattle.sync_topo.specs.Topology.{Topology}
use Rattle.sync_topo.specs.Events.{IsEventList}
use Rattle.sync_topo.specs.Lines.{line_input, sender_of, receiver_of, is_nominated_input, IsNominated}
use Rattle.net_rules.specs.Inputs.{IsInputOf}
use Rattle.net_rules.specs.Signals.{Signals, planned_level, signals_by}
use Rattle.net_rules.specs.History.{taken_at, level_at, out_at}
use Rattle.net_rules.specs.Settled.{IsSettled}
use Rattle.net_rules.specs.Settling.{NoneAfter}
use Rattle.reach_rules.specs.declared.failure.Failure.{Failure}
use Rattle.reach_rules.specs.declared.failure.Failure.TheVariants as fails
use Rattle.reach_rules.specs.declared.group.Group.{Group}
use Rattle.reach_rules.specs.Reaching.{says_at, IsNotBelow, IsNoWorse, AreOwnWorse, IsBestReaching}
use Rattle.reach_rules.specs.Protection.{is_line_gone, is_source_gone, is_element_gone, IsFailureOf, IsFailureAmong, IsInReach}
use Rattle.reach_rules.specs.Agreement.{IsSteadyAt}

-- a failure takes a part away: a line or a source that is gone, or a link both of whose lines are
abbrev pub is_part_gone : Topology → Failure → Part → Bool
is_part_gone plan failure (part.Link link) = is_line_gone plan failure (2 * link) && is_line_gone plan failure (2 * link + 1)
is_part_gone plan failure (part.Line line) = is_line_gone plan failure line.0
is_part_gone plan failure (part.Source source) = is_source_gone plan failure source

-- such a part goes down, or comes up again; the ESMC of a line that is gone goes off, or on; or a wait-to-restore time is cleared
abbrev pub is_of_failure : Topology → Failure → What → Bool
is_of_failure plan failure (Down part) = is_part_gone plan failure part
is_of_failure plan failure (Up part) = is_part_gone plan failure part
is_of_failure plan failure (EsmcOff line) = is_line_gone plan failure line.0
is_of_failure plan failure (EsmcOn line) = is_line_gone plan failure line.0
is_of_failure plan failure (ClearWtr input) = true
is_of_failure plan failure what = false

-- and nothing else happens. Some of these parts may stay up, and speak
abbrev pub AreOfFailure : Topology → Failure → List Event → Type 0
AreOfFailure plan failure events = All (λ event. IsTrue (is_of_failure plan failure event.what)) events

-- a nominated source of the plan
abbrev pub IsClockSource : Topology → ℕ → Type 0
IsClockSource plan source = IsTrue (is_nominated_input plan (Source source))

-- the level of each nominated source is better than the own clock of every element, and so than do-not-use. None of these levels
-- is worse than this one, and no floor is better than it
pub record AreClocksBetter (plan : Topology) (worst : Level) : Type 0 where
  pub own_worse : (source : ℕ) → IsClockSource plan source → AreOwnWorse plan (planned_level plan source)
  pub least : (source : ℕ) → IsClockSource plan source → IsNoWorse (planned_level plan source) worst
  pub floors : (element : ℕ) → element < length plan.elements → IsNotBelow plan element worst

-- no input of an element says anything: it takes nothing once each time has run out
abbrev pub IsIdle : Topology → Signals → ℕ → ℕ → Type 0
IsIdle plan signals t element = (input : InputId) → IsInputOf plan element input → says_at signals input t ≡ false

-- each element of the plan is in reach after a failure, but those that are gone
abbrev pub AreOthersInReach : Topology → Failure → Type 0
AreOthersInReach plan failure = (element : ℕ) → element < length plan.elements → is_element_gone failure element ≡ false → IsInReach plan failure element

-- no nominated line that still says something joins two elements of a group. Two that face each other so, while nothing else
-- times them, may change for ever. Of one element nothing is asked
abbrev pub AreGoneApart : Topology → Failure → Signals → ℕ → Type 0
AreGoneApart plan (fails.Group group) signals t =
    (line : ℕ) → IsNominated plan line → says_at signals (line_input line) t ≡ true
    → is_element_gone (fails.Group group) (receiver_of plan line) ≡ true → is_element_gone (fails.Group group) (sender_of plan line) ≡ false
AreGoneApart plan failure signals t = ⊤

-- from this millisecond on each element that is in reach after the failure takes an input, the same in every millisecond, at one
-- level, which is no worse than this one. Where all others than those that are gone are in reach, and those are apart, each of
-- these milliseconds is settled, and each element in reach has exactly the best of the levels that reach it
pub record IsSurvivedFrom (plan : Topology) (failure : Failure) (events : List Event) (worst : Level) (from : ℕ) : Type 0 where
  pub takes : (element t : ℕ) → IsInReach plan failure element → from ≤ t
      → IsSome (taken_at plan (signals_by plan events) (out_at plan (signals_by plan events)) element t)
  pub steady : (element t : ℕ) → IsInReach plan failure element → from ≤ t
      → IsSteadyAt plan (signals_by plan events) (out_at plan (signals_by plan events)) from t element
  pub no_worse : (element t : ℕ) → IsInReach plan failure element → from ≤ t
      → IsNoWorse (level_at plan (signals_by plan events) (out_at plan (signals_by plan events)) element t) worst
  pub settled : AreOthersInReach plan failure → AreGoneApart plan failure (signals_by plan events) from → (t : ℕ) → from ≤ t
      → IsSettled plan (signals_by plan events) (out_at plan (signals_by plan events)) t
  pub best : AreOthersInReach plan failure → AreGoneApart plan failure (signals_by plan events) from → (element t : ℕ) → IsInReach plan failure element → from ≤ t
      → IsBestReaching plan (signals_by plan events) (out_at plan (signals_by plan events)) t element
      (level_at plan (signals_by plan events) (out_at plan (signals_by plan events)) element t)

-- a plan survives a failure: where its clocks are so much better, whichever parts of the failure go down and come up again or fall
-- silent and speak again, and nothing else happens, the network may change for so long after the last event, and no longer
abbrev pub SurvivesOne : Topology → ℕ → Failure → Type 0
SurvivesOne plan bound failure =
    (worst : Level) → AreClocksBetter plan worst
    → (events : List Event) → IsEventList plan events → AreOfFailure plan failure events → (last : ℕ) → NoneAfter events last
    → IsSurvivedFrom plan failure events worst (last + bound)

-- and each of its failures, and each of these groups
abbrev pub Survives : Topology → ℕ → Type 0
Survives plan bound = (failure : Failure) → IsFailureOf plan failure → SurvivesOne plan bound failure

abbrev pub SurvivesWith : Topology → ℕ → List Group → Type 0
SurvivesWith plan bound groups = (failure : Failure) → IsFailureAmong plan groups failure → SurvivesOne plan bound failure
