-- Beside specs/Whole.antt, under no public clause: how an element is seen, and what is true of every one.
use Rattle.std.specs.Prelude.{◌≡◌, ◌≤◌, ◌<◌, ◌+◌, ℕ, false, length, slice_index, Option, None, Some, IfSome, MatchOption, unwrap_or, option_and_then, if◌then◌else◌}
use Rattle.sync_ql.specs.declared.levels.Level.{Level}
use Rattle.sync_ql.specs.declared.rules.Candidate.{Candidate}
use Rattle.sync_ql.specs.Level.{do_not_use_of}
use Rattle.sync_ql.specs.Moment.{Settings}
use Rattle.sync_ql.specs.Output.{goes_back}
use Rattle.sync_ql.specs.Selection.{candidate}
use Rattle.sync_ql.specs.Switches.{Switches}
use Rattle.sync_ql.specs.Told.{IsOfOption}
use Rattle.input_monitor.specs.Monitored.{Monitored, up_of}
use Rattle.sync_ql.specs.declared.limits.TheConstants.{LAST_MILLISECOND, MOST_INPUTS}
use Rattle.sync_element.specs.declared.element.Element.TheInside.{Inside}
use Rattle.sync_element.specs.declared.watched.Watched.{Watched}
use Rattle.agenda.specs.DueTimes.{due_in}
use Rattle.sync_element.specs.Kept.{watched_in}
use Rattle.sync_element.specs.private.Kept.{HasEnd}
use Rattle.sync_element.specs.private.Renewing.{candidate_of}
use Rattle.sync_element.specs.ElementState.{ElementState, inputs_of}
use Rattle.sync_element.specs.Whole.{element_state}

abbrev pub watched_of : ElementState → ℕ → Watched
watched_of e i = watched_in e.kept.inputs.watched i

abbrev pub monitor_of : ElementState → ℕ → Monitored
monitor_of e i = (watched_of e i).monitor

-- the level of the input that is taken, or that of the own clock; and what goes back on an input
abbrev pub level_of : ElementState → Level
level_of e =
    unwrap_or (option_and_then (λ i. (candidate e.kept.inputs.candidates i).level) e.kept.selection) e.settings.own

abbrev pub level_back_of : ElementState → ℕ → Level
level_back_of e i =
    if goes_back e.settings e.kept.selection i then do_not_use_of e.settings.own.option else level_of e

-- an input between two steps: nothing is told that its monitor doesn't know, and the choice sees it as
-- it is
pub record IsAtRest (settings : Settings) (switches : Switches) (next i : ℕ) (w : Watched) (due : Option ℕ) (c : Candidate) : Type 0 where
  pub timers : w.monitor.timers ≡ settings.timers
  pub not_later : w.monitor.next ≤ next
  pub ends : HasEnd w.monitor
  pub up : w.up ≡ up_of w.monitor.condition
  pub cleared : w.cleared ≡ false
  pub due_is : due ≡ w.monitor.due
  pub due_later : IfSome w.monitor.due (λ d. next ≤ d)
  pub candidate_is : c ≡ candidate_of (record { now = next; switches = switches; floor = settings.floor }) i (slice_index settings.priorities i) w

-- the first of the times at which running times end
pub record IsFirstDueAt (e : ElementState) (due : ℕ) : Type 0 where
  pub some : (i : ℕ) × (i < inputs_of e) × ((monitor_of e i).due ≡ Some due)
  pub first : (i : ℕ) → i < inputs_of e → IfSome (monitor_of e i).due (λ other. due ≤ other)

abbrev pub IsFirstDue : ElementState → Option ℕ → Type 0
IsFirstDue e due = MatchOption due ((i : ℕ) → i < inputs_of e → (monitor_of e i).due ≡ None) (IsFirstDueAt e)

-- what is true of every element
pub record IsWhole (e : ElementState) : Type 0 where
  pub holdoff : 0 < e.settings.timers.holdoff
  pub few : inputs_of e ≤ MOST_INPUTS
  pub watched_length : length e.kept.inputs.watched ≡ inputs_of e
  pub dues_length : length e.kept.inputs.dues ≡ inputs_of e
  pub candidates_length : length e.kept.inputs.candidates ≡ inputs_of e
  pub locked_length : length e.kept.switches.locked ≡ inputs_of e
  pub at_rest : (i : ℕ) → i < inputs_of e → IsAtRest e.settings e.kept.switches e.next i (watched_of e i) (due_in e.kept.inputs.dues i) (candidate e.kept.inputs.candidates i)
  pub floor : IsOfOption e.settings.own.option e.settings.floor
  pub option : (i : ℕ) → IsOfOption e.settings.own.option (watched_of e i).level
  pub selection_within : IfSome e.kept.selection (λ i. i < inputs_of e)
  pub first_due : IsFirstDue e e.due
  pub in_range : e.next ≤ LAST_MILLISECOND + 1
  pub steps : e.later_steps ≤ e.next

abbrev pub IsKept : Inside → Type 0
IsKept e = IsWhole (element_state e)
