-- Private to this crate: what a run keeps, and how far it has come.
use Rattle.std.specs.Prelude.{◌≡◌, ◌≤◌, ◌<◌, ℕ, false, List, [], ◌++◌, length, map, slice_index_or, Option, None, IfSome}
use Rattle.sync_ql.specs.declared.rules.InputEvent.{InputEvent}
use Rattle.sync_ql.specs.declared.rules.Mode.TheVariants.{Auto}
use Rattle.sync_ql.specs.declared.rules.ClockState.TheVariants.{FreeRun}
use Rattle.sync_ql.specs.Moment.{Moment}
use Rattle.sync_ql.specs.Told.{moments_until}
use Rattle.agenda.specs.DueTimes.{due_in}
use Rattle.sync_element.specs.ElementState.{ElementState, IsInTime}
use Rattle.sync_element.specs.StandsAfter.{StandsAfter}
use Rattle.sync_element.specs.StandsFor as Element
use Rattle.sync_topo.specs.declared.event.Event.{Event}
use Rattle.sync_topo.specs.declared.input.InputId.{InputId}
use Rattle.sync_topo.specs.Topology.{Topology}
use Rattle.sync_topo.specs.Lines.{IsInput}
use Rattle.net_rules.specs.Signals.{signals_by}
use Rattle.event_times.specs.EventTimes.{AreTold, AreAhead, MomentsLeft}
use Rattle.net_words.specs.NewElements.{IsNewElement, by_priority}
use Rattle.net_words.specs.Tellings.{told_to}
use Rattle.prio_mode.specs.declared.shown.ShownByPriority.{ShownByPriority}
use Rattle.prio_mode.specs.declared.shown.Seen.{Seen}
use Rattle.prio_mode.specs.declared.running.PriorityRun.{PriorityRun}
use Rattle.prio_mode.specs.PriorityAlone.{priority_settings, priority_moment}
use Rattle.prio_mode.specs.PriorityRows.{shown_after, rows_until}

-- an element of a plan shows this after any past for which it stands, and after the milliseconds that
-- follow up to its due time, if nothing is told; and the input is one of the plan
pub record Shows (plan : Topology) (number : ℕ) (element : ElementState) (shown : ShownByPriority) : Type 0 where
  pub shows : (past : List Moment) (n : ℕ) → Element.StandsFor element past → IsInTime element n
      → shown ≡ shown_after plan number (moments_until (priority_settings plan number) n past)
  pub input : IfSome shown.input (IsInput plan)

-- an element of a plan that was told nothing, with what it shows
pub record IsNewSeen (plan : Topology) (number : ℕ) (one : Seen) : Type 0 where
  pub new : IsNewElement (by_priority plan) plan number one.element
  pub shows : Shows plan number one.element one.shown

-- an element after n milliseconds of what it takes by priority alone
abbrev pub IsOfPast : Topology → List Event → ℕ → ℕ → ElementState → Type 0
IsOfPast plan events number n element =
    StandsAfter (priority_settings plan number) (priority_moment plan (signals_by plan events) number) n element

-- the inputs that elements take, by what they show
abbrev pub inputs_shown : List Seen → List (Option InputId)
inputs_shown seen = map (λ (one : Seen). one.shown.input) seen

-- what stands for an element beyond the last one
abbrev pub nobody : Topology → Seen
nobody plan = record {
  element = record {
    settings = priority_settings plan 0;
    next = 0;
    due = None;
    later_steps = 0;
    kept = record {
      inputs = record { watched = []; dues = []; candidates = [] };
      switches = record { locked = []; forced = None; manual = None };
      selection = None;
      was_locked = false;
    };
  };
  shown = record { mode = Auto; input = None; state = FreeRun };
}

-- what is kept of an element: itself with what it showed, what it is told, and when it is due
pub record Kept : Type 0 where
  pub one : Seen
  pub told : List InputEvent
  pub due : Option ℕ

abbrev pub kept_at : Topology → PriorityRun → ℕ → Kept
kept_at plan run e = record {
  one = slice_index_or run.seen.items e (nobody plan);
  told = told_to run.tellings e;
  due = due_in run.dues e;
}

-- each list has one entry for each element
pub record AreCounted (plan : Topology) (run : PriorityRun) : Type 0 where
  pub seen : length run.seen.items ≡ length plan.elements
  pub changes : length run.tellings.changes.items ≡ length plan.elements
  pub flags : length run.tellings.active.flags ≡ length plan.elements
  pub dues : length run.dues ≡ length plan.elements

-- an element of a plan before a millisecond: nothing is told to it, and it is due when it says
pub record IsReady (plan : Topology) (next number : ℕ) (kept : Kept) : Type 0 where
  pub settings : kept.one.element.settings ≡ priority_settings plan number
  pub in_time : IsInTime kept.one.element next
  pub shows : Shows plan number kept.one.element kept.one.shown
  pub untold : kept.told ≡ []
  pub due : kept.due ≡ kept.one.element.due

-- a run before a millisecond: all elements are ready
pub record IsRun (plan : Topology) (next : ℕ) (run : PriorityRun) : Type 0 where
  pub counted : AreCounted plan run
  pub ready : (e : ℕ) → e < length plan.elements → IsReady plan next e (kept_at plan run e)

abbrev pub RunStands : Topology → List Event → ℕ → PriorityRun → Type 0
RunStands plan events n run = (e : ℕ) → e < length plan.elements
    → IsOfPast plan events e n (kept_at plan run e).one.element

-- after n milliseconds it stands for events, and has put their rows
abbrev pub HasRun : Topology → List Event → ℕ → PriorityRun → List ℕ → List ℕ → Type 0
HasRun plan events n run first text = RunStands plan events n run ×
    (text ≡ first ++ rows_until plan events n)

-- how far it has come with events up to a millisecond, of which some are left
pub record IsOnWay (plan : Topology) (events : List Event) (left : MomentsLeft) (until : ℕ)
    (before run : PriorityRun) (first text : List ℕ) : Type 0 where
  pub run_is : IsRun plan left.next run
  pub until_same : left.until ≡ until
  pub ahead : (all : List Event) → AreTold plan all 0 until events → AreAhead plan all left
  pub stands : (all : List Event) → AreTold plan all 0 until events → RunStands plan all 0 before
      → HasRun plan all left.next run first text
