-- Private to this crate: what the stages of a millisecond make of a network.
use Rattle.std.specs.Prelude.{◌≡◌, ◌≤◌, ◌<◌, ◌⊎◌, ◌+◌, ◌*◌, ℕ, Bool, true, false, nat_eq, List, [], length, slice_index_or, Option, Some, IsSomeAnd, IfSome}
use Rattle.std.specs.List.{All, list_any}
use Rattle.sync_ql.specs.declared.levels.Level.{Level}
use Rattle.sync_ql.specs.declared.rules.InputEvent.{InputEvent}
use Rattle.sync_ql.specs.Moment.{Moment}
use Rattle.sync_ql.specs.Told.{moments_until, FitsElement}
use Rattle.sync_element.specs.ElementState.{ElementState, IsInTime}
use Rattle.sync_element.specs.StandsAfter.{IsStepped}
use Rattle.sync_element.specs.StandsFor as Element
use Rattle.link_model.specs.LineState.{LineState}
use Rattle.agenda.specs.DueTimes.{due_in}
use Rattle.agenda.specs.Called.{is_marked}
use Rattle.sync_topo.specs.Topology.{Topology}
use Rattle.sync_topo.specs.Lines.{line_count, sender_of}
use Rattle.net_rules.specs.History.{sent_by}
use Rattle.sync_topo.specs.declared.input.LineId.{LineId}
use Rattle.sync_topo.specs.Lines.{lines_out}
use Rattle.sync_net.specs.NetState.{line_in}
use Rattle.sync_net.specs.private.Steps.{IsSteady, IsLineSaid}

-- the places that pass a test are all marked
abbrev pub AreMarked : (ℕ → Bool) → List Bool → Type 0
AreMarked test flags = (k : ℕ) → test k ≡ true → is_marked flags k ≡ true

-- what is marked stays marked
pub record KeepsMarks (flags flags_then : List Bool) : Type 0 where
  pub count : length flags_then ≡ length flags
  pub kept : (k : ℕ) → is_marked flags k ≡ true → is_marked flags_then k ≡ true

-- when each object is due, elements first and then lines; and which elements and lines are marked
pub record Marking : Type 0 where
  pub dues : List (Option ℕ)
  pub elements : List Bool
  pub lines : List Bool

-- what is due in a millisecond is marked, and taken out
pub record AreDueMarked (now n : ℕ) (s t : Marking) : Type 0 where
  pub count : length t.dues ≡ length s.dues
  pub elements : KeepsMarks s.elements t.elements
  pub lines : KeepsMarks s.lines t.lines
  -- an object that isn't marked is due as it was
  pub element_left : (e : ℕ) → e < n → is_marked t.elements e ≡ false → due_in t.dues e ≡ due_in s.dues e
  pub line_left : (l : ℕ) → is_marked t.lines l ≡ false → due_in t.dues (n + l) ≡ due_in s.dues (n + l)
  -- and one that wasn't marked is due now
  pub element_cause : (e : ℕ) → e < n → is_marked t.elements e ≡ true → (is_marked s.elements e ≡ true) ⊎ IsSomeAnd (due_in s.dues e) (λ due. due ≤ now)
  pub line_cause : (l : ℕ) → is_marked t.lines l ≡ true → (is_marked s.lines l ≡ true) ⊎ IsSomeAnd (due_in s.dues (n + l)) (λ due. due ≤ now)

-- the elements, what each of them is told, when each object is due, and which lines are to be
-- called
pub record Workplace : Type 0 where
  pub elements : List ElementState
  pub changes : List (List InputEvent)
  pub dues : List (Option ℕ)
  pub called : List Bool

abbrev pub changes_of : List (List InputEvent) → ℕ → List InputEvent
changes_of changes e = slice_index_or changes e []

-- whether a line is one of some, and whether it is one of the nominated lines out of an element
abbrev pub is_among : List LineId → ℕ → Bool
is_among lines l = list_any (λ line. nat_eq l line.0) lines

abbrev pub is_out_of : Topology → ℕ → ℕ → Bool
is_out_of plan e l = is_among (lines_out plan e) l

-- an element made a step: it is due when it says, it was told all, and either it gives what it gave
-- or the lines out of it are to be called
pub record IsEvaluated (now : ℕ) (out : ℕ → Bool) (e : ℕ) (s t : Workplace) : Type 0 where
  pub stepped : (other : ElementState) → IsStepped now (changes_of s.changes e) (slice_index_or s.elements e other) (slice_index_or t.elements e other)
  pub cleared : changes_of t.changes e ≡ []
  pub due : (other : ElementState) → due_in t.dues e ≡ (slice_index_or t.elements e other).due
  pub sent : ((other : ElementState) → IsSteady now (slice_index_or s.elements e other) (slice_index_or t.elements e other)) ⊎ AreMarked out t.called

-- or it is left as it was
pub record IsNotEvaluated (e : ℕ) (s t : Workplace) : Type 0 where
  pub element : (other : ElementState) → slice_index_or t.elements e other ≡ slice_index_or s.elements e other
  pub changes : changes_of t.changes e ≡ changes_of s.changes e
  pub due : due_in t.dues e ≡ due_in s.dues e

-- so each of n elements is
pub record AreEvaluated (now n : ℕ) (is_out : ℕ → ℕ → Bool) (done : ℕ → Bool) (s t : Workplace) : Type 0 where
  pub elements_count : length t.elements ≡ length s.elements
  pub changes_count : length t.changes ≡ length s.changes
  pub dues_count : length t.dues ≡ length s.dues
  pub called : KeepsMarks s.called t.called
  pub cause : (l : ℕ) → is_marked t.called l ≡ true → (is_marked s.called l ≡ true) ⊎ ((e : ℕ) × (done e ≡ true) × (is_out e l ≡ true))
  pub evaluated : (e : ℕ) → e < n → done e ≡ true → IsEvaluated now (is_out e) e s t
  pub others : (e : ℕ) → e < n → done e ≡ false → IsNotEvaluated e s t
  pub lines : (k : ℕ) → n ≤ k → due_in t.dues k ≡ due_in s.dues k

-- what a step of an element wants
pub record CanStep (now : ℕ) (element : ElementState) (changes : List InputEvent) : Type 0 where
  pub in_time : IsInTime element now
  pub fits : All (FitsElement element.settings) changes

-- a level is the one that the rules send on a line, whatever past its sender stands for
pub record IsLevelSent (plan : Topology) (line : ℕ) (sender : ElementState) (level : Level) : Type 0 where
  pub option : level.option ≡ plan.option
  pub sent : (past : List Moment) (n : ℕ) → Element.StandsFor sender past → IsInTime sender n →
      level ≡ sent_by plan line (moments_until sender.settings n past)

-- the lines, and when each object is due
pub record Wires : Type 0 where
  pub lines : List (Option LineState)
  pub dues : List (Option ℕ)

-- a line was given a level, and is due when it says; lines come after n elements
pub record IsGiven (now n line : ℕ) (level : Level) (s t : Wires) : Type 0 where
  pub before : LineState
  pub after : LineState
  pub was : line_in s.lines line ≡ Some before
  pub is : line_in t.lines line ≡ Some after
  pub said : IsLineSaid now level before after
  pub due : due_in t.dues (n + line) ≡ after.due

-- or it is left as it was
pub record IsNotGiven (n line : ℕ) (s t : Wires) : Type 0 where
  pub same : line_in t.lines line ≡ line_in s.lines line
  pub due : due_in t.dues (n + line) ≡ due_in s.dues (n + line)

-- the level that its sender gives it
pub record IsSent (plan : Topology) (elements : List ElementState) (now line : ℕ) (s t : Wires) : Type 0 where
  pub level : Level
  pub by_sender : (other : ElementState) → IsLevelSent plan line (slice_index_or elements (sender_of plan line) other) level
  pub given : IsGiven now (length plan.elements) line level s t

-- so each line is
pub record AreSent (plan : Topology) (elements : List ElementState) (now : ℕ) (done : ℕ → Bool) (s t : Wires) : Type 0 where
  pub lines_count : length t.lines ≡ length s.lines
  pub dues_count : length t.dues ≡ length s.dues
  pub sent : (line : ℕ) → line < line_count plan → done line ≡ true → IsSent plan elements now line s t
  pub others : (line : ℕ) → line < line_count plan → done line ≡ false → IsNotGiven (length plan.elements) line s t
  pub elements_left : (k : ℕ) → k < length plan.elements → due_in t.dues k ≡ due_in s.dues k

-- what giving a level wants of a line
pub record CanSay (now : ℕ) (line : LineState) : Type 0 where
  pub turn : line.turn ≤ 4 * now + 3
  pub in_time : IfSome line.due (λ due. now ≤ due)

-- one line was given a level, and the others are left
pub record IsOnlyGiven (now n line : ℕ) (level : Level) (s t : Wires) : Type 0 where
  pub lines_count : length t.lines ≡ length s.lines
  pub dues_count : length t.dues ≡ length s.dues
  pub given : IsGiven now n line level s t
  pub others : (other : ℕ) → nat_eq other line ≡ false → IsNotGiven n other s t
  pub elements_left : (k : ℕ) → k < n → due_in t.dues k ≡ due_in s.dues k
