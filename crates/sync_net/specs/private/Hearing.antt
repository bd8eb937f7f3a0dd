-- Private to this crate: what is heard in a millisecond, and what elements are told of it.
use Rattle.std.specs.Prelude.{◌≡◌, ◌<◌, ◌⊎◌, ℕ, Bool, true, false, ◌≤◌, ◌*◌, nat_eq, List, [], length, slice_get, slice_index_or, Option, None, Some, All, IfSome}
use Rattle.std.specs.List.{list_any}
use Rattle.sync_ql.specs.declared.levels.NetOption.{NetOption}
use Rattle.sync_ql.specs.declared.levels.Level.{Level}
use Rattle.sync_ql.specs.declared.rules.InputEvent.{InputEvent}
use Rattle.sync_ql.specs.Messages.{is_same_level}
use Rattle.sync_ql.specs.Told.{last_said, says_up, says_level, clears, commands_in, FitsElement}
use Rattle.link_model.specs.LineState.{LineState}
use Rattle.link_model.specs.StandsFor as Line
use Rattle.sync_topo.specs.declared.input.InputId.TheVariants.{Source}
use Rattle.sync_topo.specs.Topology.{Topology}
use Rattle.sync_topo.specs.Lines.{line_count, line_input, receiver_of, inputs_of, IsNominated}
use Rattle.net_rules.specs.History.{settings_of}
use Rattle.sync_net.specs.declared.signals.LineSignal.{LineSignal}
use Rattle.sync_net.specs.NetState.{line_in}
use Rattle.sync_net.specs.private.Steps.{IsLineTold}
use Rattle.agenda.specs.Called.{is_marked}
use Rattle.sync_net.specs.private.Stages.{KeepsMarks}

-- the lines; the level that is heard on each; what each element is told; and which elements are
-- marked
pub record Ears : Type 0 where
  pub lines : List (Option LineState)
  pub heards : List (Option Level)
  pub changes : List (List InputEvent)
  pub active : List Bool

abbrev pub heard_in : List (Option Level) → ℕ → Option Level
heard_in heards line = slice_index_or heards line None

-- a line that is kept was told what it is, and a level is heard on it then
pub record IsToldAt (now : ℕ) (signal : LineSignal) (line : ℕ) (s t : Ears) : Type 0 where
  pub before : LineState
  pub after : LineState
  pub was : line_in s.lines line ≡ Some before
  pub is : line_in t.lines line ≡ Some after
  pub told : IsLineTold now signal before after (heard_in t.heards line)

-- or it is left as it was
pub record IsNotTold (line : ℕ) (s t : Ears) : Type 0 where
  pub same : line_in t.lines line ≡ line_in s.lines line
  pub level : heard_in t.heards line ≡ heard_in s.heards line

-- an element is told more, of levels that are heard on its lines alone: the level of each line is
-- as it was, or is told
pub record HearsMore (plan : Topology) (element : ℕ) (heards heards_then : List (Option Level)) (changes changes_then : List InputEvent) : Type 0 where
  pub up : (i : ℕ) → last_said (says_up i) changes_then ≡ last_said (says_up i) changes
  pub clear : (i : ℕ) → list_any (clears i) changes_then ≡ list_any (clears i) changes
  pub commands : commands_in changes_then ≡ commands_in changes
  pub fits : All (FitsElement (settings_of plan element)) changes → All (FitsElement (settings_of plan element)) changes_then
  pub source : (i source : ℕ) → slice_get (inputs_of plan element) i ≡ Some (Source source) →
      last_said (says_level i) changes_then ≡ last_said (says_level i) changes
  pub line : (i line : ℕ) → slice_get (inputs_of plan element) i ≡ Some (line_input line) →
      ((last_said (says_level i) changes_then ≡ last_said (says_level i) changes)
      × (heard_in heards_then line ≡ heard_in heards line))
      ⊎ (last_said (says_level i) changes_then ≡ Some (heard_in heards_then line))

-- another level is heard on a nominated line into an element, which was told what it is
pub record HearsOther (plan : Topology) (element : ℕ) (done : ℕ → Bool) (heards heards_then : List (Option Level)) : Type 0 where
  pub line : ℕ
  pub within : line < line_count plan
  pub nominated : IsNominated plan line
  pub into : receiver_of plan line ≡ element
  pub done_is : done line ≡ true
  pub other : is_same_level (heard_in heards_then line) (heard_in heards line) ≡ false

abbrev pub told_in : List (List InputEvent) → ℕ → List InputEvent
told_in changes element = slice_index_or changes element []

-- so it is with all lines and elements
pub record AreTold (plan : Topology) (now : ℕ) (signal : ℕ → LineSignal) (done : ℕ → Bool) (s t : Ears) : Type 0 where
  pub lines_count : length t.lines ≡ length s.lines
  pub heards_count : length t.heards ≡ length s.heards
  pub changes_count : length t.changes ≡ length s.changes
  pub marks : KeepsMarks s.active t.active
  pub told : (line : ℕ) → line < line_count plan → done line ≡ true → IsToldAt now (signal line) line s t
  pub others : (line : ℕ) → done line ≡ false → IsNotTold line s t
  pub hears : (element : ℕ) → HearsMore plan element s.heards t.heards (told_in s.changes element) (told_in t.changes element)
  pub cause : (element : ℕ) → is_marked t.active element ≡ true →
      (is_marked s.active element ≡ true) ⊎ HearsOther plan element done s.heards t.heards
  pub silent : (element : ℕ) → is_marked t.active element ≡ false → told_in t.changes element ≡ told_in s.changes element

-- what telling a line wants
pub record CanTell (option : NetOption) (now : ℕ) (line : LineState) : Type 0 where
  pub options : Line.AreOfOption option line
  pub turn : line.turn ≤ 4 * now
  pub in_time : IfSome line.due (λ due. now ≤ due)

-- of a list of lines one was told
pub record IsLineToldIn (now : ℕ) (signal : LineSignal) (line : ℕ) (level : Option Level) (lines lines_then : List (Option LineState)) : Type 0 where
  pub count : length lines_then ≡ length lines
  pub before : LineState
  pub after : LineState
  pub was : line_in lines line ≡ Some before
  pub is : line_in lines_then line ≡ Some after
  pub told : IsLineTold now signal before after level
  pub others : (other : ℕ) → nat_eq other line ≡ false → line_in lines_then other ≡ line_in lines other

-- another level is kept for one line, and its element is told
pub record IsPassedOn (plan : Topology) (line : ℕ) (level : Option Level) (heards heards_then : List (Option Level)) (changes changes_then : List (List InputEvent)) (active active_then : List Bool) : Type 0 where
  pub heards_count : length heards_then ≡ length heards
  pub changes_count : length changes_then ≡ length changes
  pub marks : KeepsMarks active active_then
  pub level_is : heard_in heards_then line ≡ level
  pub others : (other : ℕ) → nat_eq other line ≡ false → heard_in heards_then other ≡ heard_in heards other
  pub hears : (element : ℕ) → HearsMore plan element heards heards_then (told_in changes element) (told_in changes_then element)
  pub cause : (element : ℕ) → is_marked active_then element ≡ true →
      (is_marked active element ≡ true) ⊎ ((receiver_of plan line ≡ element) × (is_same_level level (heard_in heards line) ≡ false))
  pub silent : (element : ℕ) → is_marked active_then element ≡ false → told_in changes_then element ≡ told_in changes element
