-- Private to this crate: what a step makes of a network, element by element and line by line.
use Rattle.std.specs.Prelude.{◌≡◌, ◌<◌, ◌⊎◌, ◌+◌, ℕ, true, false, [], List, All, length, slice_index_or, nat_eq, if◌then◌else◌, None, Some, IfSome}
use Rattle.std.specs.List.{list_any, IsDistinct}
use Rattle.sync_ql.specs.declared.levels.Level.{Level}
use Rattle.sync_ql.specs.Messages.{is_same_level}
use Rattle.sync_ql.specs.declared.rules.InputEvent.{InputEvent}
use Rattle.sync_element.specs.ElementState.{ElementState}
use Rattle.sync_element.specs.StandsAfter.{IsStepped}
use Rattle.link_model.specs.LineState.{LineState}
use Rattle.sync_topo.specs.declared.event.Event.{Event}
use Rattle.sync_topo.specs.Topology.{Topology}
use Rattle.sync_topo.specs.Lines.{line_count, sender_of, receiver_of, IsNominated}
use Rattle.net_rules.specs.Activity.{touches}
use Rattle.sync_net.specs.Kept.{Kept, line_signal, heard_on}
use Rattle.sync_net.specs.private.Telling.{IsTold}
use Rattle.sync_net.specs.private.Noted.{AreNoted}
use Rattle.sync_net.specs.private.Steps.{IsSteady, IsLineTold, IsLineSaid}
use Rattle.sync_net.specs.private.Stages.{IsLevelSent}
use Rattle.sync_net.specs.NetState.{NetState, line_in}

-- an element makes a step, in which it is told all that is otherwise
pub record ElementSteps (plan : Topology) (now : ℕ) (events : List Event) (was next : Kept) (element : ℕ) (before after : ElementState) : Type 0 where
  pub changes : List InputEvent
  pub told : IsTold plan was next events element changes
  pub stepped : IsStepped now changes before after

-- or it makes none: nothing is otherwise, and it isn't due
pub record ElementStays (plan : Topology) (now : ℕ) (events : List Event) (was next : Kept) (element : ℕ) (before after : ElementState) : Type 0 where
  pub told : IsTold plan was next events element []
  pub same : after ≡ before
  pub not_due : IfSome before.due (λ due. now < due)
  pub not_first : 0 < now

abbrev pub ElementMoves : Topology → ℕ → List Event → Kept → Kept → ℕ → ElementState → ElementState → Type 0
ElementMoves plan now events was next element before after =
    ElementSteps plan now events was next element before after ⊎ ElementStays plan now events was next element before after

-- a line is told what it is, and then given the level that its sender has
pub record LineIsTold (plan : Topology) (now : ℕ) (next : Kept) (line : ℕ) (sender : ElementState) (before after : LineState) : Type 0 where
  pub between : LineState
  pub told : IsLineTold now (line_signal next line) before between (heard_on next line)
  pub level : Level
  pub sent : IsLevelSent plan line sender level
  pub said : IsLineSaid now level between after

-- a line that isn't told is as it was, and isn't due
pub record LineKeeps (now : ℕ) (was next : Kept) (line : ℕ) (before : LineState) : Type 0 where
  pub signal : line_signal next line ≡ line_signal was line
  pub heard : heard_on next line ≡ heard_on was line
  pub not_due : IfSome before.due (λ due. now < due)
  pub not_first : 0 < now

-- it is given the level that its sender has
pub record LineIsSaid (plan : Topology) (now : ℕ) (was next : Kept) (line : ℕ) (sender : ElementState) (before after : LineState) : Type 0 where
  pub keeps : LineKeeps now was next line before
  pub level : Level
  pub sent : IsLevelSent plan line sender level
  pub said : IsLineSaid now level before after

-- or it is left, where its sender gives what it gave
pub record LineStays (plan : Topology) (now : ℕ) (events : List Event) (was next : Kept) (line : ℕ) (sender sender_then : ElementState) (before after : LineState) : Type 0 where
  pub keeps : LineKeeps now was next line before
  pub same : after ≡ before
  pub steady : IsSteady now sender sender_then ⊎ ElementStays plan now events was next (sender_of plan line) sender sender_then

pub record LineMoves (plan : Topology) (now : ℕ) (events : List Event) (s t : NetState) (line : ℕ) (before : LineState) : Type 0 where
  pub after : LineState
  pub is : line_in t.lines line ≡ Some after
  pub how : (other : ElementState) →
      LineIsTold plan now t.kept line (slice_index_or t.elements (sender_of plan line) other) before after
      ⊎ (LineIsSaid plan now s.kept t.kept line (slice_index_or t.elements (sender_of plan line) other) before after
      ⊎ LineStays plan now events s.kept t.kept line (slice_index_or s.elements (sender_of plan line) other)
      (slice_index_or t.elements (sender_of plan line) other) before after)

-- a step of the whole network
pub record IsNetStep (now : ℕ) (events : List Event) (s t : NetState) : Type 0 where
  pub plan : t.plan ≡ s.plan
  pub next : t.next ≡ now + 1
  pub later_steps : t.later_steps ≡ (if nat_eq s.next 0 then 0 else s.later_steps + 1)
  pub noted : AreNoted s.plan events s.kept t.kept
  pub elements : (element : ℕ) (other : ElementState) → element < length s.plan.elements →
      ElementMoves s.plan now events s.kept t.kept element (slice_index_or s.elements element other) (slice_index_or t.elements element other)
  pub lines : (line : ℕ) (before : LineState) → line < line_count s.plan → line_in s.lines line ≡ Some before →
      LineMoves s.plan now events s t line before
  pub absent : (line : ℕ) → line_in s.lines line ≡ None → line_in t.lines line ≡ None

-- why an element makes a step: it is the first of all, an event touches the element, another level
-- is heard on a nominated line into it, or it is due
pub record HearsOtherLine (s t : NetState) (element : ℕ) : Type 0 where
  pub line : ℕ
  pub nominated : IsNominated s.plan line
  pub into : receiver_of s.plan line ≡ element
  pub other : is_same_level (heard_on t.kept line) (heard_on s.kept line) ≡ false

abbrev pub HasCause : ℕ → List Event → NetState → NetState → ℕ → Type 0
HasCause now events s t element =
    (s.next ≡ 0) ⊎ ((list_any (λ event. touches s.plan element event.what) events ≡ true)
    ⊎ (HearsOtherLine s t element ⊎ ((other : ElementState) → (slice_index_or s.elements element other).due ≡ Some now)))

-- the elements that a step evaluated: none twice, each for a cause; the others are as they were
pub record AreEvaluatedFor (now : ℕ) (events : List Event) (s t : NetState) : Type 0 where
  pub apart : IsDistinct nat_eq t.evaluated
  pub within : All (λ element. element < length s.plan.elements) t.evaluated
  pub cause : (element : ℕ) → list_any (nat_eq element) t.evaluated ≡ true → HasCause now events s t element
  pub counts : (element : ℕ) (other : ElementState) → element < length s.plan.elements → list_any (nat_eq element) t.evaluated ≡ true →
      (slice_index_or t.elements element other).later_steps
      ≡ (if nat_eq (slice_index_or s.elements element other).next 0 then 0 else (slice_index_or s.elements element other).later_steps + 1)
  pub left : (element : ℕ) (other : ElementState) → element < length s.plan.elements → list_any (nat_eq element) t.evaluated ≡ false →
      slice_index_or t.elements element other ≡ slice_index_or s.elements element other
