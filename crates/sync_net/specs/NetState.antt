-- What contracts see of a network.
use Rattle.std.specs.Prelude.{◌≡◌, ◌≤◌, ◌<◌, ◌⊎◌, ℕ, Bool, List, length, slice_index_or, Option, None, Some, IfSome}
use Rattle.sync_element.specs.ElementState.{ElementState}
use Rattle.link_model.specs.LineState.{LineState}
use Rattle.sync_topo.specs.Topology.{Topology}
use Rattle.sync_topo.specs.Lines.{line_count}
use Rattle.sync_net.specs.Kept.{Kept}

-- its plan; whether it is spent, after which nothing else of it is said; the first millisecond that
-- no step has told of; the number of steps after the first; its elements, and its lines, of which
-- only the nominated ones are kept; the elements that the last step evaluated; the lines that the
-- last step called; and what it keeps of lines and sources, into which no clause looks: of that
-- `StandsFor` speaks alone
pub record NetState : Type 0 where
  pub plan : Topology
  pub spent : Bool
  pub next : ℕ
  pub later_steps : ℕ
  pub elements : List ElementState
  pub lines : List (Option LineState)
  pub evaluated : List ℕ
  pub called : List ℕ
  pub kept : Kept

-- the line of a number, if it is kept
abbrev pub line_in : List (Option LineState) → ℕ → Option LineState
line_in lines line = slice_index_or lines line None

-- no element and no line has to be called before a millisecond
pub record NoneDueBefore (net : NetState) (n : ℕ) : Type 0 where
  pub elements : (element : ℕ) (other : ElementState) → element < length net.plan.elements →
      IfSome (slice_index_or net.elements element other).due (λ due. n ≤ due)
  pub lines : (line : ℕ) → line < line_count net.plan →
      IfSome (line_in net.lines line) (λ state. IfSome state.due (λ due. n ≤ due))

-- an element or a line has to be called in a millisecond
abbrev pub IsElementDueAt : NetState → ℕ → Type 0
IsElementDueAt net now = (element : ℕ) × (element < length net.plan.elements)
    × ((other : ElementState) → (slice_index_or net.elements element other).due ≡ Some now)

pub record IsLineDueAt (net : NetState) (now : ℕ) : Type 0 where
  pub line : ℕ
  pub state : LineState
  pub within : line < line_count net.plan
  pub has : line_in net.lines line ≡ Some state
  pub due : state.due ≡ Some now

abbrev pub IsDueAt : NetState → ℕ → Type 0
IsDueAt net now = IsElementDueAt net now ⊎ IsLineDueAt net now

-- a millisecond after the last step in which none has been due before, or 0 where there was no step
pub record IsInTime (net : NetState) (now : ℕ) : Type 0 where
  pub first : net.next ≡ 0 → now ≡ 0
  pub later : net.next ≤ now
  pub none_due : NoneDueBefore net now
