-- Beside specs/Whole.antt, under no public clause: how a network is seen, and what is true of every one that isn't
-- spent.
use Rattle.std.specs.Prelude.{◌≡◌, ◌≤◌, ◌<◌, ◌+◌, ◌*◌, ℕ, [], length, slice_index_or, option_and_then, IsSome, IfSome}
use Rattle.sync_ql.specs.Told.{IsOfOption}
use Rattle.sync_ql.specs.declared.limits.TheConstants.{LAST_MILLISECOND}
use Rattle.agenda.specs.DueTimes.{due_in}
use Rattle.sync_element.specs.ElementState.{ElementState}
use Rattle.link_model.specs.LineState.{LineState}
use Rattle.link_model.specs.StandsFor as Line
use Rattle.sync_topo.specs.Topology.{Topology}
use Rattle.sync_topo.specs.Lines.{line_count, IsNominated}
use Rattle.sync_topo.specs.WellFormed.{IsWellFormed}
use Rattle.sync_net.specs.declared.parts.NetParts.{NetParts}
use Rattle.sync_net.specs.NetState.{line_in}
use Rattle.sync_net.specs.Sound.{IsSoundElement, IsSoundLine}
use Rattle.sync_net.specs.private.Noting.{AreOfOption}
use Rattle.sync_net.specs.private.Hearing.{heard_in, told_in}

-- an element between two steps
pub record IsReadyElement (plan : Topology) (next place : ℕ) (element : ElementState) : Type 0 where
  pub sound : IsSoundElement plan place element
  pub first : element.next ≡ 0 → next ≡ 0
  pub later : element.next ≤ next
  pub due_later : IfSome element.due (λ due. next ≤ due)

-- a line between two steps
pub record IsReadyLine (plan : Topology) (next line : ℕ) (state : LineState) : Type 0 where
  pub sound : IsSoundLine plan line state
  pub options : Line.AreOfOption plan.option state
  pub turn : state.turn ≤ 4 * next
  pub due_later : IfSome state.due (λ due. next ≤ due)

pub record IsWhole (plan : Topology) (parts : NetParts) : Type 0 where
  pub well_formed : IsWellFormed plan
  pub in_range : parts.next ≤ LAST_MILLISECOND + 1
  pub steps : parts.later_steps ≤ parts.next
  pub elements_count : length parts.elements.items ≡ length plan.elements
  pub lines_count : length parts.lines.items ≡ line_count plan
  pub signals_count : length parts.signals.items ≡ line_count plan
  pub sources_count : length parts.sources.items ≡ length plan.sources
  pub heards_count : length parts.heards.items ≡ line_count plan
  pub dues_count : length parts.dues ≡ length plan.elements + line_count plan
  pub changes_count : length parts.tellings.changes.items ≡ length plan.elements
  pub active_count : length parts.tellings.active.flags ≡ length plan.elements
  pub called_count : length parts.called.flags ≡ line_count plan
  pub elements : (element : ℕ) (other : ElementState) → element < length plan.elements →
      IsReadyElement plan parts.next element (slice_index_or parts.elements.items element other)
  pub lines : (line : ℕ) → line < line_count plan → IfSome (line_in parts.lines.items line) (IsReadyLine plan parts.next line)
  pub every : (line : ℕ) → IsNominated plan line → IsSome (line_in parts.lines.items line)
  pub element_dues : (element : ℕ) (other : ElementState) → element < length plan.elements →
      due_in parts.dues element ≡ (slice_index_or parts.elements.items element other).due
  pub line_dues : (line : ℕ) → line < line_count plan →
      due_in parts.dues (length plan.elements + line) ≡ option_and_then (λ state. state.due) (line_in parts.lines.items line)
  pub levels : (line : ℕ) → IsOfOption plan.option (heard_in parts.heards.items line)
  pub source_levels : AreOfOption plan.option parts.sources.items
  pub told_nothing : (element : ℕ) → told_in parts.tellings.changes.items element ≡ []
