-- What is known of elements and lines that aren't called.
use Rattle.std.specs.Prelude.{◌≡◌, ◌<◌, ℕ, List, length, slice_index_or, IsSome, IfSome}
use Rattle.sync_ql.specs.Moment.{Moment}
use Rattle.sync_ql.specs.Messages.{LineMoment, IsLineDue}
use Rattle.sync_ql.specs.Quiet.{IsElementDue}
use Rattle.sync_element.specs.ElementState.{ElementState}
use Rattle.sync_element.specs.StandsFor as Element
use Rattle.link_model.specs.LineState.{LineState}
use Rattle.link_model.specs.StandsFor as Line
use Rattle.sync_topo.specs.Topology.{Topology}
use Rattle.sync_topo.specs.Lines.{line_count, delay_of, IsNominated}
use Rattle.net_rules.specs.History.{settings_of}
use Rattle.sync_net.specs.NetState.{NetState, line_in}

-- an element of the plan, whose due time is the first millisecond in which an input's "failed"
-- changes
pub record IsSoundElement (plan : Topology) (place : ℕ) (element : ElementState) : Type 0 where
  pub settings : element.settings ≡ settings_of plan place
  pub due : (past : List Moment) → Element.StandsFor element past → IsElementDue element.settings past element.due

-- a nominated line of the plan, whose due time is the first millisecond in which news arrives or
-- the level heard is lost
pub record IsSoundLine (plan : Topology) (line : ℕ) (state : LineState) : Type 0 where
  pub nominated : IsNominated plan line
  pub delay : state.delay ≡ delay_of plan line
  pub due : (past : List LineMoment) → Line.StandsFor state past → IsLineDue state.delay past state.due

-- so are all, and each nominated line is kept
pub record AreSound (net : NetState) : Type 0 where
  pub elements : (element : ℕ) (other : ElementState) → element < length net.plan.elements →
      IsSoundElement net.plan element (slice_index_or net.elements element other)
  pub lines : (line : ℕ) → line < line_count net.plan → IfSome (line_in net.lines line) (IsSoundLine net.plan line)
  pub every : (line : ℕ) → IsNominated net.plan line → IsSome (line_in net.lines line)
