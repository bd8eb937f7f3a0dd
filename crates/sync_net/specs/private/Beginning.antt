-- What a network is that was told nothing.
use Rattle.std.specs.Prelude.{◌≡◌, ℕ, ◌+◌, true, List, [], length, replicate, Option, None, IsSome, IfSome}
use Rattle.sync_ql.specs.Messages.{LineMoment, IsLineDue}
use Rattle.agenda.specs.Marked.{none_marked}
use Rattle.link_model.specs.LineState.{LineState}
use Rattle.link_model.specs.StandsFor as Line
use Rattle.sync_topo.specs.Topology.{Topology}
use Rattle.sync_topo.specs.Lines.{line_count, delay_of, IsNominated}
use Rattle.sync_topo.specs.WellFormed.{IsWellFormed}
use Rattle.net_rules.specs.Signals.{planned_level}
use Rattle.net_rules.specs.History.{by_levels}
use Rattle.net_words.specs.NewElements.{AreEach, IsNewElement}
use Rattle.sync_net.specs.declared.parts.NetParts.{NetParts}
use Rattle.sync_net.specs.declared.signals.SourceSignal.{SourceSignal}

-- a line that was told nothing
pub record IsNewLine (plan : Topology) (line : ℕ) (state : LineState) : Type 0 where
  pub nominated : IsNominated plan line
  pub delay : state.delay ≡ delay_of plan line
  pub turn : state.turn ≡ 0
  pub due : state.due ≡ None
  pub options : Line.AreOfOption plan.option state
  pub stands : Line.StandsFor state []
  pub changes : (past : List LineMoment) → Line.StandsFor state past → IsLineDue state.delay past state.due

-- which is kept exactly where it is nominated
pub record IsNewPlace (plan : Topology) (line : ℕ) (kept : Option LineState) : Type 0 where
  pub is_new : IfSome kept (IsNewLine plan line)
  pub every : IsNominated plan line → IsSome kept

-- a source that was told nothing
pub record IsNewSource (plan : Topology) (number : ℕ) (source : SourceSignal) : Type 0 where
  pub up : source.up ≡ true
  pub said : source.said ≡ planned_level plan number
  pub level : source.level ≡ planned_level plan number
  pub of_option : (planned_level plan number).option ≡ plan.option

-- all that a network keeps that was told nothing
pub record IsBegun (plan : Topology) (parts : NetParts) : Type 0 where
  pub well_formed : IsWellFormed plan
  pub next : parts.next ≡ 0
  pub later_steps : parts.later_steps ≡ 0
  pub elements : AreEach (IsNewElement (by_levels plan) plan) (length plan.elements) parts.elements.items
  pub lines : AreEach (IsNewPlace plan) (line_count plan) parts.lines.items
  pub signals : parts.signals.items ≡ replicate (line_count plan) (record { up = true; esmc = true })
  pub sources : AreEach (IsNewSource plan) (length plan.sources) parts.sources.items
  pub heards : parts.heards.items ≡ replicate (line_count plan) None
  pub dues : parts.dues ≡ replicate (length plan.elements + line_count plan) None
  pub changes : parts.tellings.changes.items ≡ replicate (length plan.elements) []
  pub active : parts.tellings.active ≡ none_marked (length plan.elements)
  pub called : parts.called ≡ none_marked (line_count plan)
