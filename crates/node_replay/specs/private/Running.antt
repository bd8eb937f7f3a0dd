-- Beside specs/Running.antt, under no public clause: what a run keeps, and how far it has come.
use Rattle.std.specs.Prelude.{◌≡◌, ◌≤◌, ◌<◌, ◌+◌, ◌%◌, ℕ, false, ◌&&◌, nat_eq, List, [], map, IfSome}
use Rattle.sync_text.specs.Each.{Each}
use Rattle.sync_ql.specs.declared.levels.NetOption.{NetOption}
use Rattle.sync_ql.specs.declared.limits.TheConstants.{LAST_MILLISECOND}
use Rattle.sync_ql.specs.Messages.{second}
use Rattle.sync_ql.specs.Moment.{Moment}
use Rattle.sync_ql.specs.Output.{clock_level_at}
use Rattle.sync_ql.specs.Told.{moments_until, IsOfOption}
use Rattle.sync_element.specs.ElementState.{ElementState, IsInTime}
use Rattle.sync_element.specs.StandsFor as Element
use Rattle.sync_topo.specs.Topology.{Topology}
use Rattle.sync_topo.specs.Sizes.{most_rows}
use Rattle.sync_topo.specs.Lines.{inputs_of, IsInput}
use Rattle.sync_topo.specs.WellFormed.{IsWellFormed}
use Rattle.net_rules.specs.History.{settings_of, taken_by}
use Rattle.node_file.specs.declared.row.NodeRow.{NodeRow}
use Rattle.node_file.specs.NodeRow.{rows_at}
use Rattle.node_replay.specs.declared.inputs.InputNow.{InputNow}
use Rattle.node_replay.specs.declared.lines_out.LineOut.{LineOut}
use Rattle.node_replay.specs.declared.shown.InputAndLevel.{InputAndLevel}
use Rattle.node_replay.specs.declared.running.NodeRun.{NodeRun}
use Rattle.node_rules.specs.NodeText.{lines_out}
use Rattle.node_replay.specs.Rows.{IsRowList}
use Rattle.node_replay.specs.private.Keeping.{said_by, level_after}

-- an element takes this, and has this level, after any past for which it stands, and after the milliseconds that follow
-- up to its due time, if nothing is told
pub record Shows (plan : Topology) (number : ℕ) (element : ElementState) (shown : InputAndLevel) : Type 0 where
  pub taken : (past : List Moment) (n : ℕ) → Element.StandsFor element past → IsInTime element n
      → shown.taken ≡ taken_by plan number (moments_until (settings_of plan number) n past)
  pub level : (past : List Moment) (n : ℕ) → Element.StandsFor element past → IsInTime element n
      → shown.level ≡ clock_level_at (settings_of plan number) (moments_until (settings_of plan number) n past)
  pub input : IfSome shown.taken (IsInput plan)

-- the levels that are kept of an input are of an option
pub record IsKeptOf (option : NetOption) (input : InputNow) : Type 0 where
  pub level : IsOfOption option input.level
  pub last : IfSome input.last (λ word. IsOfOption option word.level)

-- the levels of inputs stay as they are in a millisecond, if nothing comes
abbrev pub AreSteady : List InputNow → ℕ → Type 0
AreSteady inputs m = Each (λ input. level_after input.id input.up input.last input.level m ≡ input.level) inputs

-- what the lines say is what the element gives them
abbrev pub AreGiven : Topology → InputAndLevel → List LineOut → Type 0
AreGiven plan shown lines = Each (λ out. out.said ≡ said_by plan shown out.line.0 (out.up && out.esmc)) lines

-- a run of an element of the plan, whatever rows came
pub record IsRun (plan : Topology) (number : ℕ) (run : NodeRun) : Type 0 where
  pub well_formed : IsWellFormed plan
  pub settings : run.element.settings ≡ settings_of plan number
  pub ids : map (λ input. input.id) run.inputs.items ≡ inputs_of plan number
  pub options : Each (IsKeptOf plan.option) run.inputs.items
  pub lines : map (λ out. out.line.0) run.lines_out.items ≡ lines_out plan number
  pub shows : Shows plan number run.element run.shown
  pub rows : run.rows ≤ most_rows plan
  pub in_range : run.next ≤ LAST_MILLISECOND + 1
  pub first : run.element.next ≡ 0 → run.next ≡ 0
  pub wakes_first : run.next ≡ 0 → run.wake ≡ 0
  pub later : run.element.next ≤ run.next
  pub awake : run.next ≤ run.wake
  pub due : IfSome run.element.due (λ due. run.wake ≤ due)
  pub steady : (m : ℕ) → run.next ≤ m → m < run.wake → AreSteady run.inputs.items m
  pub seconds : (m : ℕ) → run.next ≤ m → m < run.wake → nat_eq (m % second) 0 ≡ false
  pub given : 0 < run.next → AreGiven plan run.shown run.lines_out.items

-- rows of the element, of which these stand at a millisecond
pub record AreHere (plan : Topology) (number t : ℕ) (here rows : List NodeRow) : Type 0 where
  pub list : IsRowList plan number rows
  pub stand : rows_at t rows ≡ here

-- rows of the element, of which none stands from one millisecond up to another
pub record AreAway (plan : Topology) (number from to : ℕ) (rows : List NodeRow) : Type 0 where
  pub list : IsRowList plan number rows
  pub away : (t : ℕ) → from ≤ t → t < to → rows_at t rows ≡ []
