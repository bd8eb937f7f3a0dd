-- What a run keeps, and how far it has come.
use Rattle.std.specs.Prelude.{◌≡◌, ℕ, zero, suc, List, length, Option, None, Some, option_and_then}
use Rattle.std.specs.List.{concat}
use Rattle.sync_text.specs.Each.{Each}
use Rattle.sync_ql.specs.declared.levels.Level.{Level}
use Rattle.sync_ql.specs.Pasts.{past_of, first_within}
use Rattle.sync_ql.specs.Messages.{hearing_time, said}
use Rattle.sync_element.specs.ElementState.{ElementState}
use Rattle.sync_element.specs.StandsAfter.{StandsAfter}
use Rattle.sync_topo.specs.declared.input.InputId.{InputId}
use Rattle.sync_topo.specs.declared.input.InputId.TheVariants.{Line, Source}
use Rattle.sync_topo.specs.Topology.{Topology}
use Rattle.net_rules.specs.Signals.{source_level_before}
use Rattle.net_rules.specs.History.{settings_of, moment_at}
use Rattle.net_words.specs.Before.{up_before, esmc_before, said_before}
use Rattle.node_file.specs.declared.row.NodeRow.{NodeRow}
use Rattle.node_file.specs.NodeRow.{events_in}
use Rattle.node_replay.specs.declared.inputs.LastLevel.{LastLevel}
use Rattle.node_replay.specs.declared.inputs.InputNow.{InputNow}
use Rattle.node_replay.specs.declared.lines_out.LineOut.{LineOut}
use Rattle.node_replay.specs.declared.running.NodeRun.{NodeRun}
use Rattle.node_rules.specs.Replay.{counted, signals_in, heard_in, out_past}
use Rattle.node_rules.specs.NodeText.{rows_before, IsLastFit, whole_text}
use Rattle.node_replay.specs.Keeping.{word_or, said_in}

-- the element after n milliseconds of what its rows bring it
abbrev pub IsOfPast : Topology → List NodeRow → ℕ → ℕ → ElementState → Type 0
IsOfPast plan rows number n element =
    StandsAfter (settings_of plan number) (moment_at plan (signals_in plan rows) (heard_in plan rows) number) n element

-- the last frame that counts on a line in the first n milliseconds
abbrev pub last_counted : Topology → List NodeRow → ℕ → ℕ → Option LastLevel
last_counted plan rows line zero = None
last_counted plan rows line (suc t) = word_or (counted plan rows line t) (last_counted plan rows line t) t

-- the level that an input has after n milliseconds
abbrev pub level_before : Topology → List NodeRow → InputId → ℕ → Option Level
level_before plan rows (Line line) n = option_and_then (λ level. level) (first_within hearing_time (past_of (counted plan rows line.0) n))
level_before plan rows (Source source) n = Some (source_level_before plan (events_in rows) source n)

abbrev pub IsLast : Topology → List NodeRow → ℕ → InputId → Option LastLevel → Type 0
IsLast plan rows n (Line line) last = last ≡ last_counted plan rows line.0 n
IsLast plan rows n (Source source) last = said_in last ≡ Some (said_before plan (events_in rows) source n)

-- what is kept of an input, and of a line out of the element, is as the rows have it after n milliseconds
pub record IsInputAt (plan : Topology) (rows : List NodeRow) (n : ℕ) (input : InputNow) : Type 0 where
  pub up : input.up ≡ up_before (events_in rows) input.id n
  pub level : input.level ≡ level_before plan rows input.id n
  pub last : IsLast plan rows n input.id input.last

pub record IsOutAt (plan : Topology) (rows : List NodeRow) (number n : ℕ) (out : LineOut) : Type 0 where
  pub up : out.up ≡ up_before (events_in rows) (Line out.line) n
  pub esmc : out.esmc ≡ esmc_before (events_in rows) out.line.0 n
  pub said : out.said ≡ said (out_past plan rows number out.line.0 n)

-- it is as the rows have it after n milliseconds
pub record RunStands (plan : Topology) (rows : List NodeRow) (number n : ℕ) (run : NodeRun) : Type 0 where
  pub element : IsOfPast plan rows number n run.element
  pub inputs : Each (IsInputAt plan rows n) run.inputs.items
  pub lines_out : Each (IsOutAt plan rows number n) run.lines_out.items
  pub text : run.text ≡ concat (rows_before plan rows number n)
  pub count : run.rows ≡ length (rows_before plan rows number n)

-- or it has stopped, since the rows don't fit
pub record RunStopped (plan : Topology) (rows : List NodeRow) (number until last : ℕ) (run : NodeRun) : Type 0 where
  pub fit : IsLastFit plan rows number last until
  pub text : run.text ≡ whole_text plan rows number last

abbrev pub RunHolds : Topology → List NodeRow → ℕ → ℕ → ℕ → NodeRun → Option ℕ → Type 0
RunHolds plan rows number until n run None = RunStands plan rows number n run
RunHolds plan rows number until n run (Some last) = RunStopped plan rows number until last run
