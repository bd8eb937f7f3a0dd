-- The report of a run of a network: all changes, the conditions of all inputs at its end, whence each
-- element has its timing then, which loops stand, and whether it is settled. This project's own.
use Rattle.std.specs.Prelude.{◌≡◌, ℕ, suc, true, false, List, ◌++◌, length, map, codes, Option, Some, IsSome, unwrap_or}
use Rattle.std.specs.List.{range_with_len, concat}
use Rattle.std.specs.Fmt.{decimal}
use Rattle.sync_ql.specs.declared.rules.Cond.{Cond}
use Rattle.sync_topo.specs.declared.input.InputId.{InputId}
use Rattle.sync_topo.specs.declared.event.Event.{Event}
use Rattle.sync_topo.specs.Topology.{Topology}
use Rattle.sync_topo.specs.Lines.{inputs_of}
use Rattle.net_rules.specs.Signals.{signals_by}
use Rattle.net_rules.specs.History.{condition_by}
use Rattle.event_sim.specs.declared.change.Change.{Change}
use Rattle.event_sim.specs.declared.change.Reach.{Reach}
use Rattle.event_sim.specs.declared.change.Reach.TheVariants.{Until, Stopped}
use Rattle.event_sim.specs.Rows.{rows_until}
use Rattle.event_sim.specs.SimState.{SimState}
use Rattle.trace_report.specs.Words.{change_row, input_row}
use Rattle.trace_report.specs.LastParts.{AreLastParts}

-- the changes, each a row
abbrev pub changes_part : Topology → List Change → List ℕ
changes_part plan changes = codes "changes\n" ++ concat (map (change_row plan) changes)

-- the inputs of an element, each a row, by their conditions
abbrev pub element_rows : Topology → (InputId → Cond) → ℕ → List ℕ
element_rows plan condition element =
    concat (map (λ input. input_row plan element input (condition input)) (inputs_of plan element))

-- the inputs of all elements, in order
abbrev pub inputs_part : Topology → (InputId → Cond) → List ℕ
inputs_part plan condition =
    codes "inputs\n" ++ concat (map (element_rows plan condition) (range_with_len 0 (length plan.elements)))

-- the conditions in a millisecond
abbrev pub conditions_at : Topology → List Event → ℕ → InputId → Cond
conditions_at plan events t input = condition_by plan (signals_by plan events) input t

-- the report up to a millisecond, where all changes up to there fit: the changes, the inputs, and the
-- last parts; and where they don't, up to the last one up to which all fit
abbrev pub IsWholeReport : Topology → List Event → ℕ → List ℕ → Type 0
IsWholeReport plan events until text = (last : List ℕ) × AreLastParts plan events until last
    × (text ≡ changes_part plan (rows_until plan events (suc until)) ++ inputs_part plan (conditions_at plan events until) ++ last)

abbrev pub stopped_part : ℕ → List ℕ
stopped_part t = codes "stopped," ++ decimal t ++ codes "\n"

abbrev pub stopped_report : Topology → List Event → ℕ → List ℕ
stopped_report plan events t = changes_part plan (rows_until plan events (suc t)) ++ stopped_part t

-- the report of a simulator that has reached a millisecond, by what its last advance answered
abbrev pub IsReportText : Topology → List Event → Option ℕ → Reach → List ℕ → Type 0
IsReportText plan events reached Until text = IsWholeReport plan events (unwrap_or reached 0) text
IsReportText plan events reached (Stopped t) text = text ≡ stopped_report plan events t

-- a simulator's last advance may have answered this
abbrev pub IsLastAnswer : SimState → Reach → Type 0
IsLastAnswer sim Until = (sim.stopped ≡ false) × IsSome sim.reached
IsLastAnswer sim (Stopped t) = (sim.stopped ≡ true) × (sim.reached ≡ Some t)
