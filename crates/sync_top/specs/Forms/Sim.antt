-- The answer to `sim`.
use Rattle.std.specs.Prelude.{◌≡◌, ℕ, suc, ◌≤◌, List, length, codes, None}
use Rattle.sync_topo.specs.declared.event.Event.{Event}
use Rattle.sync_topo.specs.Topology.{Topology}
use Rattle.sync_topo.specs.Sizes.{most_rows}
use Rattle.event_file.specs.declared.error.EventErr.{EventErr}
use Rattle.event_file.specs.Refusal.{numbers_of}
use Rattle.event_sim.specs.Rows.{rows_until}
use Rattle.event_sim.specs.Answers.{IsLastFit}
use Rattle.trace_report.specs.Report.{IsWholeReport, stopped_report}
use Rattle.sync_top.specs.declared.status.Status.{Status}
use Rattle.sync_top.specs.Status.{OnDoneOrStopped}
use Rattle.sync_top.specs.Reading.{numbered_refusal}

-- the line on events that are refused
abbrev pub event_refusal : EventErr → List ℕ
event_refusal refused = numbered_refusal (codes "bad events ") (numbers_of refused).0 (numbers_of refused).1 None

-- the whole report where all changes up to a millisecond fit, and else the report up to the last one up to
-- which all fit
abbrev pub IsFullReport : Topology → List Event → ℕ → List ℕ → Type 0
IsFullReport plan events until text =
    (length (rows_until plan events (suc until)) ≤ most_rows plan) × IsWholeReport plan events until text

abbrev pub IsShortReport : Topology → List Event → ℕ → List ℕ → Type 0
IsShortReport plan events until text = (t : ℕ) × IsLastFit plan events t until × (text ≡ stopped_report plan events t)

abbrev pub IsReport : Topology → List Event → ℕ → Status → List ℕ → Type 0
IsReport plan events until status text = OnDoneOrStopped status (IsFullReport plan events until text) (IsShortReport plan events until text)
