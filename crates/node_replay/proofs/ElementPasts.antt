-- The element stands for one millisecond more, and what it gives then.
use Rattle.std.proofs.Common.{◌≡◌, ℕ, suc, List, [], ap, sym, ◌∙◌}
use Rattle.sync_ql.specs.declared.rules.InputEvent.{InputEvent}
use Rattle.sync_ql.specs.Output.{clock_level_at}
use Rattle.sync_ql.specs.Told.{moment_after}
use Rattle.sync_element.specs.ElementState.{ElementState, IsInTime}
use Rattle.sync_element.specs.StandsAfter.{IsStepped}
use Rattle.sync_element.proofs.ElementSteps.{stands-stepped, stands-quiet}
use Rattle.sync_topo.specs.Topology.{Topology}
use Rattle.net_rules.specs.History.{settings_of, moment_at, taken_by}
use Rattle.node_file.specs.declared.row.NodeRow.{NodeRow}
use Rattle.node_replay.specs.declared.shown.InputAndLevel.{InputAndLevel}
use Rattle.node_rules.specs.Replay.{signals_in, heard_in, node_past}
use Rattle.node_replay.specs.Running.{IsOfPast}
use Rattle.node_replay.specs.private.Running.{Shows}

-- an element that made a step stands for one more millisecond
pub stepped-past : (plan : Topology) (rows : List NodeRow) (place now : ℕ) (words : List InputEvent) (before after : ElementState)
    → IsStepped now words before after → IsOfPast plan rows place now before
    → moment_after (settings_of plan place) (node_past plan rows place now) words ≡ moment_at plan (signals_in plan rows) (heard_in plan rows) place now
    → IsOfPast plan rows place (suc now) after
stepped-past plan rows place = stands-stepped (settings_of plan place) (moment_at plan (signals_in plan rows) (heard_in plan rows) place)

-- an element that is told nothing stands a millisecond later
pub quiet-past : (plan : Topology) (rows : List NodeRow) (place n : ℕ) (element : ElementState) → IsInTime element (suc n)
    → moment_after (settings_of plan place) (node_past plan rows place n) [] ≡ moment_at plan (signals_in plan rows) (heard_in plan rows) place n
    → IsOfPast plan rows place n element → IsOfPast plan rows place (suc n) element
quiet-past plan rows place n element in_time told is =
    stands-quiet (settings_of plan place) (moment_at plan (signals_in plan rows) (heard_in plan rows) place) n element in_time is (sym told)

-- what the element gives after n milliseconds
pub record Gives (plan : Topology) (rows : List NodeRow) (place n : ℕ) (shown : InputAndLevel) : Type 0 where
  pub taken : shown.taken ≡ taken_by plan place (node_past plan rows place n)
  pub level : shown.level ≡ clock_level_at (settings_of plan place) (node_past plan rows place n)

pub gives : (plan : Topology) (rows : List NodeRow) (place n : ℕ) (element : ElementState) (shown : InputAndLevel) → Shows plan place element shown
    → IsOfPast plan rows place n element → Gives plan rows place n shown
gives plan rows place n element shown shows is = record {
  taken = shows.taken (node_past plan rows place element.next) n is.stands is.in_time ∙ ap (taken_by plan place) (sym is.quiet);
  level = shows.level (node_past plan rows place element.next) n is.stands is.in_time ∙ ap (clock_level_at (settings_of plan place)) (sym is.quiet);
}
