-- What a network brings to an element, as rows: a file of them.
-- That what is told stands before the frames of its millisecond is this project's own.
use Rattle.std.specs.Prelude.{ℕ, zero, suc, ◌≤◌, List, [], ◌++◌, length, map, Option}
use Rattle.std.specs.List.{AllAdjacentBelow, flat_map}
use Rattle.sync_ql.specs.declared.levels.Level.{Level}
use Rattle.sync_topo.specs.declared.event.Event.{Event}
use Rattle.sync_topo.specs.Topology.{Topology}
use Rattle.sync_topo.specs.Lines.{lines_into}
use Rattle.net_rules.specs.Signals.{events_at}
use Rattle.node_file.specs.declared.row.NodeWord.TheVariants.{Frame, Happens}
use Rattle.node_file.specs.declared.row.NodeRow.{NodeRow}
use Rattle.node_rules.specs.FromNetwork.{on_lines, told_to, frame_of, arriving}

-- the row of an event, and that of a frame on a line
abbrev pub event_row : Event → NodeRow
event_row event = record { at = event.at; word = Happens event.what }

abbrev pub arrival_row : ℕ → ℕ → Option Level → NodeRow
arrival_row t line level = record { at = t; word = Frame (record { 0 = line }) level }

-- what the element is told in a millisecond, and then the frames that come to it, in the order of the lines
abbrev pub told_rows : Topology → List Event → ℕ → ℕ → List NodeRow
told_rows plan events element t = map event_row (on_lines (told_to plan element (events_at t events)))

abbrev pub arrival_rows : Topology → List Event → ℕ → ℕ → List NodeRow
arrival_rows plan events element t =
    flat_map (λ line. map (arrival_row t line) (frame_of (arriving plan events line t))) (lines_into plan element)

abbrev pub brought_in : Topology → List Event → ℕ → ℕ → List NodeRow
brought_in plan events element t = told_rows plan events element t ++ arrival_rows plan events element t

-- all rows of the first n milliseconds
abbrev pub brought : Topology → List Event → ℕ → ℕ → List NodeRow
brought plan events element zero = []
brought plan events element (suc n) = brought plan events element n ++ brought_in plan events element n

-- rows stand in order of time
abbrev pub AreInOrder : List NodeRow → Type 0
AreInOrder rows = AllAdjacentBelow (λ one next. one.at ≤ next.at) rows (length rows)
