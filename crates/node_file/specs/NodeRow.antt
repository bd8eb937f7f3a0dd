-- What one element is told and receives, a row for each: its past in a file. The words are those of event files; that a
-- frame that comes is a row too is this project's own.
use Rattle.std.specs.Prelude.{◌≡◌, ◌≤◌, if◌then◌else◌, ℕ, Bool, true, false, ◌&&◌, ◌||◌, nat_eq, List, filter, Option, None, Some}
use Rattle.std.specs.List.{filter_map}
use Rattle.sync_ql.specs.declared.levels.Level.{Level}
use Rattle.sync_topo.specs.declared.input.InputId.{InputId}
use Rattle.sync_topo.specs.declared.input.InputId.TheVariants.{Line, Source}
use Rattle.sync_topo.specs.declared.event.Part.{Part}
use Rattle.sync_topo.specs.declared.event.Part.TheVariants as part
use Rattle.sync_topo.specs.declared.event.What.{What}
use Rattle.sync_topo.specs.declared.event.What.TheVariants.{Down, Up, EsmcOff, EsmcOn, SourceLevel, Lockout, Unlock, Forced, Manual, Clear, ClearWtr}
use Rattle.sync_topo.specs.declared.event.Event.{Event}
use Rattle.sync_topo.specs.Topology.{Topology}
use Rattle.sync_topo.specs.Events.{MayHappen}
use Rattle.sync_ql.specs.declared.limits.TheConstants.{LAST_MILLISECOND}
use Rattle.sync_ql.specs.Told.{IsOfOption}
use Rattle.sync_topo.specs.Lines.{sender_of, receiver_of, element_of_source, is_nominated}
use Rattle.node_file.specs.declared.row.NodeWord.{NodeWord}
use Rattle.node_file.specs.declared.row.NodeWord.TheVariants.{Frame, Happens}
use Rattle.node_file.specs.declared.row.NodeRow.{NodeRow}

-- the events of some rows, in order
abbrev pub event_of : NodeRow → Option Event
event_of row = by row.word
  where
    by : NodeWord → Option Event
    by (Frame line level) = None
    by (Happens what) = Some (record { at = row.at; what = what })

abbrev pub events_in : List NodeRow → List Event
events_in rows = filter_map event_of rows

-- the rows of one millisecond, and those up to one
abbrev pub rows_at : ℕ → List NodeRow → List NodeRow
rows_at t rows = filter (λ row. nat_eq row.at t) rows

-- what the frames on a line say, in order
abbrev pub said_on : ℕ → NodeRow → Option (Option Level)
said_on line row = by row.word
  where
    by : NodeWord → Option (Option Level)
    by (Frame other level) = if nat_eq line other.0 then Some level else None
    by (Happens what) = None

abbrev pub frames_on : ℕ → List NodeRow → List (Option Level)
frames_on line rows = filter_map (said_on line) rows

-- a source at the element
abbrev pub is_at_source : Topology → ℕ → ℕ → Bool
is_at_source plan element source = nat_eq (element_of_source plan source) element

-- an input is of the element: a line into it, or a source at it
abbrev pub is_at : Topology → ℕ → InputId → Bool
is_at plan element (Line line) = nat_eq (receiver_of plan line.0) element
is_at plan element (Source source) = is_at_source plan element source

-- a line into or out of the element, or a source at it; no link, whose two lines are named alone
abbrev pub is_part_of : Topology → ℕ → Part → Bool
is_part_of plan element (part.Link link) = false
is_part_of plan element (part.Line line) = nat_eq (receiver_of plan line.0) element || nat_eq (sender_of plan line.0) element
is_part_of plan element (part.Source source) = is_at_source plan element source

-- what happens may stand in a file of the element
abbrev pub is_of_element : Topology → ℕ → What → Bool
is_of_element plan element (Down p) = is_part_of plan element p
is_of_element plan element (Up p) = is_part_of plan element p
is_of_element plan element (EsmcOff line) = nat_eq (sender_of plan line.0) element
is_of_element plan element (EsmcOn line) = nat_eq (sender_of plan line.0) element
is_of_element plan element (SourceLevel source level) = is_at_source plan element source
is_of_element plan element (Lockout input) = is_at plan element input
is_of_element plan element (Unlock input) = is_at plan element input
is_of_element plan element (Forced input) = is_at plan element input
is_of_element plan element (Manual input) = is_at plan element input
is_of_element plan element (Clear other) = nat_eq other element
is_of_element plan element (ClearWtr input) = is_at plan element input

-- a frame may come on a nominated line into it
abbrev pub is_frame_line : Topology → ℕ → ℕ → Bool
is_frame_line plan element line = is_nominated plan line && nat_eq (receiver_of plan line) element

-- what comes or happens is of the element, and of what the plan has
abbrev pub IsWordOf : Topology → ℕ → NodeWord → Type 0
IsWordOf plan element (Frame line level) = (is_frame_line plan element line.0 ≡ true) × IsOfOption plan.option level
IsWordOf plan element (Happens what) = (is_of_element plan element what ≡ true) × MayHappen plan what

-- the same of a row
abbrev pub IsRowOf : Topology → ℕ → NodeRow → Type 0
IsRowOf plan element row = (row.at ≤ LAST_MILLISECOND) × IsWordOf plan element row.word
