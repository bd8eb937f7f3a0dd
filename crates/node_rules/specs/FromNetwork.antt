-- The rows that a network brings to one of its elements, and what an element does over them.
-- That an event on a link is given on each of its lines is this project's own.
use Rattle.std.specs.Prelude.{◌≡◌, ◌≤◌, ℕ, suc, ◌+◌, ◌*◌, Bool, false, ◌&&◌, ◌||◌, ◌⊎◌, nat_eq, List, [], ◌∷◌, ◌++◌, filter, reverse, Option, None, Some}
use Rattle.std.specs.List.{flat_map}
use Rattle.sync_ql.specs.declared.levels.Level.{Level}
use Rattle.sync_ql.specs.Pasts.{past_of}
use Rattle.sync_ql.specs.Messages.{LineMoment, came, is_sent}
use Rattle.sync_topo.specs.declared.input.InputId.{InputId}
use Rattle.sync_topo.specs.declared.input.InputId.TheVariants.{Source}
use Rattle.sync_topo.specs.declared.event.Part.{Part}
use Rattle.sync_topo.specs.declared.event.Part.TheVariants as part
use Rattle.sync_topo.specs.declared.event.What.{What}
use Rattle.sync_topo.specs.declared.event.What.TheVariants.{Down, Up, EsmcOff, EsmcOn, SourceLevel, Lockout, Unlock, Forced, Manual, Clear, ClearWtr}
use Rattle.sync_topo.specs.declared.event.Event.{Event}
use Rattle.sync_topo.specs.Topology.{Topology}
use Rattle.sync_topo.specs.Lines.{sender_of, receiver_of, delay_of, is_nominated_input, IsNominated}
use Rattle.net_rules.specs.Signals.{signals_by, events_before}
use Rattle.net_rules.specs.History.{Levels, line_moment_at, taken_at, level_at, out_at}
use Rattle.net_rules.specs.Activity.{is_at, is_part_at}
use Rattle.node_file.specs.declared.row.NodeRow.{NodeRow}
use Rattle.node_file.specs.NodeRow.{events_in, rows_at, frames_on}
use Rattle.node_rules.specs.Replay.{node_taken, node_level, node_out, out_past, sends_frame}

-- a part is a line out of an element
abbrev pub is_part_out : Topology → ℕ → Part → Bool
is_part_out plan element (part.Link link) = false
is_part_out plan element (part.Line line) = nat_eq (sender_of plan line.0) element
is_part_out plan element (part.Source source) = false

-- a nominated input of an element
abbrev pub is_input_at : Topology → ℕ → InputId → Bool
is_input_at plan element input = is_nominated_input plan input && is_at plan element input

-- an element is told of what touches it, and of what goes down, up, off and on of the lines out of it. It is not told of
-- the ESMC of lines into it, which their senders switch, nor of commands on inputs that aren't nominated, which change nothing
abbrev pub is_told_to : Topology → ℕ → What → Bool
is_told_to plan element (Down p) = is_part_at plan element p || is_part_out plan element p
is_told_to plan element (Up p) = is_part_at plan element p || is_part_out plan element p
is_told_to plan element (EsmcOff line) = nat_eq (sender_of plan line.0) element
is_told_to plan element (EsmcOn line) = nat_eq (sender_of plan line.0) element
is_told_to plan element (SourceLevel source level) = is_at plan element (Source source)
is_told_to plan element (Lockout input) = is_input_at plan element input
is_told_to plan element (Unlock input) = is_input_at plan element input
is_told_to plan element (Forced input) = is_input_at plan element input
is_told_to plan element (Manual input) = is_input_at plan element input
is_told_to plan element (Clear other) = nat_eq other element
is_told_to plan element (ClearWtr input) = is_input_at plan element input

-- the two lines of a link
abbrev pub even_line : ℕ → Part
even_line link = part.Line (record { 0 = 2 * link })

abbrev pub odd_line : ℕ → Part
odd_line link = part.Line (record { 0 = 2 * link + 1 })

-- an event on a link is given on each of its two lines, and every other event as it is
abbrev pub given_as : Event → List Event
given_as event = by event.what
  where
    by : What → List Event
    by (Down (part.Link link)) =
        record { at = event.at; what = Down (even_line link) } ∷ record { at = event.at; what = Down (odd_line link) } ∷ []
    by (Up (part.Link link)) =
        record { at = event.at; what = Up (even_line link) } ∷ record { at = event.at; what = Up (odd_line link) } ∷ []
    by what = event ∷ []

-- some events, so given: in their order, and of the lines of a link the one of even number first
abbrev pub on_lines : List Event → List Event
on_lines events = flat_map given_as events

-- a list gives just some events, in their order; of the lines of a link either may stand first
abbrev pub AreGivenAs : List Event → List Event → Type 0
AreGivenAs [] given = given ≡ []
AreGivenAs (event ∷ events) given = (rest : List Event)
    × ((given ≡ given_as event ++ rest) ⊎ (given ≡ reverse (given_as event) ++ rest))
    × AreGivenAs events rest

-- what an element is told of some events, in their order
abbrev pub told_to : Topology → ℕ → List Event → List Event
told_to plan element events = filter (λ event. is_told_to plan element event.what) events

-- the levels that a network sends by its plan and a list of events; the first n milliseconds of one of its lines; and the
-- level of the message that arrives on the line in a millisecond, if one does
abbrev pub network_out : Topology → List Event → Levels
network_out plan events = out_at plan (signals_by plan events)

abbrev pub network_past : Topology → List Event → ℕ → ℕ → List LineMoment
network_past plan events line n = past_of (line_moment_at (signals_by plan events) (network_out plan events) line) n

abbrev pub arriving : Topology → List Event → ℕ → ℕ → Option Level
arriving plan events line t = came (delay_of plan line) (network_past plan events line (suc t))

-- the frames by which a level comes in a millisecond, or none
abbrev pub frame_of : Option Level → List (Option Level)
frame_of None = []
frame_of (Some level) = Some level ∷ []

-- the rows up to a millisecond are what a network brings to an element: they tell it just what the events do, and on each
-- nominated line into it there is one frame in each millisecond in which a message arrives there, with the message's level.
-- Rows that tell the element nothing may stand among them, as of a source that isn't nominated
pub record IsNodeFile (plan : Topology) (events : List Event) (element until : ℕ) (rows : List NodeRow) : Type 0 where
  pub events_told : AreGivenAs (told_to plan element (events_before (suc until) events))
      (told_to plan element (events_before (suc until) (events_in rows)))
  pub frames_told : (line t : ℕ) → IsNominated plan line → receiver_of plan line ≡ element → t ≤ until →
      frames_on line (rows_at t rows) ≡ frame_of (arriving plan events line t)

-- over rows an element does in a millisecond what it does in the network: it takes the same input and has the same level,
-- gives each line out of it the same level, and sends on it in the same milliseconds
pub record IsReplayed (plan : Topology) (events : List Event) (element : ℕ) (rows : List NodeRow) (t : ℕ) : Type 0 where
  pub selection : node_taken plan rows element t ≡ taken_at plan (signals_by plan events) (network_out plan events) element t
  pub level : node_level plan rows element t ≡ level_at plan (signals_by plan events) (network_out plan events) element t
  pub lines_out : (line : ℕ) → sender_of plan line ≡ element → node_out plan rows element line t ≡ network_out plan events line t
  pub frames : (line : ℕ) → sender_of plan line ≡ element →
      sends_frame plan rows element line t ≡ is_sent (network_past plan events line (suc t))
  -- each line out of it was the same so far, so its frame is an event message where the network's message is news
  pub words : (line : ℕ) → sender_of plan line ≡ element →
      out_past plan rows element line (suc t) ≡ network_past plan events line (suc t)
