-- What comes into a network from outside in each millisecond, by the plan and a list of events.
-- After G.781, signal fail, quality level of a source, and external commands; ESMC after G.8264. That an
-- event is in force in its own millisecond, and that of several on one signal or level the last in the
-- list counts, is this project's own.
use Rattle.std.specs.Prelude.{ℕ, zero, suc, ◌/◌, Bool, true, false, ◌&&◌, nat_eq, nat_lt, if◌then◌else◌, List, [], ◌∷◌, filter, slice_get, Option, None, Some, option_map, unwrap_or}
use Rattle.std.specs.List.{list_any, filter_map}
use Rattle.std.specs.Option.{option_map_or, option_or}
use Rattle.sync_ql.specs.declared.levels.Level.{Level}
use Rattle.sync_ql.specs.Level.{do_not_use_of}
use Rattle.sync_ql.specs.declared.rules.Cmd.{Cmd}
use Rattle.sync_ql.specs.declared.rules.Cmd.TheVariants as command
use Rattle.sync_topo.specs.declared.input.InputId.{InputId}
use Rattle.sync_topo.specs.declared.input.InputId.TheVariants.{Line, Source}
use Rattle.sync_topo.specs.declared.event.Part.{Part}
use Rattle.sync_topo.specs.declared.event.Part.TheVariants as part
use Rattle.sync_topo.specs.declared.event.What.{What}
use Rattle.sync_topo.specs.declared.event.What.TheVariants.{Down, Up, EsmcOff, EsmcOn, SourceLevel, Lockout, Unlock, Forced, Manual, Clear, ClearWtr}
use Rattle.sync_topo.specs.declared.event.Event.{Event}
use Rattle.sync_topo.specs.Topology.{Topology}
use Rattle.sync_topo.specs.Lines.{line_input, is_same_input, place_at}

-- in each millisecond, from 0: whether an input is up; whether a line's ESMC is on; the level of a
-- source; whether an input's wait-to-restore time is cleared; and the commands to an element, in their
-- order, which name an input by its place among those of the element
pub record Signals : Type 0 where
  pub up : InputId → ℕ → Bool
  pub esmc : ℕ → ℕ → Bool
  pub source_level : ℕ → ℕ → Level
  pub clear : InputId → ℕ → Bool
  pub commands : ℕ → ℕ → List Cmd

-- the events before a millisecond, and those at one, in their order
abbrev pub events_before : ℕ → List Event → List Event
events_before t events = filter (λ event. nat_lt event.at t) events

abbrev pub events_at : ℕ → List Event → List Event
events_at t events = filter (λ event. nat_eq event.at t) events

-- what the last event of a list that speaks of a matter says of it
abbrev pub last_word : {A : Type 0} → (What → Option A) → List Event → Option A
last_word says [] = None
last_word says (event ∷ events) = option_or (last_word says events) (says event.what)

-- what happens to a part happens to an input: to the line or source itself, or to the link of the line
abbrev pub is_of_part : InputId → Part → Bool
is_of_part (Line line) (part.Link link) = nat_eq (line.0 / 2) link
is_of_part (Line line) (part.Line other) = nat_eq line.0 other.0
is_of_part (Source source) (part.Source other) = nat_eq source other
is_of_part input other = false

-- whether an input is up by what happens, where that speaks of it
abbrev pub says_up : InputId → What → Option Bool
says_up input (Down part) = if is_of_part input part then Some false else None
says_up input (Up part) = if is_of_part input part then Some true else None
says_up input what = None

-- whether a line's ESMC is on by it, and which level a source has
abbrev pub says_esmc : ℕ → What → Option Bool
says_esmc line (EsmcOff other) = if nat_eq line other.0 then Some false else None
says_esmc line (EsmcOn other) = if nat_eq line other.0 then Some true else None
says_esmc line what = None

abbrev pub says_level : ℕ → What → Option Level
says_level source (SourceLevel other level) = if nat_eq source other then Some level else None
says_level source what = None

-- whether it clears the wait-to-restore time of an input
abbrev pub clears : InputId → What → Bool
clears input (ClearWtr other) = is_same_input input other
clears input what = false

-- the command to an element that it is; one on an input that isn't nominated is none
abbrev pub command_to : Topology → ℕ → What → Option Cmd
command_to plan element (Lockout input) = option_map command.Lockout (place_at plan element input)
command_to plan element (Unlock input) = option_map command.Unlock (place_at plan element input)
command_to plan element (Forced input) = option_map command.Forced (place_at plan element input)
command_to plan element (Manual input) = option_map command.Manual (place_at plan element input)
command_to plan element (Clear other) = if nat_eq element other then Some command.Clear else None
command_to plan element what = None

-- an input is up and a line's ESMC is on as the last event on it at or before the millisecond says; at
-- first they are
unfoldable pub up_at : List Event → InputId → ℕ → Bool
up_at events input t = unwrap_or (last_word (says_up input) (events_before (suc t) events)) true

unfoldable pub esmc_at : List Event → ℕ → ℕ → Bool
esmc_at events line t = unwrap_or (last_word (says_esmc line) (events_before (suc t) events)) true

-- the level that the plan gives a source; do-not-use where there is no such source
abbrev pub planned_level : Topology → ℕ → Level
planned_level plan source =
    option_map_or (λ s. s.level) (slice_get plan.sources source) (do_not_use_of plan.option)

-- the level that was last said of a source; at first the plan's
unfoldable pub said_at : Topology → List Event → ℕ → ℕ → Level
said_at plan events source t =
    unwrap_or (last_word (says_level source) (events_before (suc t) events)) (planned_level plan source)

-- the level of a source before a millisecond: while it is up the one that was last said, and while it is
-- down the one that it had last; at first the plan's
abbrev pub source_level_before : Topology → List Event → ℕ → ℕ → Level
source_level_before plan events source zero = planned_level plan source
source_level_before plan events source (suc t) =
    if up_at events (Source source) t then said_at plan events source t
    else source_level_before plan events source t

unfoldable pub source_level_at : Topology → List Event → ℕ → ℕ → Level
source_level_at plan events source t = source_level_before plan events source (suc t)

-- what comes from outside by a plan and a list of events
abbrev pub signals_by : Topology → List Event → Signals
signals_by plan events = record {
  up = up_at events;
  esmc = esmc_at events;
  source_level = source_level_at plan events;
  clear = λ input t. list_any (λ event. clears input event.what) (events_at t events);
  commands = λ element t. filter_map (λ event. command_to plan element event.what) (events_at t events);
}

-- a line speaks: it is up and its ESMC is on
abbrev pub speaks_at : Signals → ℕ → ℕ → Bool
speaks_at signals line t = signals.up (line_input line) t && signals.esmc line t
