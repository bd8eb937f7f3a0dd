-- The commands of some events, each with whether it was taken or rejected. After G.781, external
-- commands and their priority; the rows are this project's own.
use Rattle.std.specs.Prelude.{ℕ, Bool, true, false, not, List, [], ◌++◌, length, map, take, codes, slice_get, Option, None, Some}
use Rattle.std.specs.List.{concat, filter_map, range_with_len}
use Rattle.std.specs.Option.{option_map_or}
use Rattle.std.specs.Fmt.{decimal}
use Rattle.sync_ql.specs.declared.rules.Cmd.{Cmd}
use Rattle.sync_ql.specs.Switches.{Switches, is_rejected, after_commands}
use Rattle.sync_ql.specs.Moment.{switches_at}
use Rattle.sync_topo.specs.declared.input.InputId.{InputId}
use Rattle.sync_topo.specs.declared.event.What.{What}
use Rattle.sync_topo.specs.declared.event.What.TheVariants as what
use Rattle.sync_topo.specs.declared.event.Event.{Event}
use Rattle.sync_topo.specs.Topology.{Topology}
use Rattle.sync_topo.specs.Lines.{element_of, element_name, input_name}
use Rattle.net_rules.specs.Signals.{signals_by, command_to, events_before, events_at}
use Rattle.net_rules.specs.History.{settings_of, element_past, out_at}
use Rattle.inspection.specs.declared.asked.Asked.{Asked}
use Rattle.inspection.specs.declared.asked.Order.{Order}
use Rattle.inspection.specs.declared.asked.Order.TheVariants.{Lockout, Unlock, Forced, Manual, Clear}

-- a command on an input is one to the element of that input, nominated or not
abbrev pub on_input : Topology → Order → InputId → Asked
on_input plan order input = record { element = element_of plan input; order = order; input = Some input }

-- the command that happens, where one does
abbrev pub asked_of : Topology → What → Option Asked
asked_of plan (what.Lockout input) = Some (on_input plan Lockout input)
asked_of plan (what.Unlock input) = Some (on_input plan Unlock input)
asked_of plan (what.Forced input) = Some (on_input plan Forced input)
asked_of plan (what.Manual input) = Some (on_input plan Manual input)
asked_of plan (what.Clear element) = Some (record { element = element; order = Clear; input = None })
asked_of plan other = None

-- the words for what a command is about, and for what became of it
abbrev pub order_word : Order → List ℕ
order_word Lockout = codes "lockout"
order_word Unlock = codes "unlock"
order_word Forced = codes "forced"
order_word Manual = codes "manual"
order_word Clear = codes "clear"

abbrev pub answer_word : Bool → List ℕ
answer_word true = codes "taken"
answer_word false = codes "rejected"

-- the name of the input, if it names one
abbrev pub name_or_nothing : Topology → Option InputId → List ℕ
name_or_nothing plan None = []
name_or_nothing plan (Some input) = input_name plan input

-- a command: t,element,word,input,answer
abbrev pub command_row : Topology → ℕ → Asked → Bool → List ℕ
command_row plan t asked taken =
    decimal t ++ codes "," ++ element_name plan asked.element ++ codes "," ++ order_word asked.order ++ codes ","
    ++ name_or_nothing plan asked.input ++ codes "," ++ answer_word taken ++ codes "\n"

-- a command is taken where it is one to the element and isn't rejected
abbrev pub is_taken : Switches → Option Cmd → Bool
is_taken s None = false
is_taken s (Some command) = not (is_rejected s command)

-- the row of what happens in a millisecond, where it is a command, by the switches that each
-- element has before it
abbrev pub row_of : Topology → (ℕ → Switches) → ℕ → What → List ℕ
row_of plan before t happens =
    option_map_or (λ asked. command_row plan t asked (is_taken (before asked.element) (command_to plan asked.element happens)))
    (asked_of plan happens) []

-- the row of the event at a place of a list
abbrev pub row_at : Topology → List Event → (ℕ → ℕ → ℕ → Switches) → ℕ → List ℕ
row_at plan events before place =
    option_map_or (λ event. row_of plan (before place event.at) event.at event.what) (slice_get events place) []

-- the rows of a list of events
abbrev pub rows_by : Topology → List Event → (ℕ → ℕ → ℕ → Switches) → List ℕ
rows_by plan events before = concat (map (row_at plan events before) (range_with_len 0 (length events)))

-- the commands of some events to an element, in their order
abbrev pub commands_among : Topology → ℕ → List Event → List Cmd
commands_among plan element events = filter_map (λ event. command_to plan element event.what) events

-- the switches that an element has when the event at a place of those that are told, of a
-- millisecond, is applied: those after the milliseconds before, and then what the commands of its
-- own that stand before it make of them
unfoldable pub applied_at : Topology → List Event → List Event → ℕ → ℕ → ℕ → Switches
applied_at plan events told place t element =
    after_commands (switches_at (settings_of plan element)
    (element_past plan (signals_by plan events) (out_at plan (signals_by plan events)) element t))
    (commands_among plan element (events_at t (take place told)))

-- the commands before a millisecond, by the rules
abbrev pub commands_part : Topology → List Event → ℕ → List ℕ
commands_part plan events n =
    codes "commands\n" ++ rows_by plan (events_before n events) (applied_at plan events (events_before n events))
