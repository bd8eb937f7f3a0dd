-- Private to this crate: commands by the command table of each element alone, which is told the
-- commands one after another and never a millisecond.
use Rattle.std.specs.Prelude.{◌≡◌, ◌<◌, ℕ, Bool, true, false, List, ◌++◌, length, take, codes, Option, None, Some, option_map, IfSome}
use Rattle.sync_ql.specs.declared.rules.Cmd.{Cmd}
use Rattle.sync_ql.specs.declared.rules.Cmd.TheVariants as command
use Rattle.sync_ql.specs.Switches.{Switches, unswitched, after_command, after_commands}
use Rattle.operator_cmds.specs.declared.cmds.Applied.{Applied}
use Rattle.operator_cmds.specs.declared.cmds.Applied.TheVariants.{Taken, Rejected}
use Rattle.sync_topo.specs.declared.input.InputId.{InputId}
use Rattle.sync_topo.specs.declared.event.Event.{Event}
use Rattle.sync_topo.specs.Topology.{Topology}
use Rattle.sync_topo.specs.Lines.{inputs_of, element_of, place_at, IsInput}
use Rattle.net_words.specs.NewElements.{AreEach}
use Rattle.inspection.specs.declared.asked.Asked.{Asked}
use Rattle.inspection.specs.declared.asked.Order.{Order}
use Rattle.inspection.specs.declared.asked.Order.TheVariants.{Lockout, Unlock, Forced, Manual, Clear}
use Rattle.inspection.specs.Commands.{commands_among, rows_by}

-- the plan has the element, and the input if one is named, which is one of that element
pub record IsAskedIn (plan : Topology) (asked : Asked) : Type 0 where
  pub element : asked.element < length plan.elements
  pub input : IfSome asked.input (IsInput plan)
  pub of_element : IfSome asked.input (λ input. element_of plan input ≡ asked.element)

-- the command on the input at a place, and the one that the element gets
abbrev pub order_at : Order → ℕ → Cmd
order_at Lockout i = command.Lockout i
order_at Unlock i = command.Unlock i
order_at Forced i = command.Forced i
order_at Manual i = command.Manual i
order_at Clear i = command.Clear

abbrev pub command_on : Topology → Order → Option InputId → Option Cmd
command_on plan order None = Some command.Clear
command_on plan order (Some input) = option_map (order_at order) (place_at plan (element_of plan input) input)

abbrev pub command_by : Topology → Asked → Option Cmd
command_by plan asked = command_on plan asked.order asked.input

-- what is told of a command is that it was taken
abbrev pub is_taken_by : Applied → Bool
is_taken_by Taken = true
is_taken_by Rejected = false

-- the switches after a command, if there is one
abbrev pub after_asked : Switches → Option Cmd → Switches
after_asked s None = s
after_asked s (Some command) = after_command s command

-- the table of an element after some events
unfoldable pub table_after : Topology → List Event → ℕ → Switches
table_after plan events element =
    after_commands (unswitched (length (inputs_of plan element))) (commands_among plan element events)

-- these are the tables of all elements
abbrev pub AreTables : Topology → List Event → List Switches → Type 0
AreTables plan events tables = AreEach (λ element s. s ≡ table_after plan events element) (length plan.elements) tables

-- the table of an element before the event at a place of a list, in whatever millisecond it is
abbrev pub table_at : Topology → List Event → ℕ → ℕ → ℕ → Switches
table_at plan told place t element = table_after plan (take place told) element

-- the commands by the tables
abbrev pub commands_told : Topology → List Event → List ℕ
commands_told plan told = codes "commands\n" ++ rows_by plan told (table_at plan told)
