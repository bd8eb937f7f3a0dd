-- Two modes, two states and two inputs, or none, that are the same. Modes and states are after G.781.
use Rattle.std.specs.Prelude.{Bool, true, false, Option, None, Some}
use Rattle.sync_ql.specs.declared.rules.Mode.{Mode}
use Rattle.sync_ql.specs.declared.rules.Mode.TheVariants.{Auto, Forced, Manual}
use Rattle.sync_ql.specs.declared.rules.ClockState.{ClockState}
use Rattle.sync_ql.specs.declared.rules.ClockState.TheVariants.{FreeRun, Locked, Holdover}
use Rattle.sync_topo.specs.declared.input.InputId.{InputId}
use Rattle.sync_topo.specs.Lines.{is_same_input}

-- two modes are the same
abbrev pub is_same_mode : Mode → Mode → Bool
is_same_mode Auto Auto = true
is_same_mode Forced Forced = true
is_same_mode Manual Manual = true
is_same_mode a b = false

-- two states are the same
abbrev pub is_same_state : ClockState → ClockState → Bool
is_same_state FreeRun FreeRun = true
is_same_state Locked Locked = true
is_same_state Holdover Holdover = true
is_same_state a b = false

-- two inputs that are taken, or none, are the same
abbrev pub is_same_taken : Option InputId → Option InputId → Bool
is_same_taken None None = true
is_same_taken (Some a) (Some b) = is_same_input a b
is_same_taken a b = false
