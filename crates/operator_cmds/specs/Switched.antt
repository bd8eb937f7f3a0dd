-- What contracts see of the code's switches.
use Rattle.std.specs.Prelude.{ℕ, take, Option, None, Some}
use Rattle.sync_ql.specs.Switches.{Switches}
use Rattle.operator_cmds.specs.declared.cmds.Cmds.TheInside.{Inside}
use Rattle.operator_cmds.specs.declared.cmds.Switch.{Switch}
use Rattle.operator_cmds.specs.declared.cmds.Switch.TheVariants.{Off, Forced, Manual}

-- the input of a forced switch, and that of a manual one
abbrev pub forced_by : Switch → Option ℕ
forced_by Off = None
forced_by (Forced i) = Some i
forced_by (Manual i) = None

abbrev pub manual_by : Switch → Option ℕ
manual_by Off = None
manual_by (Forced i) = None
manual_by (Manual i) = Some i

abbrev pub switched : Inside → Switches
switched c = record { locked = take c.inputs c.locked; forced = forced_by c.switch; manual = manual_by c.switch }
