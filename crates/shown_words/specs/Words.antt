-- The words for what an element shows. This project's own; the terms are those of G.781.
use Rattle.std.specs.Prelude.{ℕ, List, ◌++◌, codes, Option, Some, None}
use Rattle.sync_ql.specs.declared.rules.Mode.{Mode}
use Rattle.sync_ql.specs.declared.rules.Mode.TheVariants.{Auto, Forced, Manual}
use Rattle.sync_ql.specs.declared.rules.ClockState.{ClockState}
use Rattle.sync_ql.specs.declared.rules.ClockState.TheVariants.{FreeRun, Locked, Holdover}
use Rattle.sync_topo.specs.declared.input.InputId.{InputId}
use Rattle.sync_topo.specs.Topology.{Topology}
use Rattle.sync_topo.specs.Lines.{element_name, input_name}

-- how an element chooses, and what its clock follows
abbrev pub mode_word : Mode → List ℕ
mode_word Auto = codes "auto"
mode_word Forced = codes "forced"
mode_word Manual = codes "manual"

abbrev pub state_word : ClockState → List ℕ
state_word FreeRun = codes "freerun"
state_word Locked = codes "locked"
state_word Holdover = codes "holdover"

-- the name of the input that is taken, or none
abbrev pub taken_name : Topology → Option InputId → List ℕ
taken_name plan None = codes "none"
taken_name plan (Some input) = input_name plan input

-- what an element chose: element,mode,input
abbrev pub choice_text : Topology → ℕ → Mode → Option InputId → List ℕ
choice_text plan element mode taken =
    element_name plan element ++ codes "," ++ mode_word mode ++ codes "," ++ taken_name plan taken
