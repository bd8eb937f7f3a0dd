-- Private to this crate: what is kept before anything happens.
use Rattle.std.specs.Prelude.{ℕ, true, None, Some, Option}
use Rattle.sync_ql.specs.declared.levels.Level.{Level}
use Rattle.sync_topo.specs.declared.input.InputId.{InputId}
use Rattle.sync_topo.specs.Topology.{Topology}
use Rattle.net_rules.specs.History.{first_level}
use Rattle.node_replay.specs.declared.inputs.LastLevel.{LastLevel}
use Rattle.node_replay.specs.declared.inputs.InputNow.{InputNow}
use Rattle.node_replay.specs.declared.lines_out.LineOut.{LineOut}

-- the first word on a level, and an input to which nothing happened
abbrev pub first_word : Option Level → Option LastLevel
first_word None = None
first_word (Some level) = Some (record { at = 0; level = Some level })

abbrev pub new_input : Topology → InputId → InputNow
new_input plan input = record { id = input; up = true; level = first_level plan input; last = first_word (first_level plan input) }

-- a line out of the element, of which nothing was said
abbrev pub new_out : ℕ → LineOut
new_out line = record { line = record { 0 = line }; up = true; esmc = true; said = None; was = None }
