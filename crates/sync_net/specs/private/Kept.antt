-- Beside specs/Kept.antt, under no public clause: what a network keeps of what comes to its lines and sources from
-- outside, and of what is heard.
use Rattle.std.specs.Prelude.{Bool, Option, Some}
use Rattle.sync_ql.specs.declared.levels.Level.{Level}
use Rattle.sync_topo.specs.declared.input.InputId.{InputId}
use Rattle.sync_topo.specs.declared.input.InputId.TheVariants.{Line, Source}
use Rattle.sync_net.specs.Kept.{Kept, line_signal, source_signal, heard_on}

-- an input: whether it is up, and its level
abbrev pub kept_up : Kept → InputId → Bool
kept_up kept (Line line) = (line_signal kept line.0).up
kept_up kept (Source source) = (source_signal kept source).up

abbrev pub kept_level : Kept → InputId → Option Level
kept_level kept (Line line) = heard_on kept line.0
kept_level kept (Source source) = Some (source_signal kept source).level
