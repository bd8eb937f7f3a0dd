use Rattle.std.proofs.Common.{◌≡◌, drop}
use Rattle.std.specs.Option.{option_or}
use Rattle.net_rules.specs.Signals.{says_level, last_word}
use Rattle.node_file.specs.NodeRow.{events_in}
use Rattle.node_replay.proofs.last_rows.level_said.Given as goal

-- what is left of the rows says last, or else those before, what all of them say last
abbrev pub invariant-loop-row : goal.invariant-loop-row
invariant-loop-row l = option_or (last_word (says_level l.source) (events_in (drop l.row-index l.here))) l.said
    ≡ last_word (says_level l.source) (events_in l.here)
