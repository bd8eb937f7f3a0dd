use Rattle.std.proofs.Common.{◌≡◌, unwrap_or, drop}
use Rattle.net_rules.specs.Signals.{says_up, last_word}
use Rattle.node_file.specs.NodeRow.{events_in}
use Rattle.node_replay.proofs.last_rows.up_after.Given as goal

-- what is left of the rows makes of it now what all of them make of it before
abbrev pub invariant-loop-row : goal.invariant-loop-row
invariant-loop-row l = unwrap_or (last_word (says_up l.input) (events_in (drop l.row-index l.here))) l.is_up
    ≡ unwrap_or (last_word (says_up l.input) (events_in l.here)) l.up
