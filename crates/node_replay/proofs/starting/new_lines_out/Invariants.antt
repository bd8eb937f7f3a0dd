use Rattle.std.proofs.Common.{◌≡◌, ◌++◌, ◌-◌, map, filter}
use Rattle.std.specs.Prelude.{◌==◌}
use Rattle.std.specs.List.{range_with_len}
use Rattle.sync_topo.specs.Lines.{line_count, sender_of}
use Rattle.node_rules.specs.NodeText.{lines_out}
use Rattle.node_replay.specs.private.Starting.{new_out}
use Rattle.node_replay.proofs.starting.new_lines_out.Given as goal

-- the lines from this number on are still to be looked at
abbrev pub invariant-loop-number : goal.invariant-loop-number
invariant-loop-number l = l.lines ++ map new_out (filter (λ line. sender_of l.plan line == l.element) (range_with_len l.number (line_count l.plan - l.number)))
    ≡ map new_out (lines_out l.plan l.element)
