use Rattle.std.proofs.Common.{◌≡◌, ◌++◌, map, take, drop}
use Rattle.node_replay.specs.private.Keeping.{out_after}
use Rattle.node_replay.proofs.lines_out.note_lines_out.Given as goal

-- the lines so far have taken in the rows
abbrev pub invariant-loop-out : goal.invariant-loop-out
invariant-loop-out l = l.lines_out ≡ map (out_after l.plan l.here l.shown) (take l.out-index l.fn.lines_out) ++ drop l.out-index l.fn.lines_out
