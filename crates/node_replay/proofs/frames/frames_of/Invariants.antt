use Rattle.std.proofs.Common.{◌≡◌, ◌++◌, drop}
use Rattle.std.specs.List.{filter_map}
use Rattle.node_replay.specs.private.Keeping.{frame_of}
use Rattle.node_replay.proofs.frames.frames_of.Given as goal

-- what is left of the lines is still to be looked at
abbrev pub invariant-loop-out : goal.invariant-loop-out
invariant-loop-out l = l.frames ++ filter_map (frame_of l.now) (drop l.out-index l.lines_out) ≡ filter_map (frame_of l.now) l.lines_out
