use Rattle.std.proofs.Common.{◌≡◌, ◌++◌, map, drop}
use Rattle.std.specs.List.{concat}
use Rattle.node_replay.specs.private.Keeping.{sent_row}
use Rattle.node_replay.proofs.frames.put_frames.Given as goal

-- the rows of what is left of the frames are still to be put
abbrev pub invariant-loop-frame : goal.invariant-loop-frame
invariant-loop-frame l = l.text ++ concat (map (sent_row l.plan l.element l.now) (drop l.frame-index l.frames))
    ≡ l.fn.text ++ concat (map (sent_row l.plan l.element l.now) l.frames)
