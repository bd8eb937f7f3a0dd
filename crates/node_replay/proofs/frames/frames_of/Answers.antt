use Rattle.std.proofs.Common.{arith}
use Rattle.std.specs.List.{filter_map}
use Rattle.node_replay.specs.private.Keeping.{frame_of}
use Rattle.node_replay.proofs.RowWords.{step-kept, end-kept}
use Rattle.node_replay.proofs.frames.frames_of.Goals as goal

pub loop-out-preserved : goal.loop-out-preserved
loop-out-preserved c =
    step-kept (frame_of c.args.now) c.args.lines_out.now c.loop-out.out-index c.out-item.result c.loop-out.frames c.push_some.new.frames
    (filter_map (frame_of c.args.now) c.args.lines_out.now) c.loop-out-test.true c.out-item.is c.loop-out.invariant (rw c.frame_of.ensures at c.in_ok-push_some.ensures)

pub returns : goal.returns
returns c =
    end-kept (frame_of c.args.now) c.args.lines_out.now c.loop-out.out-index c.loop-out.frames
    (filter_map (frame_of c.args.now) c.args.lines_out.now) (omega (arith, c.loop-out-test.false)) c.loop-out.invariant
