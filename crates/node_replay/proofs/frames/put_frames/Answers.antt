use Rattle.std.proofs.Common.{◌++◌, map, arith}
use Rattle.std.specs.List.{concat}
use Rattle.node_replay.specs.private.Keeping.{sent_row}
use Rattle.node_replay.proofs.RowWords.{step-put, end-put}
use Rattle.node_replay.proofs.frames.put_frames.Goals as goal

pub loop-frame-preserved : goal.loop-frame-preserved
loop-frame-preserved c =
    step-put (sent_row c.args.plan.now c.args.element c.args.now) c.args.frames.now c.loop-frame.frame-index c.frame-item.result c.loop-frame.text c.put_frame.new.text
    (c.args.text.now ++ concat (map (sent_row c.args.plan.now c.args.element c.args.now) c.args.frames.now)) c.loop-frame-test.true c.frame-item.is c.loop-frame.invariant c.in_ok-put_frame.ensures

pub returns : goal.returns
returns c =
    end-put (sent_row c.args.plan.now c.args.element c.args.now) c.args.frames.now c.loop-frame.frame-index c.loop-frame.text
    (c.args.text.now ++ concat (map (sent_row c.args.plan.now c.args.element c.args.now) c.args.frames.now)) (omega (arith, c.loop-frame-test.false)) c.loop-frame.invariant
