use Rattle.std.proofs.Common.{arith}
use Rattle.sync_text.proofs.Options.{option_or-none}
use Rattle.node_file.specs.NodeRow.{frames_on}
use Rattle.node_rules.specs.Replay.{last_of}
use Rattle.node_replay.proofs.RowWords.{step-frame, end-frame}
use Rattle.node_replay.proofs.last_rows.last_frame.Goals as goal

pub loop-row-init : goal.loop-row-init
loop-row-init c = option_or-none (last_of (frames_on c.args.line.0 c.args.here.now))

pub loop-row-preserved : goal.loop-row-preserved
loop-row-preserved c =
    step-frame c.args.line.0 c.args.here.now c.loop-row.row-index c.row-item.result c.loop-row.found c.frame_by-found.result
    (last_of (frames_on c.args.line.0 c.args.here.now)) c.loop-row-test.true c.row-item.is c.loop-row.invariant c.frame_by-found.ensures

pub returns : goal.returns
returns c = end-frame c.args.line.0 c.args.here.now c.loop-row.row-index c.loop-row.found
    (last_of (frames_on c.args.line.0 c.args.here.now)) (omega (arith, c.loop-row-test.false)) c.loop-row.invariant
