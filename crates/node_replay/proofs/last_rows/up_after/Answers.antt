use Rattle.std.proofs.Common.{arith, unwrap_or}
use Rattle.net_rules.specs.Signals.{says_up, last_word}
use Rattle.node_file.specs.NodeRow.{events_in}
use Rattle.node_replay.proofs.RowWords.{step-word, end-word}
use Rattle.node_replay.proofs.last_rows.up_after.Goals as goal

pub loop-row-preserved : goal.loop-row-preserved
loop-row-preserved c =
    step-word (says_up c.args.input) c.args.here.now c.loop-row.row-index c.row-item.result c.loop-row.is_up c.up_by-is_up.result
    (unwrap_or (last_word (says_up c.args.input) (events_in c.args.here.now)) c.args.up) c.loop-row-test.true c.row-item.is c.loop-row.invariant c.up_by-is_up.ensures

pub returns : goal.returns
returns c = end-word (says_up c.args.input) c.args.here.now c.loop-row.row-index c.loop-row.is_up
    (unwrap_or (last_word (says_up c.args.input) (events_in c.args.here.now)) c.args.up) (omega (arith, c.loop-row-test.false)) c.loop-row.invariant
