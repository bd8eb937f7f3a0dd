use Rattle.std.proofs.Common.{arith, unwrap_or}
use Rattle.net_rules.specs.Signals.{says_esmc, last_word}
use Rattle.node_file.specs.NodeRow.{events_in}
use Rattle.node_replay.proofs.RowWords.{step-word, end-word}
use Rattle.node_replay.proofs.last_rows.esmc_after.Goals as goal

pub loop-row-preserved : goal.loop-row-preserved
loop-row-preserved c =
    step-word (says_esmc c.args.line.0) c.args.here.now c.loop-row.row-index c.row-item.result c.loop-row.is_on c.esmc_by-is_on.result
    (unwrap_or (last_word (says_esmc c.args.line.0) (events_in c.args.here.now)) c.args.esmc) c.loop-row-test.true c.row-item.is c.loop-row.invariant c.esmc_by-is_on.ensures

pub returns : goal.returns
returns c = end-word (says_esmc c.args.line.0) c.args.here.now c.loop-row.row-index c.loop-row.is_on
    (unwrap_or (last_word (says_esmc c.args.line.0) (events_in c.args.here.now)) c.args.esmc) (omega (arith, c.loop-row-test.false)) c.loop-row.invariant
