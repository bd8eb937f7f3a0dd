use Rattle.std.proofs.Common.{arith}
use Rattle.sync_text.proofs.Options.{option_or-none}
use Rattle.net_rules.specs.Signals.{says_level, last_word}
use Rattle.node_file.specs.NodeRow.{events_in}
use Rattle.node_replay.proofs.RowWords.{step-said, end-said}
use Rattle.node_replay.proofs.last_rows.level_said.Goals as goal

pub loop-row-init : goal.loop-row-init
loop-row-init c = option_or-none (last_word (says_level c.args.source) (events_in c.args.here.now))

pub loop-row-preserved : goal.loop-row-preserved
loop-row-preserved c =
    step-said (says_level c.args.source) c.args.here.now c.loop-row.row-index c.row-item.result c.loop-row.said c.level_by-said.result
    (last_word (says_level c.args.source) (events_in c.args.here.now)) c.loop-row-test.true c.row-item.is c.loop-row.invariant c.level_by-said.ensures

pub returns : goal.returns
returns c = end-said (says_level c.args.source) c.args.here.now c.loop-row.row-index c.loop-row.said
    (last_word (says_level c.args.source) (events_in c.args.here.now)) (omega (arith, c.loop-row-test.false)) c.loop-row.invariant
