use Rattle.std.proofs.Common.{◌++◌, arith}
use Rattle.std.specs.List.{filter_map}
use Rattle.node_replay.specs.private.Telling.{row_word}
use Rattle.node_replay.proofs.RowWords.{step-kept, end-kept}
use Rattle.node_replay.proofs.told.tell_rows.Goals as goal

pub loop-row-preserved : goal.loop-row-preserved
loop-row-preserved c =
    step-kept (row_word c.args.ids.now c.args.element) c.args.here.now c.loop-row.row-index c.row-item.result c.loop-row.told c.tell_row.new.told
    (c.args.told.now ++ filter_map (row_word c.args.ids.now c.args.element) c.args.here.now) c.loop-row-test.true c.row-item.is c.loop-row.invariant c.in_ok-tell_row.ensures

pub returns : goal.returns
returns c =
    end-kept (row_word c.args.ids.now c.args.element) c.args.here.now c.loop-row.row-index c.loop-row.told
    (c.args.told.now ++ filter_map (row_word c.args.ids.now c.args.element) c.args.here.now) (omega (arith, c.loop-row-test.false)) c.loop-row.invariant
