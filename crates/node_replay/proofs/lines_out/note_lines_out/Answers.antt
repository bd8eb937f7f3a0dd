use Rattle.std.proofs.Common.{ap, sym, ◌∙◌}
use Rattle.node_replay.specs.private.Keeping.{out_after}
use Rattle.node_replay.proofs.RowWords.{step-map}
use Rattle.node_replay.proofs.lines_out.note_lines_out.Goals as goal

pub loop-out-preserved : goal.loop-out-preserved
loop-out-preserved c =
    step-map (out_after c.args.plan.now c.args.here.now c.args.shown) c.args.lines_out.now c.loop-out.lines_out c.loop-out.out-index c.out-item.result c.out_after.result
    c.loop-out-test.true c.loop-out.invariant c.out-item.is (c.out_after.ensures ∙ ap (out_after c.args.plan.now c.args.here.now c.args.shown) (sym c.out-item.is))
