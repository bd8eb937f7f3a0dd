use Rattle.std.proofs.Common.{◌+◌, arith}
use Rattle.node_replay.proofs.Losses.{if-later, losses-more}
use Rattle.node_replay.proofs.running.first_loss.Goals as goal

pub loop-input-preserved : goal.loop-input-preserved
loop-input-preserved c =
    let up_to = c.earlier-first.ensures.up_to in
    let before = c.loop-input.invariant.up_to in
    let later = c.loop-input.invariant.later in
    let from = c.earlier-first.ensures.from (c.args.now + 1) (omega (arith, later)) (if-later c.args.now c.loss_of.result c.loss_of.ensures.later) in
    record {
      up_to = omega (arith, up_to, before);
      later = omega (arith, from);
      heard = losses-more c.args.inputs.now c.loop-input.input-index c.args.now c.loop-input.first c.earlier-first.result c.loss_of.result c.input-item.result
          c.loop-input-test.true c.input-item.is c.loop-input.invariant.heard c.loss_of.ensures.heard up_to c.earlier-first.ensures.until_due;
    }
