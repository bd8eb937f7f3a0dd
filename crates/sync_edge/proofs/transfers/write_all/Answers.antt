use Rattle.std.proofs.Common.{◌∙◌, arith}
use Rattle.sync_edge.proofs.SoFar.{writes_more}
use Rattle.sync_edge.proofs.transfers.write_all.Goals as goal

pub loop-done-preserved : goal.loop-done-preserved
loop-done-preserved g c = record {
  within = omega (arith, c.in-Ok.ensures.within, c.split_at.ensures.back_len);
  front = writes_more _ _ _ _ _ _ c.loop-done.invariant.front
      (rw (← c.split_at.ensures.back) c.in-Ok.ensures.bytes);
  calm = c.in-Ok.ensures.cause.calm ∙ c.loop-done.invariant.calm;
}
