use Rattle.std.proofs.Common.{◌≡◌, ◌<◌, ◌≤◌, ◌*◌, ℕ, length, Ok, subst, arith}
use Rattle.std.specs.Prelude.{IfOk, Some}
use Rattle.std.proofs.lemmas.Result.{IfOk-weaker}
use Rattle.sync_sweep.specs.private.Chunks.{joined}
use Rattle.sync_sweep.specs.private.Working.{AreWorked, IsCaseWorked}
use Rattle.sync_sweep.proofs.ChunkLemmas.{joined_whole, parts-enough, got}
use Rattle.sync_sweep.proofs.sweeping.in_chunks.Goals as goal

pub returns-in-Ok : goal.returns-in-Ok
returns-in-Ok g c = record {
  worked =
      let cases = c.args.cases.now in
      let common = c.args.study.now.common.now in
      let until : ℕ = c.args.study.now.until in
      let size : ℕ = c.chunk_size-size.result in
      let parts = c.in-Ok.parts.items in
      let plan = c.args.study.now.base.now.plan in
      let some : 0 < size = c.chunk_size-size.ensures.some in
      let enough : length cases ≤ length parts * size = parts-enough (length cases) size (length parts) some (omega (arith, c.in-Ok.ensures.len, c.in-Ok.parts.ok)) in
      IfOk-weaker c.join_worked.result (λ worked. joined c.as_slice.result.now ≡ Some worked) (AreWorked g.T.Timer.IsTold plan common until cases)
      (λ worked is. joined_whole (IsCaseWorked g.T.Timer.IsTold plan common until) size parts cases worked enough
      (λ n part at.
      let there = got parts n (Ok part) (Ok part) at in
      let one = (c.in-Ok.ensures.each n (Ok part) there.0).1 in
      subst (λ chunk. AreWorked g.T.Timer.IsTold plan common until chunk part) one.argument_is.value
      (subst (λ r. IfOk r (AreWorked g.T.Timer.IsTold plan common until one.argument.now)) there.1 one.call))
      (subst (λ ps. joined ps ≡ Some worked) c.as_slice.ensures.value is))
      c.join_worked.ensures;
}
