use Rattle.std.proofs.Common.{◌≡◌, ◌<◌, ℕ, length, take, ap, arith}
use Rattle.std.specs.Prelude.{Some, slice_get}
use Rattle.std.proofs.lemmas.List.{length-take, length-map}
use Rattle.closed_walks.proofs.KnownLaws.{find-known}
use Rattle.timings.proofs.TimingLemmas.{one-counted-more}
use Rattle.timings.proofs.counted.counted.Goals as goal

pub loop-element-preserved : goal.loop-element-preserved
loop-element-preserved c = record {
  counted = λ endings is.
      let i : ℕ = c.loop-element.element in
      let within : i < length endings = omega (arith, c.loop-element-test.true, ap length is, length-map endings Some) in
      let at : i ≡ length (take i endings) = omega (arith, length-take i endings, within) in
      let before = c.loop-element.invariant.counted endings is in
      let there : slice_get endings i ≡ Some c.in-Some.ending = find-known endings c.args.known.now i c.in-Some.ending is c.in-Some.is in
      one-counted-more endings i c.in-Some.ending _ within there
      (c.lost_with.ensures.counted (take i endings) before.lost)
      (c.first_with-timing.ensures (take i endings) at before.first)
      (c.longest_with.ensures (take i endings) before.longest);
  few = omega (arith, c.lost_with.ensures.few, c.loop-element.invariant.few);
}
