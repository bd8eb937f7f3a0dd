use Rattle.std.proofs.Common.{◌<◌, ℕ, length, slice_index, arith, ◌∙◌}
use Rattle.std.proofs.lemmas.List.{get_or_default}
use Rattle.sync_net.proofs.GoingBack.{same_but_next, same_but_none}
use Rattle.sync_net.proofs.returning.return_elements.Goals as goal

pub loop-place-preserved : goal.loop-place-preserved
loop-place-preserved c =
    let i : ℕ = c.loop-place.place-index in
    let place : ℕ = slice_index c.args.places.now i in
    let inside : i < length c.args.places.now = omega (arith, c.loop-place-test.true) in
    let within : place < length c.args.base.now = c.requires.within i 0 inside in
    record {
      same = same_but_next c.args.places.now i c.loop-place.elements c.args.base.now c.in_ok-elements.field-0 inside within
          (λ other. c.in_ok-elements.ensures ∙ c.index-base-place.is ∙ get_or_default c.args.base.now place _ other within)
          c.loop-place.invariant.same;
    }

pub returns : goal.returns
returns c =
    same_but_none c.args.places.now c.loop-place.place-index c.loop-place.elements c.args.base.now (omega (arith, c.loop-place-test.false)) c.loop-place.invariant.same
