use Rattle.std.proofs.Common.{arith}
use Rattle.sync_net.proofs.GoingBack.{same_but_none}
use Rattle.sync_net.proofs.returning.return_places.Goals as goal

pub returns : goal.returns
returns g c =
    same_but_none c.args.places.now c.loop-place.place-index c.loop-place.items c.args.base.now (omega (arith, c.loop-place-test.false)) c.loop-place.invariant.same
