use Rattle.std.proofs.Common.{length, arith}
use Rattle.agenda.proofs.MarkedPlaces.{none_left}
use Rattle.agenda.proofs.marks.take_away.Goals as goal

pub returns : goal.returns
returns c =
    let l = c.loop-place in
    none_left l.flags (length c.args.flags.now) c.args.listed.now l.place-index l.invariant.room (omega (arith, c.loop-place-test.false)) l.invariant.only
