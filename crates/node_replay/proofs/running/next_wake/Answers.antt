use Rattle.std.proofs.Common.{◌+◌, ◌<◌, IfSome, arith, sym, subst}
use Rattle.node_replay.proofs.Losses.{if-later}
use Rattle.node_replay.proofs.running.next_wake.Goals as goal

pub first_loss-requires-clause-until : goal.first_loss-requires-clause-until
first_loss-requires-clause-until c =
    let second = c.next_second-second.ensures.later in
    let due = subst (λ d. IfSome d (λ due. c.args.now < due)) (sym c.due.ensures.value) c.requires.later in
    let from = c.earlier.ensures.from (c.args.now + 1) (omega (arith, second)) (if-later c.args.now c.due.result due) in
    omega (arith, from)
