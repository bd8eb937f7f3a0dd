use Rattle.std.proofs.Common.{sym, subst, refl, arith}
use Rattle.node_replay.specs.private.Running.{AreHere}
use Rattle.node_replay.proofs.TakenRows.{came-later}
use Rattle.node_replay.proofs.parts.Collected.come_to.Goals as goal

pub returns-clause-stands : goal.returns-clause-stands
returns-clause-stands c = λ rows is.
    came-later c.args.plan.now c.args.self.now _ c.args.at rows c.requires.whole c.requires.going (let later = c.if-at-self.false in omega (arith, later)) c.requires.at
    c.in_ok-make.ensures.next
    (λ all until away here early stands. c.in_ok-make.ensures.holds all until away
    (subst (λ kept. AreHere c.args.plan.now c.args.self.now.element c.args.self.now.at kept all) (sym c.as_slice.ensures) here) early stands)
    refl refl refl c.new.ensures is
