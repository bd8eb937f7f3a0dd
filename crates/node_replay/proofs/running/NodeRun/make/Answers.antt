use Rattle.std.proofs.Common.{suc, sym, subst, arith}
use Rattle.node_replay.specs.Running.{RunHolds, RunStands}
use Rattle.node_replay.specs.private.Running.{AreHere}
use Rattle.node_replay.proofs.Going.{going-stands, came-to}
use Rattle.node_replay.proofs.running.NodeRun.make.Goals as goal

pub returns-then-not-is_going-clause-holds : goal.returns-then-not-is_going-clause-holds
returns-then-not-is_going-clause-holds c = λ rows until away here early stands.
    let end = c.requires.in_range in
    came-to c.args.plan.now c.args.element until c.args.at (suc c.args.at) rows _ (λ going. absurd (c.is_going.ensures.ended c.if-not-is_going.true going))
    (c.in_ok-advance.ensures.holds rows until away (omega (arith, early)) stands)

pub returns-clause-holds : goal.returns-clause-holds
returns-clause-holds c = λ rows until away here early stands.
    let going = c.is_going.ensures.going c.if-not-is_going.false in
    let next = c.in_ok-advance.ensures.next going in
    let now = going-stands c.args.plan.now c.args.element until c.args.at rows c.advance.new.self going (c.in_ok-advance.ensures.holds rows until away (omega (arith, early)) stands) in
    subst (λ n. RunHolds c.args.plan.now rows c.args.element until (suc n) c.turn.new.self c.turn.new.self.stopped) next
    (c.in_ok-turn.ensures.holds rows until
    (subst (λ n. AreHere c.args.plan.now c.args.element n c.args.here.now rows) (sym next) here) (omega (arith, next, early))
    (subst (λ n. RunStands c.args.plan.now rows c.args.element n c.advance.new.self) (sym next) now))
