use Rattle.std.proofs.Common.{sym, subst, ◌∙◌, arith, add-one}
use Rattle.node_replay.specs.Running.{RunHolds}
use Rattle.node_replay.proofs.Going.{none-here}
use Rattle.node_replay.proofs.running.NodeRun.go_on.Goals as goal

pub returns-clause-holds : goal.returns-clause-holds
returns-clause-holds c = λ rows until away room stands.
    let to = c.requires.to in
    subst (λ n. RunHolds c.args.plan.now rows c.args.element until n c.turn.new.self c.turn.new.self.stopped)
    (sym (c.in_ok-turn.ensures.next ∙ add-one c.args.self.now.next))
    (c.in_ok-turn.ensures.holds rows until (none-here c.args.plan.now c.args.element c.args.self.now.next c.args.to rows to away) (omega (arith, to, room)) stands)
