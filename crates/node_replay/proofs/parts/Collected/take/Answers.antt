use Rattle.std.proofs.Common.{[], ◌∷◌, ◌++◌, refl, sym, subst}
use Rattle.node_replay.specs.Rows.{IsRowList}
use Rattle.node_replay.proofs.TakenRows.{taken-nothing, taken-here}
use Rattle.node_replay.proofs.parts.Collected.take.Goals as goal

pub returns-then-self-row-clause-stands : goal.returns-then-self-row-clause-stands
returns-then-self-row-clause-stands c = λ rows is list.
    taken-nothing c.args.plan.now c.args.self.now rows c.args.row c.requires.whole (λ going. c.if-self-row.true) is list

pub returns-then-not-is_going-clause-stands : goal.returns-then-not-is_going-clause-stands
returns-then-not-is_going-clause-stands c = λ rows is list.
    taken-nothing c.args.plan.now c.args.self.now rows c.args.row c.requires.whole (λ going. absurd (c.is_going.ensures.ended c.if-not-is_going.true going)) is list

pub returns-clause-stands : goal.returns-clause-stands
returns-clause-stands c = λ rows is list.
    let at = c.in_ok-come_to.ensures.at (is.at_least c.args.row list) in
    taken-here c.args.plan.now c.come_to.new.self _ rows c.args.row (c.in_ok-come_to.ensures.stands rows is.stands) (sym at)
    (subst (λ e. IsRowList c.args.plan.now e (rows ++ c.args.row ∷ [])) (sym c.come_to.ensures.element) list) refl refl refl refl c.in_ok-push.ensures.ok
