use Rattle.std.proofs.Common.{◌+◌, suc, sym, subst, ◌∙◌, arith, add-one}
use Rattle.node_replay.specs.Running.{RunHolds, RunStands}
use Rattle.node_replay.specs.private.Running.{AreHere, AreAway}
use Rattle.node_replay.proofs.Going.{going-stands, came-to}
use Rattle.node_replay.proofs.TakenRows.{ran-out, stopped-holds}
use Rattle.node_replay.proofs.parts.Collected.run_out.Goals as goal

pub returns-then-not-is_going-clause-holds : goal.returns-then-not-is_going-clause-holds
returns-then-not-is_going-clause-holds c = λ rows is.
    stopped-holds c.args.plan.now c.args.self.now rows (c.is_going.ensures.ended c.if-not-is_going.true) is

pub returns-then-not-is_going-2-clause-holds : goal.returns-then-not-is_going-2-clause-holds
returns-then-not-is_going-2-clause-holds c = λ rows is.
    let parts = c.args.self.now in
    let going = c.is_going.ensures.going c.if-not-is_going.false in
    let ran = ran-out c.args.plan.now parts rows c.requires.whole going is in
    let end = c.requires.whole.at_in_range in
    came-to c.args.plan.now parts.element parts.until (suc parts.at) (suc parts.until) rows _ (λ still. absurd (c.is_going-2.ensures.ended c.if-not-is_going-2.true still))
    (c.in_ok-make.ensures.holds rows parts.until ran.0
    (subst (λ kept. AreHere c.args.plan.now parts.element parts.at kept rows) (sym c.as_slice.ensures) ran.1) end ran.2)

pub returns-clause-holds : goal.returns-clause-holds
returns-clause-holds c = λ rows is.
    let parts = c.args.self.now in
    let plan = c.args.plan.now in
    let going = c.is_going.ensures.going c.if-not-is_going.false in
    let ran = ran-out plan parts rows c.requires.whole going is in
    let end = c.requires.whole.at_in_range in
    let made = c.in_ok-make.ensures.holds rows parts.until ran.0
    (subst (λ kept. AreHere plan parts.element parts.at kept rows) (sym c.as_slice.ensures) ran.1) end ran.2 in
    let still = c.is_going-2.ensures.going c.if-not-is_going-2.false in
    let next = c.in_ok-make.ensures.next still ∙ add-one parts.at in
    let stood = going-stands plan parts.element parts.until (suc parts.at) rows c.make.new.self still made in
    subst (λ n. RunHolds plan rows parts.element parts.until n c.advance.new.self c.advance.new.self.stopped) (add-one parts.until)
    (c.in_ok-advance.ensures.holds rows parts.until
    (subst (λ n. AreAway plan parts.element n (parts.until + 1) rows) (sym next) (subst (λ n. AreAway plan parts.element (suc parts.at) n rows) (sym (add-one parts.until)) ran.3))
    (omega arith)
    (subst (λ n. RunStands plan rows parts.element n c.make.new.self) (sym next) stood))
