use Rattle.std.proofs.Common.{sym, ◌∙◌}
use Rattle.selector.proofs.FirstBest.{stays, first_taken, none_taken, position-first}
use Rattle.selector.proofs.choice.stay_or_take.Goals as goal

pub returns-in-Some-Some : goal.returns-in-Some-Some
returns-in-Some-Some c =
    let first = rw c.in-Some-Some.is-1 at c.requires.best in
    rw c.in-Some-Some.is-0
    (sym (stays c.args.inputs.now c.in-Some-Some.best c.in-Some-Some.taken first (sym c.is_as_good.ensures ∙ c.if-is_as_good.true)))

pub returns-in_default : goal.returns-in_default
returns-in_default c =
    let first = rw c.in-Some-Some.is-1 at c.requires.best in
    rw (c.in-Some-Some.is-0, c.in-Some-Some.is-1)
    (sym (first_taken c.args.inputs.now c.in-Some-Some.best c.in-Some-Some.taken first (sym c.is_as_good.ensures ∙ c.if-is_as_good.false)))

pub returns-in_default-2 : goal.returns-in_default-2
returns-in_default-2 c =
    let none = rw c.in_default.is-1 at c.requires.best in
    rw c.in_default.is-1 (sym (none_taken c.args.inputs.now c.args.taken none))

pub returns-in_default-3 : goal.returns-in_default-3
returns-in_default-3 c = rw c.in_default.is-0 (sym (position-first c.args.inputs.now c.args.best c.requires.best))
