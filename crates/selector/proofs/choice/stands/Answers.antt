use Rattle.std.proofs.Common.{sym, ◌∙◌}
use Rattle.selector.proofs.ManualSwitch.{stands_by_best}
use Rattle.selector.proofs.choice.stands.Goals as goal

pub returns-then-is_eligible : goal.returns-then-is_eligible
returns-then-is_eligible c =
    let first = rw c.in-Some-Some.is-1 at c.requires.best in
    let place = rw c.in-Some-Some.is-0 at c.requires.place in
    rw (c.in-Some-Some.is-0, c.has_better_level.ensures)
    (sym (stands_by_best c.args.inputs.now c.in-Some-Some.best c.in-Some-Some.manual c.index-inputs-best.result c.index-inputs-manual.result first c.index-inputs-best.is c.index-inputs-manual.is place (sym c.is_eligible.ensures ∙ c.if-is_eligible.true)))
