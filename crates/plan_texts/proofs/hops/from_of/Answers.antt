use Rattle.std.proofs.Common.{◌<◌, length, None, get_or}
use Rattle.plan_texts.specs.private.HopRows.{line_at}
use Rattle.plan_texts.proofs.RowsOfHops.{first-name, first-within, line-name, line-within, line-kept, from-root, from-other}
use Rattle.plan_texts.proofs.hops.from_of.Goals as goal

pub returns-then-hops-eq0-clause-within : goal.returns-then-hops-eq0-clause-within
returns-then-hops-eq0-clause-within c = rw c.first_source.ensures (first-within c.args.plan.now c.inputs.result.now c.inputs.ensures.within)

pub returns-then-hops-eq0-clause-input : goal.returns-then-hops-eq0-clause-input
returns-then-hops-eq0-clause-input c =
    from-root c.args.plan.now (line_at c.args.lines.now c.args.element) c.args.element c.in-Some.hops c.args.count c.first_source.result c.in-Some.is c.if-hops-eq0.true
    (rw c.first_source.ensures (first-name c.args.plan.now c.args.element c.inputs.result.now c.inputs.ensures.inputs))

pub returns-clause-input : goal.returns-clause-input
returns-clause-input c =
    let inside : c.args.element < length c.args.lines.now = rw c.requires.lines c.requires.within in
    from-other c.args.plan.now (line_at c.args.lines.now c.args.element) c.args.element c.in-Some.hops c.args.count c.line_input.result c.in-Some.is c.if-hops-eq0.false
    (rw c.line_input.ensures
    (line-name c.args.plan.now (get_or c.args.lines.now c.args.element None) (line_at c.args.lines.now c.args.element) (line-kept c.args.lines.now c.args.element inside)))

pub returns-clause-within : goal.returns-clause-within
returns-clause-within c =
    let inside : c.args.element < length c.args.lines.now = rw c.requires.lines c.requires.within in
    rw c.line_input.ensures
    (line-within c.args.plan.now (get_or c.args.lines.now c.args.element None) (line_at c.args.lines.now c.args.element) (line-kept c.args.lines.now c.args.element inside) c.requires.kept)
