use Rattle.std.proofs.Common.{◌≡◌, length, None, Some, refl, sym, ap, ◌∙◌}
use Rattle.sync_topo.specs.declared.input.LineId.{LineId}
use Rattle.std.specs.Prelude.{option_map}
use Rattle.sync_topo.specs.Lines.{sender_of, receiver_of}
use Rattle.plan_texts.specs.private.HopRows.{line_at}
use Rattle.plan_texts.proofs.RowsOfHops.{AreLinesFrom-not, AreLinesFrom-later, AreLinesFrom-first, line-read, line_some, line_none, next-told}
use Rattle.plan_texts.proofs.hops.keep_line.Goals as goal

pub returns-then-not-is_one_less : goal.returns-then-not-is_one_less
returns-then-not-is_one_less c =
    let told = next-told c.args.hops.now c.is_one_less.result c.of.result c.of-2.result c.from.result (sender_of c.args.plan.now c.args.line.0) c.to-receiver.result (receiver_of c.args.plan.now c.args.line.0)
    c.is_one_less.ensures c.of.ensures.count c.from.ensures.sender c.of-2.ensures.count c.to-receiver.ensures.receiver in
    AreLinesFrom-not c.args.plan.now c.args.hops.now c.args.line.0 c.args.lines.now.items (sym told ∙ c.if-not-is_one_less.true) c.requires.before

pub returns-then-is_some : goal.returns-then-is_some
returns-then-is_some c =
    let read = line-read c.args.lines.now.items (length c.args.plan.now.elements) c.to-receiver.result c.index.result.now (sym c.requires.before.counted) c.to-receiver.ensures.within c.index.ensures in
    let some = line_some c.index.result.now (sym c.is_some.ensures ∙ c.if-is_some.true) in
    let kept : line_at c.args.lines.now.items (receiver_of c.args.plan.now c.args.line.0) ≡ Some some.0.0 =
    rw (← c.to-receiver.ensures.receiver) (read ∙ ap (option_map (λ (l : LineId). l.0)) some.1) in
    AreLinesFrom-later c.args.plan.now c.args.hops.now c.args.line.0 c.args.lines.now.items some.0.0 kept c.requires.before

pub returns : goal.returns
returns c =
    let told = next-told c.args.hops.now c.is_one_less.result c.of.result c.of-2.result c.from.result (sender_of c.args.plan.now c.args.line.0) c.to-receiver.result (receiver_of c.args.plan.now c.args.line.0)
    c.is_one_less.ensures c.of.ensures.count c.from.ensures.sender c.of-2.ensures.count c.to-receiver.ensures.receiver in
    let read = line-read c.args.lines.now.items (length c.args.plan.now.elements) c.to-receiver.result c.index.result.now (sym c.requires.before.counted) c.to-receiver.ensures.within c.index.ensures in
    let none = line_none c.index.result.now (sym c.is_some.ensures ∙ c.if-is_some.false) in
    let kept : line_at c.args.lines.now.items (receiver_of c.args.plan.now c.args.line.0) ≡ None =
    rw (← c.to-receiver.ensures.receiver) (read ∙ ap (option_map (λ (l : LineId). l.0)) none) in
    AreLinesFrom-first c.args.plan.now c.args.hops.now c.args.line.0 c.args.lines.now.items _ c.args.line refl c.requires.within
    (rw (← c.to-receiver.ensures.receiver) c.to-receiver.ensures.within) (sym told ∙ c.if-not-is_one_less.false) kept (rw (← c.to-receiver.ensures.receiver) refl) c.requires.before
