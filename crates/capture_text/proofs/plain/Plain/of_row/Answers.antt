use Rattle.std.proofs.Common.{ap, sym, ◌∙◌}
use Rattle.capture_text.specs.private.Steps.{kind_and_rest}
use Rattle.capture_text.proofs.PlainLemmas.{plain_said}
use Rattle.capture_text.proofs.plain.Plain.of_row.Goals as goal

pub returns : goal.returns
returns c =
    plain_said c.args.option c.args.row.now c.in_ok-source.source.now c.in_ok-event.level.now c.in_ok-event.event c.in_ok-both.both
    c.in_ok-source.ensures.cases.0 (ap kind_and_rest (sym c.in_ok-source.ensures.cases.1) ∙ sym c.in_ok-event.ensures) (sym c.in_ok-both.ensures.codes) c.if-both.false
    c.of.result c.of.ensures
