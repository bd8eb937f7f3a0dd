use Rattle.std.proofs.Common.{sym, ◌∙◌}
use Rattle.plan_lines.proofs.PlainLines.{header_taken}
use Rattle.plan_lines.proofs.PlainSteps.{opens}
use Rattle.plan_lines.proofs.plain.LinesRead.header.Goals as goal

pub returns-clause-read : goal.returns-clause-read
returns-clause-read c = λ doc follows.
    header_taken c.in_ok-kind.kind c.args.s.now c.in_ok-kind.rest.now doc _ c.in_ok-kind.ensures.read
    (opens c.in_ok-kind.kind c.args.self.now c.close.new.self c.new.result doc c.in_ok-close.ensures follows (sym c.is_given.ensures ∙ c.if-is_given.false) c.new.ensures.kind c.new.ensures.slots)
