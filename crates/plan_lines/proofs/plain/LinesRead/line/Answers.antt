use Rattle.std.proofs.Common.{subst, sym}
use Rattle.toml.specs.Parse.{line}
use Rattle.plan_lines.specs.private.Lines.{Takes}
use Rattle.plan_lines.proofs.PlainLines.{line_taken}
use Rattle.plan_lines.proofs.plain.LinesRead.line.Goals as goal

pub returns-clause-read : goal.returns-clause-read
returns-clause-read c = λ doc follows.
    subst (λ rest. Takes (line c.args.s.now) doc rest c.expression.new.self) (sym c.in_ok-end.ensures.rest)
    (line_taken c.args.s.now c.in_ok-rest.rest.now doc c.expression.new.self (c.in_ok-rest.ensures.read doc follows) c.in_ok-end.ensures.ends)
