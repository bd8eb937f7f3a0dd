use Rattle.std.proofs.Common.{sym, ◌∙◌}
use Rattle.toml.proofs.Views.{view-String}
use Rattle.plan_lines.proofs.PlainLines.{string_value, scalar_value}
use Rattle.plan_lines.proofs.tokens.plain_value.Goals as goal

pub returns-then-starts_string-clause-read : goal.returns-then-starts_string-clause-read
returns-then-starts_string-clause-read c = λ depth.
    rw (view-String c.in_ok-text.text)
    (string_value depth c.args.s.now _ c.in_ok-text.rest.now (sym c.starts_string.ensures ∙ c.if-starts_string.true) c.in_ok-text.ensures.read)

pub returns-clause-read : goal.returns-clause-read
returns-clause-read c = λ depth.
    rw c.in_ok-integer_of.ensures
    (scalar_value depth c.args.s.now c.in_ok-scalar.rest.now c.in_ok-scalar.scalar (sym c.starts_string.ensures ∙ c.if-starts_string.false) c.in_ok-scalar.ensures.value)
