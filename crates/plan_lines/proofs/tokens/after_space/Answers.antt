use Rattle.std.proofs.Common.{sym, ◌∙◌, ap}
use Rattle.toml_parser.specs.Lexical.{skip_ws}
use Rattle.plan_lines.proofs.PlainLines.{after_one_space}
use Rattle.plan_lines.proofs.tokens.after_space.Goals as goal

pub returns-then-first-eq32-clause-rest : goal.returns-then-first-eq32-clause-rest
returns-then-first-eq32-clause-rest c =
    c.after_others.ensures.rest ∙ (ap skip_ws c.skip.ensures.rest ∙ sym (after_one_space c.args.s.now (sym c.first.ensures ∙ c.if-first-eq32.true)))
