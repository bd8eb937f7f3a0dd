use Rattle.std.proofs.Common.{◌≡◌, ◌==◌, true, false, ap, sym, ◌∙◌, arith}
use Rattle.std.proofs.lemmas.Bool.Decides.{nat_tests}
use Rattle.toml_parser.specs.Lexical.{first, skip_blank}
use Rattle.plan_lines.proofs.PlainLines.{comma_after, closing_after}
use Rattle.plan_lines.proofs.tokens.after_element.Goals as goal

pub returns-then-first-eq44-clause-read : goal.returns-then-first-eq44-clause-read
returns-then-first-eq44-clause-read c =
    let rest = c.skip_blank-rest.ensures.rest in
    let comma : first (skip_blank c.args.s.now) ≡ 44 = ap first (sym rest) ∙ (sym c.first.ensures ∙ c.if-first-eq44.true) in
    rw (c.skip.ensures.rest, rest) (comma_after c.args.closing c.args.s.now comma)

pub returns-then-first-closing-clause-read : goal.returns-then-first-closing-clause-read
returns-then-first-closing-clause-read c =
    let rest = c.skip_blank-rest.ensures.rest in
    let start = skip_blank c.args.s.now in
    let at_first : c.first.result ≡ first start = c.first.ensures ∙ ap first rest in
    let at_closing : c.first-2.result ≡ first start = c.first-2.ensures ∙ ap first rest in
    let other : (first start == 44) ≡ false = grind (arith, nat_tests, at_first, c.if-first-eq44.false) in
    let closes : (first start == c.args.closing) ≡ true = grind (arith, nat_tests, at_closing, c.if-first-closing.true) in
    rw rest (closing_after c.args.closing c.args.s.now other closes)
