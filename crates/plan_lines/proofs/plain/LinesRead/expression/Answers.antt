use Rattle.std.proofs.Common.{◌≡◌, ◌==◌, false, arith}
use Rattle.std.proofs.lemmas.Bool.Decides.{nat_tests}
use Rattle.toml_parser.specs.Lexical.{first}
use Rattle.plan_lines.proofs.PlainLines.{pair_taken}
use Rattle.plan_lines.proofs.plain.LinesRead.expression.Goals as goal

pub returns-clause-read : goal.returns-clause-read
returns-clause-read c = λ doc follows.
    let other : (first c.args.s.now == 91) ≡ false = grind (arith, nat_tests, c.first.ensures, c.if-first-eq91.false) in
    pair_taken c.args.s.now c.in_ok-key.key.now c.in_ok-key.at_value.now c.in_ok-rest.rest.now doc c.pair.new.self other c.in_ok-key.ensures.read (c.in_ok-rest.ensures.read doc follows)
