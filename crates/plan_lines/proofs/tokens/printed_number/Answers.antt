use Rattle.std.proofs.Common.{◌≡◌, ◌==◌, ◌++◌, false, take, drop, ap, sym, subst, ◌∙◌, arith}
use Rattle.std.specs.Char.{is_ascii_digit}
use Rattle.std.specs.Fmt.{decimal}
use Rattle.std.specs.Str.{IsCharBoundary}
use Rattle.std.proofs.lemmas.Bool.Decides.{nat_tests}
use Rattle.std.proofs.lemmas.List.{take-append-drop}
use Rattle.toml_parser.specs.Lexical.{first, is_word}
use Rattle.toml_parser.proofs.LexicalLemmas.{IsCharBoundary-ascii_run}
use Rattle.plan_lines.proofs.PlainLines.{number_cut}
use Rattle.plan_lines.proofs.tokens.printed_number.Goals as goal

pub split_at-requires : goal.split_at-requires
split_at-requires c =
    let len = rw c.as_bytes.ensures.value at c.digits_len.ensures.len in
    subst (IsCharBoundary c.args.s.now) (sym len) (IsCharBoundary-ascii_run is_ascii_digit c.args.s.now c.utf8.s (λ b e. grind (arith, nat_tests)))

pub returns-clause-read : goal.returns-clause-read
returns-clause-read c = λ depth.
    let s = c.args.s.now in
    let k = c.digits_len.result in
    let number = c.in_ok-number.number in
    let rest = c.split_at.result.1.now in
    let digits : decimal number ≡ take k s = sym c.in_ok-number.ensures.writes_back ∙ (c.as_bytes-2.ensures.value ∙ c.split_at.ensures.front) in
    let whole : s ≡ decimal number ++ rest = sym (take-append-drop k s) ∙ (ap (λ t. t ++ drop k s) (sym digits) ∙ ap (λ t. decimal number ++ t) (sym c.split_at.ensures.back)) in
    let ends : is_word (first rest) ≡ false = ap is_word (sym c.first.ensures) ∙ (sym c.is_word.ensures ∙ c.if-is_word.false) in
    let other : (first rest == 32) ≡ false = grind (arith, nat_tests, c.first-else-is_word.ensures, c.if-first-eq32.false) in
    rw c.in_ok-integer_value.ensures.value (number_cut number s rest c.in_ok-integer_value.ensures.fits whole ends other depth)
