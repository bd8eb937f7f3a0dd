use Rattle.std.proofs.Common.{◌≡◌, ◌<◌, false, take, drop, ap, sym, subst, ◌∙◌, arith}
use Rattle.std.specs.List.{prefix_len}
use Rattle.std.specs.Str.{IsCharBoundary}
use Rattle.std.proofs.lemmas.Bool.Decides.{nat_tests}
use Rattle.std.proofs.lemmas.Grind.{common_steps}
use Rattle.toml_parser.specs.Lexical.{first}
use Rattle.toml_parser.specs.Strings.{is_plain}
use Rattle.toml_parser.proofs.LexicalLemmas.{IsCharBoundary-wide_run}
use Rattle.plan_lines.proofs.PlainLines.{string_cut}
use Rattle.plan_lines.proofs.tokens.string.Goals as goal

pub split_at-requires : goal.split_at-requires
split_at-requires c =
    let len = rw c.as_bytes.ensures.value at c.plain_len.ensures.len in
    subst (IsCharBoundary c.skip-inner.result.now) (sym len) (IsCharBoundary-wide_run (is_plain 34 false) c.skip-inner.result.now (λ b e. grind (arith, nat_tests)))

pub returns-clause-read : goal.returns-clause-read
returns-clause-read c =
    let s = c.args.s.now in
    let inner = drop 1 s in
    let n = prefix_len (is_plain 34 false) inner in
    let inner_is : c.skip-inner.result.now ≡ inner = c.skip-inner.ensures.rest in
    let len : c.plain_len.result ≡ n = rw c.as_bytes.ensures.value at c.plain_len.ensures.len ∙ ap (prefix_len (is_plain 34 false)) inner_is in
    let text : c.split_at.result.0.now ≡ take n inner = c.split_at.ensures.front ∙ (ap (λ k. take k c.skip-inner.result.now) len ∙ ap (take n) inner_is) in
    let rest : c.split_at.result.1.now ≡ drop n inner = c.split_at.ensures.back ∙ (ap (λ k. drop k c.skip-inner.result.now) len ∙ ap (drop n) inner_is) in
    let opens : first s ≡ 34 = sym c.first.ensures ∙ c.if-first-ne34.false in
    let closes : first (drop n inner) ≡ 34 = ap first (sym rest) ∙ (sym c.first-else-first-ne34.ensures ∙ c.if-first-ne34-2.false) in
    let some : 0 < n = grind (arith, common_steps) in
    rw (c.in_ok-from_str.ensures.ok, text, c.skip.ensures.rest, rest) (string_cut s opens some closes)
