use Rattle.std.proofs.Common.{◌≡◌, ◌<◌, take, drop, ap, sym, subst, ◌∙◌, arith}
use Rattle.std.specs.List.{prefix_len}
use Rattle.std.specs.Str.{IsCharBoundary}
use Rattle.std.proofs.lemmas.Bool.Decides.{nat_tests}
use Rattle.std.proofs.lemmas.Grind.{common_steps}
use Rattle.toml_parser.specs.Lexical.{is_bare, skip_ws, first}
use Rattle.toml_parser.proofs.LexicalLemmas.{IsCharBoundary-ascii_run}
use Rattle.plan_lines.proofs.PlainLines.{bare_key}
use Rattle.plan_lines.proofs.tokens.key_equals.Goals as goal

pub split_at-requires : goal.split_at-requires
split_at-requires c =
    let len = rw c.as_bytes.ensures.value at c.bare_len.ensures.len in
    subst (IsCharBoundary c.args.s.now) (sym len) (IsCharBoundary-ascii_run is_bare c.args.s.now c.utf8.s (λ b e. grind (arith, nat_tests)))

pub returns-clause-read : goal.returns-clause-read
returns-clause-read c =
    let s = c.args.s.now in
    let n = prefix_len is_bare s in
    let len : c.bare_len.result ≡ n = rw c.as_bytes.ensures.value at c.bare_len.ensures.len in
    let key : c.split_at.result.0.now ≡ take n s = c.split_at.ensures.front ∙ ap (λ k. take k s) len in
    let rest : c.split_at.result.1.now ≡ drop n s = c.split_at.ensures.back ∙ ap (λ k. drop k s) len in
    let after : c.after_space-rest.result.now ≡ skip_ws (drop n s) = c.after_space-rest.ensures.rest ∙ ap skip_ws rest in
    let last : c.after_space.result.now ≡ skip_ws (drop 1 (skip_ws (drop n s))) = c.after_space.ensures.rest ∙ ap skip_ws (c.skip.ensures.rest ∙ ap (drop 1) after) in
    let some : 0 < n = grind (arith, common_steps) in
    let equals : first (skip_ws (drop n s)) ≡ 61 = ap first (sym after) ∙ (sym c.first.ensures ∙ c.if-first-ne61.false) in
    rw (key, last) (bare_key s some equals)
