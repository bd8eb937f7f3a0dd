use Rattle.std.proofs.Common.{refl, ◌≡◌, ◌==◌, ◌<◌, false, length, drop, rules, ap, sym, subst, ◌∙◌, arith}
use Rattle.std.proofs.lemmas.Bool.Decides.{nat_tests}
use Rattle.toml_parser.specs.Lexical.{first, skip_blank}
use Rattle.plan_lines.proofs.PlainItems.{table_begins, table_ends, table_goes_on}
use Rattle.plan_lines.proofs.plain.inline_entry.Goals as goal

pub members-init : goal.members-init
members-init c =
    let shorter : length (drop 1 c.args.s.now) < length c.args.s.now = subst (λ t. length t < length c.args.s.now) c.skip-rest.ensures.rest c.skip-rest.ensures.shorter in
    (c.skip-rest.utf8, c.skip-rest.ensures.shorter, rw c.skip-rest.ensures.rest (table_begins c.args.kind c.args.s.now c.new-entry.result shorter c.new-entry.ensures.kind c.new-entry.ensures.slots))

pub returns-then-first-eq125-clause-read : goal.returns-then-first-eq125-clause-read
returns-then-first-eq125-clause-read c =
    let s = c.args.s.now in
    let start = c.skip_blank-start.ensures.rest in
    let at_first : first s ≡ 123 = sym c.first.ensures ∙ c.if-first-ne123.false in
    let at_start : first (skip_blank c.members.rest.now) ≡ 125 = ap first (sym start) ∙ (sym c.first-in-members.ensures ∙ c.if-first-eq125.true) in
    rw (c.skip.ensures.rest, start)
    (table_ends c.args.kind s c.members.rest.now c.members.entry c.members.invariant.2 (rw at_first refl) (rw at_first refl) (rw at_start refl))

pub members-preserved : goal.members-preserved
members-preserved c =
    let start = c.skip_blank-start.ensures.rest in
    let rest = c.members.rest.now in
    let at_start : c.first-in-members.result ≡ first (skip_blank rest) = c.first-in-members.ensures ∙ ap first start in
    let open_still : (first (skip_blank rest) == 125) ≡ false = grind (arith, nat_tests, at_start, c.if-first-eq125.false) in
    let key_read = rw start at c.in_ok-key.ensures.read in
    let shorter : length c.in_ok-rest.rest.now < length rest = omega (arith, c.in_ok-rest.ensures.within, c.in_ok-value.ensures.shorter, c.in_ok-key.ensures.shorter, c.skip_blank-start.ensures.within) in
    let whole : length rest < length c.args.s.now = c.members.invariant.1 in (
      search rules,
      omega (arith, shorter, whole),
      table_goes_on c.args.kind c.args.s.now rest c.in_ok-key.key.now c.in_ok-key.at_value.now c.in_ok-value.after.now c.in_ok-rest.rest.now _ c.members.entry c.put.new.self c.members.invariant.2 open_still key_read
          (c.in_ok-value.ensures.read 78) c.in_ok-rest.ensures.read shorter c.put.ensures.kind (sym c.put.ensures.new ∙ c.if-not-put.false) c.put.ensures.put,
    )
