use Rattle.std.proofs.Common.{refl, ◌≡◌, ◌==◌, ◌<◌, ◌≤◌, false, length, rules, ap, sym, ◌∙◌, arith}
use Rattle.std.proofs.lemmas.Bool.Decides.{nat_tests}
use Rattle.toml_parser.specs.Lexical.{first, skip_blank}
use Rattle.plan_lines.proofs.PlainItems.{array_begins, array_ends, array_goes_on}
use Rattle.plan_lines.proofs.plain.add_items.Goals as goal

pub items-init : goal.items-init
items-init c = (c.utf8.s, omega arith, array_begins c.args.kind c.args.s.now c.args.rows.now)

pub returns-then-first-eq93-clause-read : goal.returns-then-first-eq93-clause-read
returns-then-first-eq93-clause-read c =
    let start = c.skip_blank-start.ensures.rest in
    let at_start : first (skip_blank c.items.rest.now) ≡ 93 = ap first (sym start) ∙ (sym c.first.ensures ∙ c.if-first-eq93.true) in
    rw (c.skip.ensures.rest, start) (array_ends c.args.kind c.args.s.now c.items.rest.now c.args.rows.now c.items.rows c.items.invariant.2 (rw at_start refl))

pub items-preserved : goal.items-preserved
items-preserved c =
    let start = c.skip_blank-start.ensures.rest in
    let rest = c.items.rest.now in
    let at_start : c.first.result ≡ first (skip_blank rest) = c.first.ensures ∙ ap first start in
    let open_still : (first (skip_blank rest) == 93) ≡ false = grind (arith, nat_tests, at_start, c.if-first-eq93.false) in
    let reads = rw start at c.in_ok-entry.ensures.read in
    let shorter : length c.in_ok-rest.rest.now < length rest = omega (arith, c.in_ok-rest.ensures.within, c.in_ok-entry.ensures.shorter, c.skip_blank-start.ensures.within) in
    let whole : length rest ≤ length c.args.s.now = c.items.invariant.1 in (
      search rules,
      omega (arith, shorter, whole),
      array_goes_on c.args.kind c.args.s.now rest c.in_ok-entry.after.now c.in_ok-rest.rest.now c.in_ok-entry.entry c.args.rows.now c.items.rows c.add_to.new.rows c.items.invariant.2 open_still reads
          c.in_ok-add_to.ensures c.in_ok-rest.ensures.read shorter,
    )
