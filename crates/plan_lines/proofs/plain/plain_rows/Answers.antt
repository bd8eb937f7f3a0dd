use Rattle.std.proofs.Common.{◌≡◌, ◌∙◌, ◌==◌, ◌≤◌, ◌<◌, false, length, Option, Some, Result, Ok, Err, rules, sym, subst, arith}
use Rattle.std.specs.Prelude.{IfOk}
use Rattle.std.proofs.lemmas.Grind.{common_steps}
use Rattle.toml_parser.specs.Lexical.{first, skip_blank}
use Rattle.toml.specs.Data.{Members}
use Rattle.toml.specs.Tables.{Document, close}
use Rattle.toml.specs.Parse.{line, parse_document}
use Rattle.sync_topo.specs.declared.rows.PlanRows.{PlanRows}
use Rattle.plan_lines.specs.declared.plain.LinesRead.{LinesRead}
use Rattle.plan_lines.specs.private.Lines.{Follows, Takes}
use Rattle.plan_lines.specs.Plain.{ArePlainRows}
use Rattle.plan_lines.proofs.PlainLines.{line_more, all_read}
use Rattle.plan_lines.proofs.plain.plain_rows.Goals as goal

rows_are_plain : {E : Type 0} (result : Result PlanRows E) (read : LinesRead) (doc : Document) (parsed : Option Members) → IfOk result (λ rows. (d : Document) → Follows read d → ArePlainRows (Some (close d.0)) rows)
    → Follows read doc → parsed ≡ Some (close doc.0) → IfOk result (ArePlainRows parsed)
rows_are_plain (Err stop) read doc parsed makes follows is = makes
rows_are_plain (Ok rows) read doc parsed makes follows is = subst (λ p. ArePlainRows p rows) (sym is) (makes doc follows)

pub returns-then-is_empty : goal.returns-then-is_empty
returns-then-is_empty c =
    let so_far = c.lines.invariant.2 in
    let start = c.skip_blank-start.ensures.rest in
    let no_mark : (first c.args.text.now == 0xEF) ≡ false = sym c.may_begin_with_mark.ensures ∙ c.if-may_begin_with_mark.false in
    let none : length (skip_blank c.lines.rest.now) ≡ 0 = grind (arith, common_steps) in
    rows_are_plain c.finish.result c.lines.read so_far.doc (parse_document c.args.text.now) c.finish.ensures so_far.follows (all_read c.args.text.now c.lines.rest.now c.lines.read so_far no_mark none)

pub lines-preserved : goal.lines-preserved
lines-preserved c =
    let rest = c.lines.rest.now in
    let start = c.skip_blank-start.ensures.rest in
    let some : (length (skip_blank rest) == 0) ≡ false = grind (arith, common_steps) in
    let shorter : length c.in_ok-rest.rest.now < length rest = omega (arith, c.in_ok-rest.ensures.shorter, c.skip_blank-start.ensures.within) in
    let within : length rest ≤ length c.args.text.now = c.lines.invariant.1 in
    let takes : (doc : Document) → Follows c.lines.read doc → Takes (line (skip_blank rest)) doc c.in_ok-rest.rest.now c.line.new.self = λ doc follows.
    subst (λ s. Takes (line s) doc c.in_ok-rest.rest.now c.line.new.self) start (c.in_ok-rest.ensures.read doc follows) in
    (search rules, omega (arith, shorter, within), line_more c.args.text.now rest c.in_ok-rest.rest.now c.lines.read c.line.new.self c.lines.invariant.2 some shorter takes)
