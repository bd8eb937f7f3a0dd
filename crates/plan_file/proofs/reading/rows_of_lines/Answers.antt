use Rattle.std.proofs.Common.{◌≡◌, ℕ, List, true, Option, Some, None, Result, Ok, Err, subst}
use Rattle.std.specs.Prelude.{IfOk}
use Rattle.std.specs.Str.{is_utf8}
use Rattle.std.proofs.lemmas.Str.{is_utf8-from_IsUtf8}
use Rattle.sync_text.specs.Chain.{◌>>=◌, found}
use Rattle.toml.specs.Data.{Members}
use Rattle.toml.specs.Parse.{parse_document}
use Rattle.sync_topo.specs.declared.rows.PlanRows.{PlanRows}
use Rattle.plan_rows.specs.declared.error.PlanFileErr.TheVariants.{Syntax}
use Rattle.plan_file.specs.PlanText.{rows_in_file}
use Rattle.plan_rows.specs.Rows.{rows_of_document}
use Rattle.plan_lines.specs.Plain.{ArePlainRows}
use Rattle.plan_file.proofs.reading.rows_of_lines.Goals as goal

-- the rows of the document that there is
found_rows : (parsed : Option Members) (rows : PlanRows) → ArePlainRows parsed rows → (found parsed Syntax >>= rows_of_document) ≡ Ok rows
found_rows None rows plain = absurd plain
found_rows (Some document) rows plain = plain

in_file : {E : Type 0} (bytes : List ℕ) (result : Result PlanRows E) → is_utf8 bytes ≡ true → IfOk result (ArePlainRows (parse_document bytes)) → IfOk result (λ rows. rows_in_file bytes ≡ Ok rows)
in_file bytes (Err stop) text plain = plain
in_file bytes (Ok rows) text plain = rw text (found_rows (parse_document bytes) rows plain)

pub returns-in-Ok : goal.returns-in-Ok
returns-in-Ok c =
    let cases = c.in-Ok.ensures.cases in
    in_file c.args.bytes.now c.plain_rows.result (is_utf8-from_IsUtf8 c.args.bytes.now cases.1) (subst (λ text. IfOk c.plain_rows.result (ArePlainRows (parse_document text))) cases.0 c.plain_rows.ensures)
