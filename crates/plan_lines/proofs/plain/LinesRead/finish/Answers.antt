use Rattle.std.proofs.Common.{◌≡◌, Result, Ok, Err}
use Rattle.std.specs.Prelude.{IfOk}
use Rattle.toml.specs.Tables.{Document, close}
use Rattle.sync_topo.specs.declared.rows.PlanRows.{PlanRows}
use Rattle.plan_lines.specs.declared.plain.LinesRead.{LinesRead}
use Rattle.plan_rows.specs.Rows.{rows_of_document}
use Rattle.plan_lines.specs.private.Lines.{Follows, Closes, MakeRows}
use Rattle.plan_lines.proofs.PlainDone.{finish_is}
use Rattle.plan_lines.proofs.plain.LinesRead.finish.Goals as goal

made_is : {E : Type 0} (read closed : LinesRead) (result : Result PlanRows E) → Closes read closed → IfOk result (λ all. MakeRows closed.head closed.rows all)
    → IfOk result (λ rows. (doc : Document) → Follows read doc → rows_of_document (close doc.0) ≡ Ok rows)
made_is read closed (Err stop) closes makes = makes
made_is read closed (Ok all) closes makes = λ doc follows. finish_is read closed doc all follows closes makes

pub returns : goal.returns
returns c = made_is c.args.self c.close.new.self c.rows_by.result c.in_ok-close.ensures c.rows_by.ensures
