-- The rows of a plain text.
use Rattle.std.specs.Prelude.{◌≡◌, Option, Some, None, Ok}
use Rattle.toml.specs.Data.{Members}
use Rattle.sync_topo.specs.declared.rows.PlanRows.{PlanRows}
use Rattle.plan_rows.specs.Rows.{rows_of_document}

-- there is a document, and these are its rows
abbrev pub ArePlainRows : Option Members → PlanRows → Type 0
ArePlainRows None rows = ⊥
ArePlainRows (Some document) rows = rows_of_document document ≡ Ok rows
