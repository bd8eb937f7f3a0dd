use Rattle.std.proofs.Common.{◌≡◌, ◌∙◌, []}
use Rattle.std.specs.Str.{bytes_eq}
use Rattle.std.proofs.lemmas.Slice.Eq.{bytes_eq-Decides}
use Rattle.sync_ql.specs.Table.{Row, row, levels_of}
use Rattle.sync_ql.proofs.Positions.{position-holds}
use Rattle.sync_ql.proofs.Tables.{position-rows_seen}
use Rattle.sync_ql.proofs.table.place_of_name.Goals as goal

pub returns-clause-place : goal.returns-clause-place
returns-clause-place c = c.row_with_name.ensures ∙ position-rows_seen (λ row. bytes_eq row.name c.args.name.now) c.rows.result.now c.args.option c.rows.ensures.table

pub returns-clause-name : goal.returns-clause-name
returns-clause-name c =
    position-holds (λ (row : Row). bytes_eq row.name c.args.name.now) (λ r. r.name ≡ c.args.name.now) (λ r. (bytes_eq-Decides r.name c.args.name.now).0) (levels_of c.args.option) (row [] 0 0) c.row_with_name.result
    (c.row_with_name.ensures ∙ position-rows_seen (λ row. bytes_eq row.name c.args.name.now) c.rows.result.now c.args.option c.rows.ensures.table)
