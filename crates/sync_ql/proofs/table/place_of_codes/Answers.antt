use Rattle.std.proofs.Common.{◌≡◌, ◌&&◌, ◌∙◌, []}
use Rattle.std.specs.Prelude.{◌==◌}
use Rattle.std.proofs.lemmas.Bool.{and_parts}
use Rattle.std.proofs.lemmas.Bool.{eqb-true}
use Rattle.sync_ql.specs.Table.{Row, row, levels_of}
use Rattle.sync_ql.proofs.Positions.{position-holds}
use Rattle.sync_ql.proofs.Tables.{position-rows_seen}
use Rattle.sync_ql.proofs.table.place_of_codes.Goals as goal

pub returns-clause-place : goal.returns-clause-place
returns-clause-place c =
    c.row_with_codes.ensures
    ∙ position-rows_seen (λ row. row.code == c.args.code && row.enhanced == c.args.enhanced) c.rows.result.now c.args.option c.rows.ensures.table

pub returns-clause-code : goal.returns-clause-code
returns-clause-code c =
    position-holds (λ (row : Row). row.code == c.args.code && row.enhanced == c.args.enhanced) (λ r. r.code ≡ c.args.code) (λ r holds. eqb-true r.code c.args.code (and_parts _ _ holds).0) (levels_of c.args.option) (row [] 0 0) c.row_with_codes.result
    (returns-clause-place c)

pub returns-clause-enhanced : goal.returns-clause-enhanced
returns-clause-enhanced c =
    position-holds (λ (row : Row). row.code == c.args.code && row.enhanced == c.args.enhanced) (λ r. r.enhanced ≡ c.args.enhanced) (λ r holds. eqb-true r.enhanced c.args.enhanced (and_parts _ _ holds).1) (levels_of c.args.option) (row [] 0 0) c.row_with_codes.result
    (returns-clause-place c)
