use Rattle.std.proofs.lemmas.Result.{err_from_is_err_and}
use Rattle.sync_topo.proofs.RowRules.{limits-told}
use Rattle.sync_topo.proofs.parts.PlanTables.of_rows.Goals as goal

pub returns-in_err-check_size-clause-rules : goal.returns-in_err-check_size-clause-rules
returns-in_err-check_size-clause-rules c =
    let p = err_from_is_err_and c.from_residual.result c.from_residual.ensures.1 in
    rw (p.1, p.2) (limits-told c.args.rows _ c.in_err-check_size.ensures.rules)
