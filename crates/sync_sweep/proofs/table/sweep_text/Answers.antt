use Rattle.std.proofs.Common.{◌<◌, ℕ, length, get_or, ap, ◌∙◌, arith}
use Rattle.sync_sweep.specs.SweepText.{head_text, row_text}
use Rattle.sync_text.proofs.PutRows.{one-row}
use Rattle.sync_sweep.proofs.table.sweep_text.Goals as goal

pub loop-row-preserved : goal.loop-row-preserved
loop-row-preserved c =
    let rows = c.args.rows.now in
    let i : ℕ = c.loop-row.row-index in
    let within : i < length rows = omega (arith, c.loop-row-test.true, ap length c.as_slice-row-items.ensures) in
    c.in_ok-put_row.ensures.put
    ∙ one-row (row_text c.args.plan.now) rows i c.row-item.result head_text c.loop-row.text (row_text c.args.plan.now c.row-item.result)
    within c.loop-row.invariant
    (ap (row_text c.args.plan.now) (c.row-item.is ∙ ap (λ xs. get_or xs i c.row-item.result) c.as_slice-row-items.ensures))
