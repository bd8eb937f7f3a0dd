use Rattle.std.proofs.Common.{◌≡◌, ◌++◌, map, take}
use Rattle.std.specs.List.{concat}
use Rattle.sync_sweep.specs.SweepText.{head_text, row_text}
use Rattle.sync_sweep.proofs.table.sweep_text.Given as goal

-- the head, and the rows behind
abbrev pub invariant-loop-row : goal.invariant-loop-row
invariant-loop-row l = l.text ≡ head_text ++ concat (map (row_text l.plan) (take l.row-index l.rows))
