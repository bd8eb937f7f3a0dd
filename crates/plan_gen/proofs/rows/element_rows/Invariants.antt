use Rattle.std.proofs.Common.{◌≡◌, map}
use Rattle.std.specs.List.{range_with_len}
use Rattle.plan_gen.specs.private.LadderRows.{element_row}
use Rattle.plan_gen.proofs.rows.element_rows.Given as goal

abbrev pub invariant-loop-element : goal.invariant-loop-element
invariant-loop-element l = l.rows ≡ map element_row (range_with_len 0 l.element)
