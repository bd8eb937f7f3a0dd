use Rattle.std.proofs.Common.{◌≡◌, flat_map}
use Rattle.std.specs.List.{range_with_len}
use Rattle.plan_gen.specs.private.LadderRows.{link_rows_up_to}
use Rattle.plan_gen.proofs.rows.link_rows.Given as goal

abbrev pub invariant-loop-element : goal.invariant-loop-element
invariant-loop-element l = l.rows ≡ flat_map link_rows_up_to (range_with_len 0 l.element)
