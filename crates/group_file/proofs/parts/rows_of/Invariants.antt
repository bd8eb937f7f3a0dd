use Rattle.std.proofs.Common.{◌≡◌, take}
use Rattle.group_file.proofs.parts.rows_of.Given as goal

abbrev pub invariant-loop-number : goal.invariant-loop-number
invariant-loop-number l = l.rows ≡ take l.number-index l.numbers
