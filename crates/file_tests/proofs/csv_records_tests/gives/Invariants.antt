use Rattle.std.proofs.Common.{◌≡◌, false, length}
use Rattle.file_tests.proofs.csv_records_tests.gives.Given as goal

-- the reader has not failed, and fewer records are left in each turn
abbrev pub invariant-loop-text : goal.invariant-loop-text
invariant-loop-text g l = l.records.spent ≡ false

abbrev pub decreases-loop-text : goal.decreases-loop-text
decreases-loop-text g l = length l.records.left
