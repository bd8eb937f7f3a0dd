use Rattle.std.proofs.Common.{◌≡◌, ◌≤◌, false, drop, length}
use Rattle.rank_cert.specs.private.RowsTaken.{AreTaken}
use Rattle.rank_cert.proofs.reading.take_rows.Given as goal

-- the rows so far broke no rule and gave these ranks, and the others are left
abbrev pub invariant-loop-number : goal.invariant-loop-number
invariant-loop-number l =
    let all = l.fn.records.left in
    record {
      taken : AreTaken l.plan all l.number l.cert;
      left : l.records.left ≡ drop l.number all;
      counted : l.number ≤ length all;
      fresh : l.records.spent ≡ false;
    }

abbrev pub decreases-loop-number : goal.decreases-loop-number
decreases-loop-number l = length l.records.left
