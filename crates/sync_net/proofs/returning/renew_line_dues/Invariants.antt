use Rattle.std.proofs.Common.{take}
use Rattle.sync_net.specs.private.Copied.{AreRenewed, IsLineDue}
use Rattle.sync_net.proofs.returning.renew_line_dues.Given as goal

-- the due times of the places behind are renewed
abbrev pub invariant-loop-place : goal.invariant-loop-place
invariant-loop-place l = record { renewed : AreRenewed l.first (take l.place-index l.places) (IsLineDue l.lines) l.fn.dues l.dues }
