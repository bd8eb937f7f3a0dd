use Rattle.std.proofs.Common.{take}
use Rattle.sync_net.specs.private.Copied.{AreRenewed, IsElementDue}
use Rattle.sync_net.proofs.returning.renew_element_dues.Given as goal

-- the due times of the places behind are renewed
abbrev pub invariant-loop-place : goal.invariant-loop-place
invariant-loop-place l = record { renewed : AreRenewed 0 (take l.place-index l.places) (IsElementDue l.elements) l.fn.dues l.dues }
