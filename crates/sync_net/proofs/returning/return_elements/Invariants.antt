use Rattle.std.proofs.Common.{drop}
use Rattle.sync_net.specs.private.Copied.{AreSameBut}
use Rattle.sync_net.proofs.returning.return_elements.Given as goal

-- the elements to come may differ
abbrev pub invariant-loop-place : goal.invariant-loop-place
invariant-loop-place l = record { same : AreSameBut (drop l.place-index l.places) l.elements l.base }
