use Rattle.std.proofs.Common.{drop}
use Rattle.sync_net.specs.private.Copied.{AreSameBut}
use Rattle.sync_net.proofs.returning.return_places.Given as goal

-- the places to come may differ
abbrev pub invariant-loop-place : goal.invariant-loop-place
invariant-loop-place g l = record { same : AreSameBut (drop l.place-index l.places) l.items l.base }
