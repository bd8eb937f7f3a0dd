use Rattle.std.proofs.Common.{◌≡◌, take}
use Rattle.sync_net.proofs.copying.try_clone_told.Given as goal

abbrev pub invariant-loop-told : goal.invariant-loop-told
invariant-loop-told l = l.copies ≡ take l.told-index l.changes
