use Rattle.std.proofs.Common.{◌≡◌, take}
use Rattle.sync_element.proofs.watched.try_clone_all.Given as goal

abbrev pub invariant-loop-input : goal.invariant-loop-input
invariant-loop-input l = l.copies.items ≡ take l.input-index l.watched
