use Rattle.std.proofs.Common.{◌≡◌, ◌<◌, ℕ, length}
use Rattle.sync_element.specs.Kept.{watched_in}
use Rattle.sync_element.specs.private.Starting.{IsNew}
use Rattle.sync_element.proofs.starting.new_watched.Given as goal

abbrev pub invariant-loop-input : goal.invariant-loop-input
invariant-loop-input l = record {
  len : length l.watched.items ≡ l.input-index;
  new : (i : ℕ) → i < l.input-index → IsNew l.config i (watched_in l.watched.items i);
}
