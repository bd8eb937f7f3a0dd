use Rattle.std.proofs.Common.{◌≡◌, ℕ, true, length}
use Rattle.closed_walks.specs.Taking.{taken_in_list}
use Rattle.closed_walks.specs.Following.{is_met}
use Rattle.closed_walks.specs.private.Known.{IsKnown, AreKnown}
use Rattle.closed_walks.proofs.endings.note_in_order.Given as goal

-- all that are marked are known
abbrev pub invariant-loop-element : goal.invariant-loop-element
invariant-loop-element l = record {
  marks : length l.met ≡ length l.plan.elements;
  are : AreKnown l.plan (taken_in_list l.taken) l.known;
  met : (k : ℕ) → is_met l.met k ≡ true → IsKnown l.known k;
}
