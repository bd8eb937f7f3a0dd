use Rattle.std.proofs.Common.{◌≡◌, ◌<◌, ℕ, true, length}
use Rattle.closed_walks.specs.Taking.{taken_in_list}
use Rattle.closed_walks.specs.Following.{is_met}
use Rattle.closed_walks.specs.private.Known.{IsKnown, AreKnown}
use Rattle.closed_walks.proofs.endings.find_endings.Given as goal

-- the endings of the elements behind, and of all that were met, are known
abbrev pub invariant-loop-element : goal.invariant-loop-element
invariant-loop-element l = record {
  marks : length l.met.items ≡ length l.plan.elements;
  are : AreKnown l.plan (taken_in_list l.taken) l.known.items;
  met : (k : ℕ) → is_met l.met.items k ≡ true → IsKnown l.known.items k;
  behind : (k : ℕ) → k < l.element → IsKnown l.known.items k;
}
