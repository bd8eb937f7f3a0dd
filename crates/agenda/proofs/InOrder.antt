-- The marked places in order.
use Rattle.std.proofs.Common.{◌≡◌, ◌<◌, ℕ, List, length, sym, ◌∙◌}
use Rattle.std.specs.Prelude.{nat_eq}
use Rattle.std.specs.List.{IsDistinct, list_any}
use Rattle.std.specs.List.Sorted.{IsPermutation, IsSorted}
use Rattle.std.specs.Ordering.{nat_cmp}
use Rattle.std.proofs.lemmas.Cmp.{nat_eq_equiv}
use Rattle.std.proofs.lemmas.Map.Keys.{IsDistinct-IsPermutation}
use Rattle.std.proofs.lemmas.List.Sorted.{list_any-IsPermutation, All-permutation}
use Rattle.agenda.specs.Marked.{Marked, AreListed}
use Rattle.agenda.proofs.MarkedPlaces.{flag_within}
use Rattle.agenda.proofs.SortedPlaces.{sorted-kept}
use Rattle.agenda.specs.Called.{is_marked, AreInOrder}

-- the places that are listed, sorted
pub in-order : (marked : Marked) (order : List ℕ) → AreListed marked
    → IsPermutation marked.listed order
    → IsSorted nat_cmp order → AreInOrder marked.flags order
in-order marked order all moved sorted = record {
  marked = among;
  apart = distinct;
  within = All-permutation (λ e. e < length marked.flags) marked.listed order moved all.within;
  kept = sorted-kept (is_marked marked.flags) (length marked.flags) order sorted distinct among
      (λ e is. flag_within marked.flags e is);
}
  where
    among : (e : ℕ) → list_any (nat_eq e) order ≡ is_marked marked.flags e
    among e = sym (list_any-IsPermutation (nat_eq e) marked.listed order moved) ∙ sym (all.listed e)

    distinct : IsDistinct nat_eq order
    distinct = IsDistinct-IsPermutation nat_eq nat_eq_equiv.symm marked.listed order moved all.apart
