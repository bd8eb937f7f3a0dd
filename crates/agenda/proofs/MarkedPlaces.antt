-- Places that are listed, and walks over them.
use Rattle.std.proofs.Common.{◌≡◌, ◌≢◌, ◌≤◌, ◌<◌, ◌+◌, ◌⊎◌, ℕ, ◌||◌, Bool, true, false, List, [], ◌∷◌, ◌++◌, length, set, take, drop, replicate, refl, ap, sym, ◌∙◌, inl, inr, arith, add-one, drop-cons, get_or-set_other, length-set, length-append, length-drop}
use Rattle.std.specs.Prelude.{nat_eq, slice_index, slice_index_or}
use Rattle.std.specs.List.{list_any, IsDistinct}
use Rattle.std.proofs.Math.Decide.{dec_lt}
use Rattle.std.proofs.Math.ListN.{get_or-eq_default}
use Rattle.std.proofs.lemmas.Bool.{true≢false}
use Rattle.std.proofs.lemmas.Bool.Decides.{eqb_tells}
use Rattle.std.proofs.lemmas.Cmp.{nat_eq_equiv}
use Rattle.std.proofs.lemmas.List.{get_or-set_same, get_or-replicate, get_or-drop, get_or-take, get_or_default, length-replicate, length-take, ext_get_or, drop_all}
use Rattle.std.proofs.lemmas.List.Elements.{All-nil, All-push}
use Rattle.std.proofs.lemmas.List.Folds.{list_any-append, list_any_more, list_any_none}
use Rattle.std.proofs.lemmas.Map.Keys.{IsDistinct-push, IsDistinct-from_apart, apart_from_distinct}
use Rattle.std.proofs.lemmas.Map.Steps.{length-le_from_distinct_below}
use Rattle.std.proofs.Math.Bool.{or-false}
use Rattle.agenda.specs.Marked.{Marked, none_marked, AreListed}

-- without marks no place has a flag
no_flag : (count k : ℕ) → slice_index_or (replicate count false) k false ≡ false
no_flag count k = elim (dec_lt k count) [
  | yes within ↦ get_or-replicate count k false false within
  | no beyond ↦ get_or-eq_default (replicate count false) false (omega (arith, length-replicate count false, beyond))
]

-- where no place is marked, none is listed
pub none_are_listed : (count : ℕ) → AreListed (none_marked count)
none_are_listed count = record {
  listed = λ k. no_flag count k;
  apart = IsDistinct-from_apart nat_eq [] (λ i j d before within. absurd (omega arith));
  within = All-nil (λ k. k < length (replicate count false));
}

-- only a place within has a flag
pub flag_within : (flags : List Bool) (k : ℕ) → slice_index_or flags k false ≡ true → k < length flags
flag_within flags k is = elim (dec_lt k (length flags)) [
  | yes within ↦ within
  | no beyond ↦ absurd (true≢false (sym is ∙ get_or-eq_default flags false (omega (arith, beyond))))
]

-- no more places are listed than there are
pub listed_few : (marked : Marked) → AreListed marked → length marked.listed ≤ length marked.flags
listed_few marked all =
    length-le_from_distinct_below marked.listed (length marked.flags) all.apart (λ k is. flag_within marked.flags k (all.listed k ∙ is))

-- a flag that was read is the one at its place
pub flag_read : (flags : List Bool) (k : ℕ) (flag : Bool) → k < length flags → flag ≡ slice_index_or flags k flag → slice_index_or flags k false ≡ flag
flag_read flags k flag within is = get_or_default flags k false flag within ∙ sym is

-- one more place is marked
pub with_mark : (marked : Marked) (k : ℕ) → AreListed marked → k < length marked.flags → slice_index_or marked.flags k false ≡ false
    → AreListed (record { flags = set marked.flags k true; listed = marked.listed ++ k ∷ [] })
with_mark marked k all within free = record {
  listed = λ j. at j (eqb_tells j k);
  apart = IsDistinct-push nat_eq_equiv marked.listed k all.apart (sym (all.listed k) ∙ free);
  within = All-push (λ j. j < length (set marked.flags k true)) marked.listed k
      (λ i d inside. omega (arith, all.within i d inside, length-set marked.flags k true)) (omega (arith, within, length-set marked.flags k true));
}
  where
    or_true : (b : Bool) → (b || true) ≡ true
    or_true true = refl
    or_true false = refl

    at : (j : ℕ) → ((nat_eq j k ≡ true) × (j ≡ k)) ⊎ ((nat_eq j k ≡ false) × (j ≢ k)) → slice_index_or (set marked.flags k true) j false ≡ list_any (nat_eq j) (marked.listed ++ k ∷ [])
    at j tells = elim tells [
      | inl same ↦ rw (list_any-append (nat_eq j) marked.listed (k ∷ []), same.0)
          (ap (λ i. slice_index_or (set marked.flags k true) i false) same.1 ∙ get_or-set_same marked.flags k true false within ∙ sym (or_true (list_any (nat_eq j) marked.listed)))
      | inr other ↦ rw (list_any-append (nat_eq j) marked.listed (k ∷ []), other.0)
          (get_or-set_other marked.flags k j true false other.1 ∙ all.listed j ∙ sym (or-false (list_any (nat_eq j) marked.listed)))
    ]

-- so there was room for it
pub room_left : (marked : Marked) (k : ℕ) → AreListed marked → k < length marked.flags → slice_index_or marked.flags k false ≡ false → length marked.listed < length marked.flags
room_left marked k all within free =
    let few = listed_few (record { flags = set marked.flags k true; listed = marked.listed ++ k ∷ [] }) (with_mark marked k all within free) in
    omega (arith, few, length-set marked.flags k true, length-append marked.listed (k ∷ []))

-- where the places with a flag are to come, and none is, no place has one
pub none_left : (flags : List Bool) (n : ℕ) (listed : List ℕ) (i : ℕ) → length flags ≡ n → length listed ≤ i
    → ((k : ℕ) → slice_index_or flags k false ≡ true → list_any (nat_eq k) (drop i listed) ≡ true) → flags ≡ replicate n false
none_left flags n listed i room done only =
    ext_get_or false flags (replicate n false) (room ∙ sym (length-replicate n false)) (λ k within. by k (slice_index_or flags k false) refl ∙ sym (no_flag n k))
  where
    by : (k : ℕ) (flag : Bool) → slice_index_or flags k false ≡ flag → slice_index_or flags k false ≡ false
    by k false is = is
    by k true is = absurd (true≢false (sym (only k is) ∙ ap (list_any (nat_eq k)) (drop_all i listed done)))

-- a place of two lists is one of the first or of the second
pub listed-append : (k : ℕ) (xs ys : List ℕ) → list_any (nat_eq k) (xs ++ ys) ≡ (list_any (nat_eq k) xs || list_any (nat_eq k) ys)
listed-append k xs ys = list_any-append (nat_eq k) xs ys

-- a place of a list with one more is one of the list or that one
pub listed-push : (k n : ℕ) (xs : List ℕ) → list_any (nat_eq k) (xs ++ n ∷ []) ≡ (list_any (nat_eq k) xs || nat_eq k n)
listed-push k n xs = list_any-append (nat_eq k) xs (n ∷ []) ∙ ap (λ b. list_any (nat_eq k) xs || b) (or-false (nat_eq k n))

-- the places to come at an index are the one there and those after it
pub to_come : (k i : ℕ) (xs : List ℕ) → i < length xs → list_any (nat_eq k) (drop i xs) ≡ (nat_eq k (slice_index xs i) || list_any (nat_eq k) (drop (i + 1) xs))
to_come k i xs within = rw (add-one, drop-cons xs i 0) refl

-- the places behind the next index are those behind this one and the one there
pub behind : (k i : ℕ) (xs : List ℕ) → i < length xs → list_any (nat_eq k) (take (i + 1) xs) ≡ (list_any (nat_eq k) (take i xs) || nat_eq k (slice_index xs i))
behind k i xs within = list_any_more (nat_eq k) xs i 0 within

-- of distinct places the one at an index doesn't come again after it
pub not_again : (i : ℕ) (xs : List ℕ) → IsDistinct nat_eq xs → i < length xs → list_any (nat_eq (slice_index xs i)) (drop (i + 1) xs) ≡ false
not_again i xs apart within = list_any_none (nat_eq (slice_index xs i)) (drop (i + 1) xs) (λ j d inside.
    let beyond : i + 1 + j < length xs = omega (arith, inside, length-drop (i + 1) xs) in
    let other : nat_eq (slice_index_or xs i d) (slice_index_or xs (i + 1 + j) d) ≡ false = apart_from_distinct nat_eq xs i (i + 1 + j) d apart (omega arith) beyond in
    rw (get_or-drop (i + 1) xs j d, get_or_default xs i 0 d within) other)

-- nor did it come before
pub not_before : (i : ℕ) (xs : List ℕ) → IsDistinct nat_eq xs → i < length xs → list_any (nat_eq (slice_index xs i)) (take i xs) ≡ false
not_before i xs apart within = list_any_none (nat_eq (slice_index xs i)) (take i xs) (λ j d inside.
    let earlier : j < i = omega (arith, inside, length-take i xs) in
    let other : nat_eq (slice_index_or xs j d) (slice_index_or xs i d) ≡ false = apart_from_distinct nat_eq xs j i d apart earlier within in
    rw (get_or-take i xs j d earlier, get_or_default xs i 0 d within) (nat_eq_equiv.symm (slice_index_or xs i d) (slice_index_or xs j d) ∙ other))

-- flags of just the places that marks list are theirs
pub same_flags : (flags : List Bool) (marked : Marked) → AreListed marked → length flags ≡ length marked.flags
    → ((k : ℕ) → slice_index_or flags k false ≡ list_any (nat_eq k) marked.listed) → flags ≡ marked.flags
same_flags flags marked all count given = ext_get_or false flags marked.flags count (λ k within. given k ∙ sym (all.listed k))
