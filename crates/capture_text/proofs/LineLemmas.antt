-- Bytes cut at the first that passes a test.
use Rattle.std.proofs.Common.{◌≡◌, ◌<◌, ℕ, zero, suc, ◌+◌, Bool, true, false, List, [], ◌∷◌, length, take, drop, get_or, refl, nat_lt, None, Some, position, inl, inr, ap, ◌∙◌, arith}
use Rattle.std.specs.List.{slice_split, position_or_len, list_any}
use Rattle.std.proofs.lemmas.Bool.{cases_Bool, cond-true, cond-false, ltb-true, lt-ltb, or_parts}
use Rattle.std.proofs.lemmas.Bool.Decides.{nat_tests}
use Rattle.std.proofs.lemmas.List.Splits.{slice_split_first, slice_split-cons_no}

-- where a byte passes, the first part ends before it
pub split_at_place : (p : ℕ → Bool) (xs : List ℕ) (i : ℕ) → position p xs ≡ Some i → slice_split p xs ≡ take i xs ∷ slice_split p (drop (i + 1) xs)
split_at_place p xs i found =
    elim (cases_Bool (nat_lt (position_or_len p xs) (length xs))) [
      | inl within ↦
          let some : position p xs ≡ Some (position_or_len p xs) = cond-true _ _ _ within in
          let at : position_or_len p xs ≡ i = cc in
          rw (← at) (slice_split_first p xs 0 (ltb-true _ _ within))
      | inr beyond ↦ let none : position p xs ≡ None = cond-false _ _ _ beyond in absurd (cc)
    ]

not_nil : (p : ℕ → Bool) (x : ℕ) (xs : List ℕ) → position p (x ∷ xs) ≡ None → (p x ≡ false) × (position p xs ≡ None)
not_nil p x xs none = grind (arith, nat_tests)

-- where none passes, the bytes are the one part
pub split_whole : (p : ℕ → Bool) (xs : List ℕ) → position p xs ≡ None → slice_split p xs ≡ xs ∷ []
split_whole p [] none = refl
split_whole p (x ∷ xs) none =
    let h = not_nil p x xs none in
    let rest = split_whole p xs h.1 in
    slice_split-cons_no p x xs h.0 ∙ rw rest refl

-- where no byte before a place passes, and that at the place does, the place is the first
place_is : (p : ℕ → Bool) (xs : List ℕ) (place : ℕ) → place < length xs → p (get_or xs place 0) ≡ true → list_any p (take place xs) ≡ false → position_or_len p xs ≡ place
place_is p [] place within passes none = absurd (omega (arith, within))
place_is p (x ∷ xs) zero within passes none = rw passes refl
place_is p (x ∷ xs) (suc place) within passes none =
    let h = or_parts (p x) (list_any p (take place xs)) none in
    let rest = place_is p xs place (omega (arith, within)) passes h.1 in
    let here : position_or_len p (x ∷ xs) ≡ 1 + position_or_len p xs = rw h.0 refl in
    here ∙ omega (arith, rest)

pub first_place : (p : ℕ → Bool) (xs : List ℕ) (place : ℕ) → place < length xs → p (get_or xs place 0) ≡ true → list_any p (take place xs) ≡ false → position p xs ≡ Some place
first_place p xs place within passes none =
    let at = place_is p xs place within passes none in
    let small : nat_lt (position_or_len p xs) (length xs) ≡ true = lt-ltb _ _ (rw at within) in
    cond-true _ _ _ small ∙ ap Some at
