-- A sorted list of places, none twice, is a range of which those are kept that it has.
use Rattle.std.proofs.Common.{◌≡◌, ◌≢◌, ◌≤◌, ◌<◌, ◌+◌, inl, inr, ℕ, zero, suc, Bool, true, false, ◌||◌, cond, List, [], ◌∷◌, length, filter, refl, ap, sym, subst, ◌∙◌, arith}
use Rattle.std.specs.Prelude.{nat_eq, slice_index}
use Rattle.std.specs.List.{list_any, range_with_len, IsDistinct}
use Rattle.std.specs.List.Sorted.{IsSorted}
use Rattle.std.specs.Ordering.{nat_cmp, is_lt}
use Rattle.std.specs.declared.cmp.Ordering.TheVariants.{Less, Equal, Greater}
use Rattle.std.proofs.Math.Decide.{dec_lt}
use Rattle.std.proofs.lemmas.Bool.{true≢false, lt-ltb, eq-eqb}
use Rattle.std.proofs.lemmas.Bool.Decides.{eqb_tells}
use Rattle.std.proofs.lemmas.Map.Keys.{apart_from_distinct}

-- each number is above those before it, and the first is at least this one
Rises : ℕ → List ℕ → Type 0
Rises low [] = Unit {0}
Rises low (x ∷ xs) = (low ≤ x) × Rises (suc x) xs

rises-above : (low k : ℕ) (xs : List ℕ) → Rises low xs → list_any (nat_eq k) xs ≡ true → low ≤ k
unfolding Rises
rises-above low k [] rises has = absurd (true≢false (sym has))
rises-above low k (x ∷ xs) rises has = elim (eqb_tells k x) [
  | inl same ↦ omega (arith, rises.0, same.1)
  | inr other ↦
      let later : suc x ≤ k = rises-above (suc x) k xs rises.1 (sym (ap (λ b. b || list_any (nat_eq k) xs) other.0) ∙ has) in
      omega (arith, rises.0, later)
]

-- from above a number that isn't among them
rises-past : (low : ℕ) (xs : List ℕ) → Rises low xs → list_any (nat_eq low) xs ≡ false → Rises (low + 1) xs
unfolding Rises
rises-past low [] rises none = tt
rises-past low (x ∷ xs) rises none = elim (eqb_tells low x) [
  | inl same ↦ absurd (true≢false (sym (ap (λ b. b || list_any (nat_eq low) xs) same.0) ∙ none))
  | inr other ↦ let apart : low ≢ x = other.1 in (omega (arith, rises.0, apart), rises.1)
]

-- a list that rises, and has a number if it passes a test, is the range of those that pass
rises-kept : (p : ℕ → Bool) (low n : ℕ) (xs : List ℕ) → Rises low xs
    → ((k : ℕ) → low ≤ k → list_any (nat_eq k) xs ≡ p k) → ((k : ℕ) → p k ≡ true → k < low + n)
    → xs ≡ filter p (range_with_len low n)
unfolding Rises
rises-kept p low zero [] rises has within = refl
rises-kept p low zero (x ∷ xs) rises has within =
    let passes : p x ≡ true = sym (has x rises.0) ∙ ap (λ b. b || list_any (nat_eq x) xs) (eq-eqb x x refl) in
    absurd (omega (arith, within x passes, rises.0))
rises-kept p low (suc n) xs rises has within = by (p low) refl xs rises has (rises-kept p (low + 1) n)
  where
    further : (k : ℕ) → p k ≡ true → k < low + 1 + n
    further k passes = omega (arith, within k passes)

    by : (b : Bool) → p low ≡ b → (xs : List ℕ) → Rises low xs → ((k : ℕ) → low ≤ k → list_any (nat_eq k) xs ≡ p k)
        → ((ys : List ℕ) → Rises (low + 1) ys → ((k : ℕ) → low + 1 ≤ k → list_any (nat_eq k) ys ≡ p k) → ((k : ℕ) → p k ≡ true → k < low + 1 + n)
        → ys ≡ filter p (range_with_len (low + 1) n))
        → xs ≡ cond b (low ∷ filter p (range_with_len (low + 1) n)) (filter p (range_with_len (low + 1) n))
    by false is xs rises has shorter =
        shorter xs (rises-past low xs rises (has low (omega arith) ∙ is)) (λ k later. has k (omega (arith, later))) further
    by true is [] rises has shorter = absurd (true≢false (sym (has low (omega arith) ∙ is)))
    by true is (x ∷ xs) rises has shorter = elim (eqb_tells low x) [
      | inl same ↦
          let here : x ≡ low = sym same.1 in
          let above : Rises (low + 1) xs = subst (λ (from : ℕ). Rises from xs) (omega (arith, here)) rises.1 in
          let rest : xs ≡ filter p (range_with_len (low + 1) n) =
          shorter xs above (λ k later. elim (eqb_tells k x) [
            | inl equal ↦ let also : k ≡ x = equal.1 in absurd (omega (arith, also, here, later))
            | inr apart ↦ sym (ap (λ b. b || list_any (nat_eq k) xs) apart.0) ∙ has k (omega (arith, later))
          ]) further in
          ap (λ (y : ℕ). y ∷ xs) here ∙ ap (λ (ys : List ℕ). low ∷ ys) rest
      | inr other ↦
          let there : list_any (nat_eq low) xs ≡ true = sym (ap (λ b. b || list_any (nat_eq low) xs) other.0) ∙ has low (omega arith) ∙ is in
          let later : suc x ≤ low = rises-above (suc x) low xs rises.1 there in
          absurd (omega (arith, later, rises.0))
    ]

-- a list of which each number is below the next rises
increasing-rises : (low : ℕ) (xs : List ℕ) → ((k : ℕ) → k + 1 < length xs → slice_index xs k < slice_index xs (k + 1))
    → (0 < length xs → low ≤ slice_index xs 0) → Rises low xs
unfolding Rises
increasing-rises low [] increasing first = tt
increasing-rises low (x ∷ xs) increasing first = (
  first (omega arith),
  increasing-rises (suc x) xs (λ k inside.
      let one : suc k + 1 ≡ suc (k + 1) = omega arith in
      subst (λ (j : ℕ). slice_index xs k < slice_index (x ∷ xs) j) one (increasing (suc k) (omega (arith, inside)))) (λ some. increasing 0 (omega (arith, some))),
)

-- a number that isn't less than the one before it, and isn't it, is above it
sorted-above : (a b : ℕ) → is_lt (nat_cmp b a) ≡ false → nat_eq a b ≡ false → a < b
sorted-above a b not_less apart = elim (dec_lt a b) [
  | yes above ↦ above
  | no below ↦ elim (dec_lt b a) [
    | yes less ↦ absurd (true≢false (sym (ap (λ c. is_lt (cond c Less (cond (nat_eq b a) Equal Greater))) (lt-ltb b a less)) ∙ not_less))
    | no equal ↦ let same : a ≡ b = omega (arith, below, equal) in
        absurd (true≢false (sym (eq-eqb a a refl) ∙ ap (nat_eq a) same ∙ apart))
  ]
]

-- what a sort makes of places, none of them twice, is the range of those that pass the test that finds
-- them
pub sorted-kept : (p : ℕ → Bool) (n : ℕ) (xs : List ℕ) → IsSorted nat_cmp xs → IsDistinct nat_eq xs
    → ((k : ℕ) → list_any (nat_eq k) xs ≡ p k) → ((k : ℕ) → p k ≡ true → k < n) → xs ≡ filter p (range_with_len 0 n)
sorted-kept p n xs sorted apart has within =
    rises-kept p 0 n xs
    (increasing-rises 0 xs
    (λ k inside. sorted-above (slice_index xs k) (slice_index xs (k + 1)) (sorted k 0 (omega arith) inside) (apart_from_distinct nat_eq xs k (k + 1) 0 apart (omega arith) inside))
    (λ some. omega arith))
    (λ k low. has k) (λ k passes. omega (arith, within k passes))
