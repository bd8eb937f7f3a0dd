-- Ranges of numbers, and searches over them.
use Rattle.std.proofs.Common.{◌≡◌, ℕ, ◌+◌, ◌-◌, ◌<◌, ◌≤◌, zero, suc, ◌∷◌, [], ◌++◌, Bool, true, false, if◌then◌else◌, find, Some, None, refl, ap, sym, inl, inr, arith}
use Rattle.std.specs.List.{range_with_len}
use Rattle.std.proofs.lemmas.Bool.Decides.{eqb_tells}
use Rattle.std.proofs.lemmas.Option.{same_Some, none-some}
use Rattle.std.proofs.lemmas.List.{map-id}
use Rattle.std.proofs.lemmas.List.FromFn.{map-range_with_len_more}

-- one number more
pub range_more : (n : ℕ) → range_with_len 0 (n + 1) ≡ range_with_len 0 n ++ n ∷ []
range_more n =
    let e : 0 + n ≡ n = omega arith in
    simp map-id at (map-range_with_len_more (λ (x : ℕ). x) 0 n n e)

-- a search finds nothing where no number passes
pub find_range-none : (p : ℕ → Bool) (a n : ℕ) → ((i : ℕ) → a ≤ i → i < a + n → p i ≡ false) → find p (range_with_len a n) ≡ None
find_range-none p a zero never = refl
find_range-none p a (suc n) never =
    rw (never a (omega arith) (omega arith)) (find_range-none p (a + 1) n (λ i low high. never i (omega arith) (omega arith)))

-- and else the first that passes
pub find_range-first : (p : ℕ → Bool) (a n k : ℕ) → a ≤ k → k < a + n → p k ≡ true → ((i : ℕ) → a ≤ i → i < k → p i ≡ false) → find p (range_with_len a n) ≡ Some k
find_range-first p a zero k low high here before = absurd (omega arith)
find_range-first p a (suc n) k low high here before =
    elim (eqb_tells a k) [
      | inl same ↦ let hit : p a ≡ true = rw same.1 here in rw hit (ap Some same.1)
      | inr other ↦ rw (before a (omega arith) (omega arith)) (find_range-first p (a + 1) n k (omega arith) (omega arith) here (λ i l h. before i (omega arith) h))
    ]

-- what a search over a range finds
pub find_range-Some : (p : ℕ → Bool) (a n k : ℕ) → find p (range_with_len a n) ≡ Some k → (p k ≡ true) × ((i : ℕ) → a ≤ i → i < k → p i ≡ false) × (a ≤ k) × (k < a + n)
find_range-Some p a zero k found = absurd (none-some k found)
find_range-Some p a (suc n) k found = cases (p a) refl found (find_range-Some p (a + 1) n k)
  where
    cases : (b : Bool) → p a ≡ b → (if b then Some a else find p (range_with_len (a + 1) n)) ≡ Some k
        → (find p (range_with_len (a + 1) n) ≡ Some k → (p k ≡ true) × ((i : ℕ) → a + 1 ≤ i → i < k → p i ≡ false) × (a + 1 ≤ k) × (k < a + 1 + n))
        → (p k ≡ true) × ((i : ℕ) → a ≤ i → i < k → p i ≡ false) × (a ≤ k) × (k < a + suc n)
    cases true e here rest =
        let same : a ≡ k = same_Some a k here in
        (rw (← same) e, λ i low high. absurd (omega arith), omega arith, omega arith)
    cases false e later rest =
        let facts = rest later in (
          facts.0,
          λ i low high. elim (eqb_tells i a) [
            | inl at ↦ rw at.1 e
            | inr other ↦ facts.1 i (omega (arith, other.1)) high
          ],
          omega (arith, facts.2),
          omega (arith, facts.3),
        )

pub find_range-None : (p : ℕ → Bool) (a n : ℕ) → find p (range_with_len a n) ≡ None → (i : ℕ) → a ≤ i → i < a + n → p i ≡ false
find_range-None p a zero found i low high = absurd (omega arith)
find_range-None p a (suc n) found i low high = cases (p a) refl found (find_range-None p (a + 1) n)
  where
    cases : (b : Bool) → p a ≡ b → (if b then Some a else find p (range_with_len (a + 1) n)) ≡ None
        → (find p (range_with_len (a + 1) n) ≡ None → (i : ℕ) → a + 1 ≤ i → i < a + 1 + n → p i ≡ false) → p i ≡ false
    cases true e here rest = absurd (none-some a (sym here))
    cases false e later rest = elim (eqb_tells i a) [
      | inl at ↦ rw at.1 e
      | inr other ↦ rest later i (omega (arith, other.1)) (omega arith)
    ]

-- a search goes on behind a number that doesn't pass
pub find_range-next : (p : ℕ → Bool) (a n : ℕ) → a < n → p a ≡ false → find p (range_with_len (a + 1) (n - (a + 1))) ≡ find p (range_with_len a (n - a))
find_range-next p a n within fails =
    let more : n - a ≡ suc (n - (a + 1)) = omega arith in
    rw (more, fails) refl
