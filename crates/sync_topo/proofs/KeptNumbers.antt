-- The numbers of a range that pass a test.
use Rattle.std.proofs.Common.{◌≡◌, ℕ, ◌+◌, ◌<◌, ◌≤◌, Bool, true, false, ◌∷◌, zero, suc, filter, Some, slice_get, refl, ap, sym, ◌∙◌, inl, inr, arith}
use Rattle.std.specs.Prelude.{if◌then◌else◌}
use Rattle.std.specs.List.{range_with_len}
use Rattle.std.proofs.lemmas.Bool.{cases_eq, true≢false}
use Rattle.std.proofs.lemmas.Option.{none-some, same_Some}

-- what a filter over a range keeps
pub kept_in_range : (p : ℕ → Bool) (a n k : ℕ) → p k ≡ true → a ≤ k → k < a + n → (place : ℕ) × (slice_get (filter p (range_with_len a n)) place ≡ Some k)
kept_in_range p a zero k holds low high = absurd (omega arith)
kept_in_range p a (suc n) k holds low high = cases (p a) refl (λ above. kept_in_range p (a + 1) n k holds above (omega arith))
  where
    cases : (b : Bool) → p a ≡ b → (a + 1 ≤ k → (place : ℕ) × (slice_get (filter p (range_with_len (a + 1) n)) place ≡ Some k))
        → (place : ℕ) × (slice_get (if b then a ∷ filter p (range_with_len (a + 1) n) else filter p (range_with_len (a + 1) n)) place ≡ Some k)
    cases true e rest = elim (cases_eq a k) [
      | inl same ↦ (0, ap (λ m. Some m) same)
      | inr differs ↦ let found = rest (omega (arith, differs)) in (suc found.0, found.1)
    ]
    cases false e rest = elim (cases_eq a k) [
      | inl same ↦ absurd (true≢false (sym holds ∙ ap p (sym same) ∙ e))
      | inr differs ↦ rest (omega (arith, differs))
    ]

pub kept_passes : (p : ℕ → Bool) (a n place k : ℕ) → slice_get (filter p (range_with_len a n)) place ≡ Some k → (p k ≡ true) × (a ≤ k)
kept_passes p a zero place k here = absurd (none-some k here)
kept_passes p a (suc n) place k here = cases (p a) refl place here (λ at found. kept_passes p (a + 1) n at k found)
  where
    cases : (b : Bool) → p a ≡ b → (at : ℕ)
        → slice_get (if b then a ∷ filter p (range_with_len (a + 1) n) else filter p (range_with_len (a + 1) n)) at ≡ Some k
        → ((at : ℕ) → slice_get (filter p (range_with_len (a + 1) n)) at ≡ Some k → (p k ≡ true) × (a + 1 ≤ k)) → (p k ≡ true) × (a ≤ k)
    cases true e zero found rest = let same = same_Some a k found in (ap p (sym same) ∙ e, omega arith)
    cases true e (suc at) found rest = let facts = rest at found in (facts.0, omega (arith, facts.1))
    cases false e at found rest = let facts = rest at found in (facts.0, omega (arith, facts.1))

pub kept_rises : (p : ℕ → Bool) (a n i j k l : ℕ) → i < j → slice_get (filter p (range_with_len a n)) i ≡ Some k
    → slice_get (filter p (range_with_len a n)) j ≡ Some l → k < l
kept_rises p a zero i j k l less here there = absurd (none-some k here)
kept_rises p a (suc n) i j k l less here there = cases (p a) refl i j less here there (λ i j. kept_rises p (a + 1) n i j k l)
  where
    cases : (b : Bool) → p a ≡ b → (i j : ℕ) → i < j
        → slice_get (if b then a ∷ filter p (range_with_len (a + 1) n) else filter p (range_with_len (a + 1) n)) i ≡ Some k
        → slice_get (if b then a ∷ filter p (range_with_len (a + 1) n) else filter p (range_with_len (a + 1) n)) j ≡ Some l
        → ((i j : ℕ) → i < j → slice_get (filter p (range_with_len (a + 1) n)) i ≡ Some k → slice_get (filter p (range_with_len (a + 1) n)) j ≡ Some l → k < l)
        → k < l
    cases true e i zero less here there rest = absurd (omega arith)
    cases true e zero (suc j) less here there rest =
        let same = same_Some a k here in
        let above = kept_passes p (a + 1) n j l there in
        omega (arith, same, above.1)
    cases true e (suc i) (suc j) less here there rest = rest i j (omega arith) here there
    cases false e i j less here there rest = rest i j less here there
