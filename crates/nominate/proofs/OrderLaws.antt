-- The order of elements and of candidates.
use Rattle.std.proofs.Common.{◌≡◌, ◌≢◌, ℕ, zero, suc, ◌<◌, ◌⊎◌, Bool, true, false, ◌&&◌, ◌==◌, Option, Some, None, refl, sym, ap, ◌∙◌, inl, inr, arith}
use Rattle.std.specs.Prelude.{nat_lt}
use Rattle.std.proofs.lemmas.Bool.{cases_lt, cases_Bool, cases_order, lt-ltb, le-ltb, eq-eqb, eqb-true, ltb-true, true≢false, false≢true, and_parts, or_cases}
use Rattle.nominate.specs.Nomination.{comes_before}

-- what coming before means
pub before-is : (m n a b : ℕ) → comes_before (Some m) a (Some n) b ≡ true → (m < n) ⊎ ((m ≡ n) × (a < b))
before-is m n a b is = elim (or_cases (nat_lt m n) (m == n && nat_lt a b) is) [
  | inl less ↦ inl (ltb-true m n less)
  | inr level ↦ let both = and_parts (m == n) (nat_lt a b) level in inr (eqb-true m n both.0, ltb-true a b both.1)
]

pub before-less : (m n a b : ℕ) → m < n → comes_before (Some m) a (Some n) b ≡ true
before-less m n a b less = rw (lt-ltb m n less) refl

pub before-level : (m n a b : ℕ) → m ≡ n → a < b → comes_before (Some m) a (Some n) b ≡ true
before-level m n a b same less = rw (le-ltb m n (omega (arith, same)), eq-eqb m n same, lt-ltb a b less) refl

-- nothing comes before itself
pub before-itself : (o : Option ℕ) (a : ℕ) → comes_before o a o a ≡ false
before-itself None a = refl
before-itself (Some m) a = rw (le-ltb m m (omega arith), eq-eqb m m refl, le-ltb a a (omega arith)) refl

pub before-trans : (o p q : Option ℕ) (a b c : ℕ) → comes_before o a p b ≡ true → comes_before p b q c ≡ true → comes_before o a q c ≡ true
before-trans None p q a b c first second = absurd (false≢true first)
before-trans (Some m) None q a b c first second = absurd (false≢true first)
before-trans (Some m) (Some n) None a b c first second = absurd (false≢true second)
before-trans (Some m) (Some n) (Some k) a b c first second = elim (before-is m n a b first) [
  | inl less ↦ elim (before-is n k b c second) [
    | inl more ↦ before-less m k a c (omega (arith, less, more))
    | inr level ↦ let same : n ≡ k = level.0 in before-less m k a c (omega (arith, less, same))
  ]
  | inr level ↦ elim (before-is n k b c second) [
    | inl more ↦ let same : m ≡ n = level.0 in before-less m k a c (omega (arith, same, more))
    | inr again ↦
        let first_same : m ≡ n = level.0 in
        let second_same : n ≡ k = again.0 in
        let first_low : a < b = level.1 in
        let second_low : b < c = again.1 in
        before-level m k a c (omega (arith, first_same, second_same)) (omega (arith, first_low, second_low))
  ]
]

-- of two with counts that differ in number one comes before the other
pub before-total : (m n a b : ℕ) → a ≢ b → (comes_before (Some m) a (Some n) b ≡ true) ⊎ (comes_before (Some n) b (Some m) a ≡ true)
before-total m n a b apart = elim (cases_order m n) [
  | inl same ↦ elim (cases_lt a b) [
    | inl low ↦ inl (before-level m n a b same low)
    | inr high ↦ inr (before-level n m b a (sym same) (omega (arith, high, apart)))
  ]
  | inr differ ↦ elim differ [
    | inl less ↦ inl (before-less m n a b less)
    | inr more ↦ inr (before-less n m b a more)
  ]
]

-- what comes before or after something has a count
pub before-counted : (o p : Option ℕ) (a b : ℕ) → comes_before o a p b ≡ true → (m : ℕ) × (n : ℕ) × (o ≡ Some m) × (p ≡ Some n)
before-counted None p a b is = absurd (false≢true is)
before-counted (Some m) None a b is = absurd (false≢true is)
before-counted (Some m) (Some n) a b is = (m, n, refl, refl)

-- the last of those below n that pass, by an order in which any two that pass stand
pub last-of : (p : ℕ → Bool) (earlier : ℕ → ℕ → Bool) → ((a b : ℕ) → p a ≡ true → p b ≡ true → a ≢ b → (earlier a b ≡ true) ⊎ (earlier b a ≡ true))
    → ((a b c : ℕ) → earlier a b ≡ true → earlier b c ≡ true → earlier a c ≡ true) → (n : ℕ)
    → ((k : ℕ) → k < n → p k ≡ false) ⊎ ((l : ℕ) × (l < n) × (p l ≡ true) × ((k : ℕ) → k < n → p k ≡ true → (k ≡ l) ⊎ (earlier k l ≡ true)))
last-of p earlier total trans zero = inl (λ k low. absurd (omega (arith, low)))
last-of p earlier total trans (suc n) = by (cases_Bool (p n)) (last-of p earlier total trans n)
  where
    by : (p n ≡ true) ⊎ (p n ≡ false) → ((k : ℕ) → k < n → p k ≡ false) ⊎ ((l : ℕ) × (l < n) × (p l ≡ true) × ((k : ℕ) → k < n → p k ≡ true → (k ≡ l) ⊎ (earlier k l ≡ true)))
        → ((k : ℕ) → k < suc n → p k ≡ false) ⊎ ((l : ℕ) × (l < suc n) × (p l ≡ true) × ((k : ℕ) → k < suc n → p k ≡ true → (k ≡ l) ⊎ (earlier k l ≡ true)))
    by (inr fails) (inl none) = inl (λ k low. elim (cases_lt k n) [
      | inl before ↦ none k before
      | inr end ↦ let same : k ≡ n = omega (arith, low, end) in ap p same ∙ fails
    ])
    by (inr fails) (inr last) = inr (
      last.0,
      omega (arith, last.1),
      last.2,
      λ k low passes. elim (cases_lt k n) [
        | inl before ↦ last.3 k before passes
        | inr end ↦ let same : k ≡ n = omega (arith, low, end) in absurd (true≢false (sym passes ∙ ap p same ∙ fails))
      ],
    )
    by (inl passes_n) (inl none) = inr (
      n,
      omega arith,
      passes_n,
      λ k low passes. elim (cases_lt k n) [
        | inl before ↦ absurd (true≢false (sym passes ∙ none k before))
        | inr end ↦ inl (omega (arith, low, end))
      ],
    )
    by (inl passes_n) (inr last) =
        let low_l = last.1 in
        let apart : last.0 ≢ n = λ same. omega (arith, same, low_l) in
        elim (total last.0 n last.2 passes_n apart) [
          | inl later ↦ inr (
            n,
            omega arith,
            passes_n,
            λ k low passes. elim (cases_lt k n) [
              | inl before ↦ elim (last.3 k before passes) [
                | inl same ↦ inr (ap (λ j. earlier j n) same ∙ later)
                | inr sooner ↦ inr (trans k last.0 n sooner later)
              ]
              | inr end ↦ inl (omega (arith, low, end))
            ],
          )
          | inr sooner ↦ inr (
            last.0,
            omega (arith, low_l),
            last.2,
            λ k low passes. elim (cases_lt k n) [
              | inl before ↦ last.3 k before passes
              | inr end ↦ let same : k ≡ n = omega (arith, low, end) in inr (ap (λ j. earlier j last.0) same ∙ sooner)
            ],
          )
        ]

-- the first number that passes, where one does
pub first-of : (p : ℕ → Bool) (n : ℕ) → ((k : ℕ) → k < n → p k ≡ false) ⊎ ((l : ℕ) × (l < n) × (p l ≡ true) × ((k : ℕ) → k < l → p k ≡ false))
first-of p zero = inl (λ k low. absurd (omega (arith, low)))
first-of p (suc n) = by (cases_Bool (p n)) (first-of p n)
  where
    by : (p n ≡ true) ⊎ (p n ≡ false) → ((k : ℕ) → k < n → p k ≡ false) ⊎ ((l : ℕ) × (l < n) × (p l ≡ true) × ((k : ℕ) → k < l → p k ≡ false))
        → ((k : ℕ) → k < suc n → p k ≡ false) ⊎ ((l : ℕ) × (l < suc n) × (p l ≡ true) × ((k : ℕ) → k < l → p k ≡ false))
    by passes (inr found) = inr (found.0, omega (arith, found.1), found.2, found.3)
    by (inl passes) (inl none) = inr (n, omega arith, passes, none)
    by (inr fails) (inl none) = inl (λ k low. elim (cases_lt k n) [
      | inl before ↦ none k before
      | inr end ↦ let same : k ≡ n = omega (arith, low, end) in ap p same ∙ fails
    ])
