-- A choice is kept where every candidate that is at least as good as what was chosen is kept: later nothing new beats it,
-- and earlier what was taken was at least as good, so it would be taken still.
use Rattle.std.proofs.Common.{◌≡◌, ◌<◌, ◌≤◌, ◌⊎◌, ℕ, Bool, true, false, not, ◌&&◌, List, position, Option, None, Some, refl, ap, sym, subst, ◌∙◌, inl, inr, arith}
use Rattle.std.specs.List.{list_all}
use Rattle.std.proofs.lemmas.Bool.{and_parts, true≢false, cases_lt, cases_eq}
use Rattle.std.proofs.lemmas.Bool.Decides.{nat_tests}
use Rattle.std.proofs.lemmas.List.Quantifiers.{position-Some}
use Rattle.std.proofs.lemmas.Option.{same_Some}
use Rattle.sync_ql.specs.declared.levels.Level.{Level}
use Rattle.sync_ql.specs.declared.rules.Candidate.{Candidate}
use Rattle.sync_ql.specs.Level.{place_of}
use Rattle.sync_ql.specs.Selection.{candidate, is_eligible, beats, is_best, best_choice}
use Rattle.sync_ql.proofs.Eligible.{nobody}
use Rattle.reach_rules.proofs.BestChoice.{ahead, beats-by, eligible-level, none_passes-true, passes-false, by-current, IsChosen}

-- a candidate that may be taken and is at least as good as a place among the levels and a priority number
pub record IsAtLeast (place number : ℕ) (c : Candidate) : Type 0 where
  pub eligible : is_eligible c ≡ true
  pub level : Level
  pub is : c.level ≡ Some level
  pub stands : (place_of level < place) ⊎ ((place_of level ≡ place) × (c.priority ≤ number))

-- each such candidate of either list is the same in both
abbrev pub AreKept : List Candidate → List Candidate → ℕ → ℕ → Type 0
AreKept inputs others place number = (k : ℕ) → IsAtLeast place number (candidate inputs k) ⊎ IsAtLeast place number (candidate others k)
    → candidate others k ≡ candidate inputs k

ahead-cases : (x y p q : ℕ) → ahead x p y q ≡ true → (x < y) ⊎ ((x ≡ y) × (p < q))
ahead-cases x y p q first = elim (cases_lt x y) [
  | inl less ↦ inl less
  | inr over ↦ elim (cases_eq x y) [
    | inl same ↦ elim (cases_lt p q) [
      | inl less ↦ inr (same, less)
      | inr more ↦ absurd (true≢false (sym first ∙ neither over same more))
    ]
    | inr apart ↦ absurd (true≢false (sym first ∙ never over apart))
  ]
]
  where
    neither : y ≤ x → x ≡ y → q ≤ p → ahead x p y q ≡ false
    neither over same more = grind (arith, nat_tests)

    never : y ≤ x → (x ≡ y → ⊥) → ahead x p y q ≡ false
    never over apart = grind (arith, nat_tests)

not_ahead-cases : (x y p q : ℕ) → ahead y q x p ≡ false → (x < y) ⊎ ((x ≡ y) × (p ≤ q))
not_ahead-cases x y p q first = elim (cases_lt x y) [
  | inl less ↦ inl less
  | inr over ↦ elim (cases_eq x y) [
    | inl same ↦ elim (cases_lt q p) [
      | inl less ↦ absurd (true≢false (sym (both over same less) ∙ first))
      | inr more ↦ inr (same, more)
    ]
    | inr apart ↦ absurd (true≢false (sym (below over apart) ∙ first))
  ]
]
  where
    both : y ≤ x → x ≡ y → q < p → ahead y q x p ≡ true
    both over same less = grind (arith, nat_tests)

    below : y ≤ x → (x ≡ y → ⊥) → ahead y q x p ≡ true
    below over apart = grind (arith, nat_tests)

as_good : (place number x y p q : ℕ) → (y < place) ⊎ ((y ≡ place) × (q ≤ number)) → (x < y) ⊎ ((x ≡ y) × (p ≤ q))
    → (x < place) ⊎ ((x ≡ place) × (p ≤ number))
as_good place number x y p q (inl below) (inl less) = inl (omega (arith, below, less))
as_good place number x y p q (inl below) (inr same) = inl (omega (arith, below, same.0))
as_good place number x y p q (inr here) (inl less) = inl (omega (arith, here.0, less))
as_good place number x y p q (inr here) (inr same) = inr (omega (arith, here.0, same.0), omega (arith, here.1, same.1))

-- what beats such a candidate is one, and so is what it doesn't beat
beats-at_least : (place number : ℕ) (a b : Candidate) → IsAtLeast place number b → is_eligible a ≡ true → beats a b ≡ true → IsAtLeast place number a
beats-at_least place number a b least eligible beaten =
    let own = eligible-level a eligible in
    let cases = ahead-cases (place_of own.level) (place_of least.level) a.priority b.priority (sym (beats-by a b own.level least.level own.is least.is) ∙ beaten) in
    record {
      eligible = eligible;
      level = own.level;
      is = own.is;
      stands = as_good place number (place_of own.level) (place_of least.level) a.priority b.priority least.stands (weaker cases);
    }
  where
    weaker : {x y p q : ℕ} → (x < y) ⊎ ((x ≡ y) × (p < q)) → (x < y) ⊎ ((x ≡ y) × (p ≤ q))
    weaker (inl less) = inl less
    weaker (inr same) = inr (same.0, omega (arith, same.1))

unbeaten-at_least : (place number : ℕ) (a b : Candidate) → IsAtLeast place number b → is_eligible a ≡ true → beats b a ≡ false → IsAtLeast place number a
unbeaten-at_least place number a b least eligible unbeaten =
    let own = eligible-level a eligible in
    record {
      eligible = eligible;
      level = own.level;
      is = own.is;
      stands = as_good place number (place_of own.level) (place_of least.level) a.priority b.priority least.stands
          (not_ahead-cases (place_of own.level) (place_of least.level) a.priority b.priority (sym (beats-by b a least.level own.level least.is own.is) ∙ unbeaten));
    }

-- what is chosen is best
pub best-chosen : (inputs : List Candidate) (current : Option ℕ) (i : ℕ) → best_choice inputs current ≡ Some i → is_best inputs (candidate inputs i) ≡ true
best-chosen inputs None i chosen = (position-Some (is_best inputs) inputs i nobody chosen).1
best-chosen inputs (Some k) i chosen = by (is_best inputs (candidate inputs k)) refl
  where
    by : (b : Bool) → is_best inputs (candidate inputs k) ≡ b → is_best inputs (candidate inputs i) ≡ true
    by true best =
        let stays : best_choice inputs (Some k) ≡ Some k = rw best refl in
        let same : k ≡ i = same_Some k i (sym stays ∙ chosen) in
        subst (λ n. is_best inputs (candidate inputs n) ≡ true) same best
    by false other =
        let first : best_choice inputs (Some k) ≡ position (is_best inputs) inputs = rw other refl in
        (position-Some (is_best inputs) inputs i nobody (sym first ∙ chosen)).1

abbrev Beating : List Candidate → Candidate → Bool
Beating inputs c = list_all (λ other. not (is_eligible other && beats other c)) inputs

module _ (inputs others : List Candidate) (place number : ℕ) (kept : AreKept inputs others place number) where
  -- what is taken is taken again
  pub stays : (current : Option ℕ) (i : ℕ) → best_choice inputs current ≡ Some i → IsAtLeast place number (candidate inputs i)
      → best_choice others (Some i) ≡ Some i
  stays current i chosen least = rw best refl
    where
      same : candidate others i ≡ candidate inputs i
      same = kept i (inl least)

      none : Beating inputs (candidate inputs i) ≡ true
      none = (and_parts (is_eligible (candidate inputs i)) (Beating inputs (candidate inputs i)) (best-chosen inputs current i chosen)).1

      unbeaten : (k : ℕ) → is_eligible (candidate others k) ≡ true → (b : Bool) → beats (candidate others k) (candidate others i) ≡ b
          → beats (candidate others k) (candidate others i) ≡ false
      unbeaten k eligible false is = is
      unbeaten k eligible true is =
          let beaten : beats (candidate others k) (candidate inputs i) ≡ true = ap (beats (candidate others k)) (sym same) ∙ is in
          let one : candidate others k ≡ candidate inputs k = kept k (inr (beats-at_least place number (candidate others k) (candidate inputs i) least eligible beaten)) in
          absurd (true≢false (
          sym (ap (λ c. beats c (candidate inputs i)) (sym one) ∙ beaten)
          ∙ passes-false (λ other. beats other (candidate inputs i)) inputs k none (ap is_eligible (sym one) ∙ eligible)
          ))

      eligible_here : is_eligible (candidate others i) ≡ true
      eligible_here = ap is_eligible same ∙ least.eligible

      none_here : Beating others (candidate others i) ≡ true
      none_here = none_passes-true (λ other. beats other (candidate others i)) others (λ k within here. unbeaten k here (beats (candidate others k) (candidate others i)) refl)

      best : is_best others (candidate others i) ≡ true
      best = rw (eligible_here, none_here) refl

  -- and what is taken was taken before
  pub came : (current now : Option ℕ) (i : ℕ) → best_choice inputs current ≡ now → best_choice others now ≡ Some i → IsAtLeast place number (candidate others i)
      → now ≡ Some i
  came current now i before after least = now_is ∙ sym (sym after ∙ ap (best_choice others) now_is ∙ again)
    where
      same : candidate others i ≡ candidate inputs i
      same = kept i (inr least)

      eligible : is_eligible (candidate inputs i) ≡ true
      eligible = ap is_eligible (sym same) ∙ least.eligible

      chosen : IsChosen inputs least.level (best_choice inputs current)
      chosen = by-current inputs i least.level eligible (ap (λ (c : Candidate). c.level) (sym same) ∙ least.is) current

      parts : (is_eligible (candidate inputs chosen.place) ≡ true) × (Beating inputs (candidate inputs chosen.place) ≡ true)
      parts = and_parts (is_eligible (candidate inputs chosen.place)) (Beating inputs (candidate inputs chosen.place)) (best-chosen inputs current chosen.place chosen.is)

      least_there : IsAtLeast place number (candidate inputs chosen.place)
      least_there =
          unbeaten-at_least place number (candidate inputs chosen.place) (candidate inputs i) (subst (IsAtLeast place number) same least) parts.0
          (passes-false (λ other. beats other (candidate inputs chosen.place)) inputs i parts.1 eligible)

      again : best_choice others (Some chosen.place) ≡ Some chosen.place
      again = stays current chosen.place chosen.is least_there

      now_is : now ≡ Some chosen.place
      now_is = sym before ∙ chosen.is
