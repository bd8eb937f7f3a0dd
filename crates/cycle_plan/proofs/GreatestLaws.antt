-- The greatest amount of the ways into an element: with one way more, and without those of one number.
use Rattle.std.proofs.Common.{◌≡◌, ℕ, ◌<◌, ◌≤◌, Bool, true, false, nat_eq, nat_le, Option, Some, None, sym, ap, subst, ◌∙◌, inl, inr, arith, refl}
use Rattle.std.specs.Prelude.{◌≢◌, ◌⊎◌, max, if◌then◌else◌}
use Rattle.std.specs.Option.{option_map_or}
use Rattle.std.proofs.lemmas.Bool.{true≢false, cases_lt, leb-true, leb-false, eqb-true, eq-eqb}
use Rattle.std.proofs.lemmas.Option.{none-some, same_Some}
use Rattle.cycle_plan.specs.declared.greatest.Greatest.{Greatest}
use Rattle.cycle_plan.specs.private.Greatest.{no_greatest, has_number, greatest_but, raised_greatest, IsGreatestWay, IsBelow}

-- the number of the greatest amount, and one that isn't
has_number-Some : (greatest : Greatest) (number : ℕ) → has_number greatest number ≡ true → greatest.number ≡ Some number
has_number-Some greatest number is = cases greatest.number is
  where
    cases : (o : Option ℕ) → option_map_or (λ other. nat_eq other number) o false ≡ true → o ≡ Some number
    cases None none = absurd (true≢false (sym none))
    cases (Some other) same = ap (λ n. Some n) (eqb-true other number same)

has_number-other : (greatest : Greatest) (number : ℕ) → has_number greatest number ≡ false → greatest.number ≢ Some number
has_number-other greatest number never = cases greatest.number never
  where
    cases : (o : Option ℕ) → option_map_or (λ other. nat_eq other number) o false ≡ false → o ≢ Some number
    cases None e none = none-some number none
    cases (Some other) e same = true≢false (sym (eq-eqb other number (same_Some other number same)) ∙ e)

-- without a way in
pub IsGreatestWay-none : (IsWay : ℕ → ℕ → Type 0) → ((number amount : ℕ) → IsWay number amount → ⊥) → IsGreatestWay IsWay no_greatest
IsGreatestWay-none IsWay none = record {
  above = λ number amount way. absurd (none number amount way);
  above_others = λ number amount way. absurd (none number amount way);
  reached = inl refl;
  reached_by_others = inl refl;
}

-- over the same ways in
pub IsGreatestWay-same : (Before After : ℕ → ℕ → Type 0) (greatest : Greatest) → ((number amount : ℕ) → Before number amount → After number amount)
    → ((number amount : ℕ) → After number amount → Before number amount) → IsGreatestWay Before greatest → IsGreatestWay After greatest
IsGreatestWay-same Before After greatest stays stood is = record {
  above = λ number amount way. is.above number amount (stood number amount way);
  above_others = λ number amount way. is.above_others number amount (stood number amount way);
  reached = elim is.reached [
    | inl none ↦ inl none
    | inr some ↦ inr (some.0, stays some.0 greatest.most some.1, some.2)
  ];
  reached_by_others = elim is.reached_by_others [
    | inl none ↦ inl none
    | inr some ↦ inr (some.0, stays some.0 greatest.without some.1, some.2)
  ];
}

-- all ways in but those of a number come to no more, and one of them to as much
module _ (IsWay : ℕ → ℕ → Type 0) (greatest : Greatest) (number : ℕ) (is : IsGreatestWay IsWay greatest) where
  pub above-but : (other amount : ℕ) → IsWay other amount → other ≢ number → amount ≤ greatest_but greatest number
  above-but other amount way apart = cases (has_number greatest number) refl
    where
      cases : (same : Bool) → has_number greatest number ≡ same → amount ≤ (if same then greatest.without else greatest.most)
      cases true same = is.above_others other amount way (λ comes. apart (sym (same_Some _ _ (sym (has_number-Some greatest number same) ∙ comes))))
      cases false differs = is.above other amount way

  pub reached-but : (greatest_but greatest number ≡ 0) ⊎ ((other : ℕ) × IsWay other (greatest_but greatest number) × (other ≢ number))
  reached-but = cases (has_number greatest number) refl
    where
      cases : (same : Bool) → has_number greatest number ≡ same
          → ((if same then greatest.without else greatest.most) ≡ 0) ⊎ ((other : ℕ) × IsWay other (if same then greatest.without else greatest.most) × (other ≢ number))
      cases true same = elim is.reached_by_others [
        | inl none ↦ inl none
        | inr some ↦ inr (some.0, some.1, λ one. some.2 (has_number-Some greatest number same ∙ ap (λ n. Some n) (sym one)))
      ]
      cases false differs = elim is.reached [
        | inl none ↦ inl none
        | inr some ↦ inr (some.0, some.1, λ one. has_number-other greatest number differs (some.2 ∙ ap (λ n. Some n) one))
      ]

-- with one more way in, or more of no greater amounts by it
module _ (Before After : ℕ → ℕ → Type 0) (greatest : Greatest) (number new : ℕ) (last : After number new)
    (stays : (other amount : ℕ) → Before other amount → After other amount)
    (old_or_new : (other amount : ℕ) → After other amount → Before other amount ⊎ ((number ≡ other) × (amount ≤ new)))
    (is : IsGreatestWay Before greatest) where
  kept_most : (greatest.most ≡ 0) ⊎ ((other : ℕ) × After other greatest.most × (greatest.number ≡ Some other))
  kept_most = elim is.reached [
    | inl none ↦ inl none
    | inr some ↦ inr (some.0, stays some.0 greatest.most some.1, some.2)
  ]

  kept_without : (greatest.without ≡ 0) ⊎ ((other : ℕ) × After other greatest.without × (greatest.number ≢ Some other))
  kept_without = elim is.reached_by_others [
    | inl none ↦ inl none
    | inr some ↦ inr (some.0, stays some.0 greatest.without some.1, some.2)
  ]

  -- of the number of the greatest amount
  more_of_most : greatest.number ≡ Some number → IsGreatestWay After (record { number = greatest.number; most = max greatest.most new; without = greatest.without })
  more_of_most same = record {
    above = λ other amount way. elim (old_or_new other amount way) [
      | inl old ↦ let less = is.above other amount old in omega (arith, less)
      | inr one ↦ omega (arith, one.1)
    ];
    above_others = λ other amount way differs. elim (old_or_new other amount way) [
      | inl old ↦ is.above_others other amount old differs
      | inr one ↦ absurd (differs (same ∙ ap (λ n. Some n) one.0))
    ];
    reached = elim (cases_lt new greatest.most) [
      | inl low ↦
          let e : max greatest.most new ≡ greatest.most = omega (arith, low) in
          elim kept_most [
            | inl none ↦ inl (e ∙ none)
            | inr some ↦ inr (some.0, subst (λ m. After some.0 m) (sym e) some.1, some.2)
          ]
      | inr high ↦
          let e : max greatest.most new ≡ new = omega (arith, high) in
          inr (number, subst (λ m. After number m) (sym e) last, same)
    ];
    reached_by_others = kept_without;
  }

  -- of another number, and no less: the greatest so far is now that of the others
  new_most : greatest.number ≢ Some number → greatest.most ≤ new → IsGreatestWay After (record { number = Some number; most = new; without = greatest.most })
  new_most apart high = record {
    above = λ other amount way. elim (old_or_new other amount way) [
      | inl old ↦ let less = is.above other amount old in omega (arith, less, high)
      | inr one ↦ one.1
    ];
    above_others = λ other amount way differs. elim (old_or_new other amount way) [
      | inl old ↦ is.above other amount old
      | inr one ↦ absurd (differs (ap (λ n. Some n) one.0))
    ];
    reached = inr (number, last, refl);
    reached_by_others = elim kept_most [
      | inl none ↦ inl none
      | inr some ↦ inr (some.0, some.1, λ same. apart (some.2 ∙ sym same))
    ];
  }

  -- of another number, and no less than the others
  new_without : greatest.number ≢ Some number → new < greatest.most → greatest.without ≤ new
      → IsGreatestWay After (record { number = greatest.number; most = greatest.most; without = new })
  new_without apart low high = record {
    above = λ other amount way. elim (old_or_new other amount way) [
      | inl old ↦ is.above other amount old
      | inr one ↦ omega (arith, one.1, low)
    ];
    above_others = λ other amount way differs. elim (old_or_new other amount way) [
      | inl old ↦ let less = is.above_others other amount old differs in omega (arith, less, high)
      | inr one ↦ one.1
    ];
    reached = kept_most;
    reached_by_others = inr (number, last, apart);
  }

  -- below both
  below_both : new < greatest.most → new < greatest.without → IsGreatestWay After greatest
  below_both low lower = record {
    above = λ other amount way. elim (old_or_new other amount way) [
      | inl old ↦ is.above other amount old
      | inr one ↦ omega (arith, one.1, low)
    ];
    above_others = λ other amount way differs. elim (old_or_new other amount way) [
      | inl old ↦ is.above_others other amount old differs
      | inr one ↦ omega (arith, one.1, lower)
    ];
    reached = kept_most;
    reached_by_others = kept_without;
  }

  pub IsGreatestWay-raised : IsGreatestWay After (raised_greatest greatest number new)
  IsGreatestWay-raised = cases (has_number greatest number) (nat_le greatest.most new) (nat_le greatest.without new) refl refl refl
    where
      cases : (a b c : Bool) → has_number greatest number ≡ a → nat_le greatest.most new ≡ b → nat_le greatest.without new ≡ c
          → IsGreatestWay After
          (if a then record { number = greatest.number; most = max greatest.most new; without = greatest.without }
          else if b then record { number = Some number; most = new; without = greatest.most }
          else if c then record { number = greatest.number; most = greatest.most; without = new } else greatest)
      cases true b c same high other = more_of_most (has_number-Some greatest number same)
      cases false true c apart high other = new_most (has_number-other greatest number apart) (leb-true _ _ high)
      cases false false true apart high other = new_without (has_number-other greatest number apart) (leb-false _ _ high) (leb-true _ _ other)
      cases false false false apart high other = below_both (leb-false _ _ high) (leb-false _ _ other)

-- the amounts stay below a bound
pub IsBelow-raised : (greatest : Greatest) (number amount bound : ℕ) → IsBelow greatest bound → amount ≤ bound → IsBelow (raised_greatest greatest number amount) bound
IsBelow-raised greatest number amount bound below low = cases (has_number greatest number) (nat_le greatest.most amount) (nat_le greatest.without amount)
  where
    Raised : Bool → Bool → Bool → Greatest
    Raised a b c =
        if a then record { number = greatest.number; most = max greatest.most amount; without = greatest.without }
        else if b then record { number = Some number; most = amount; without = greatest.most }
        else if c then record { number = greatest.number; most = greatest.most; without = amount } else greatest

    cases : (a b c : Bool) → IsBelow (Raised a b c) bound
    cases true b c = record { most = omega (arith, below.most, low); without = below.without }
    cases false true c = record { most = low; without = below.most }
    cases false false true = record { most = below.most; without = low }
    cases false false false = below

pub IsBelow-more : (greatest : Greatest) (bound more : ℕ) → bound ≤ more → IsBelow greatest bound → IsBelow greatest more
IsBelow-more greatest bound more low below = record { most = omega (arith, below.most, low); without = omega (arith, below.without, low) }

pub below-but : (greatest : Greatest) (number bound : ℕ) → IsBelow greatest bound → greatest_but greatest number ≤ bound
below-but greatest number bound below = cases (has_number greatest number)
  where
    cases : (same : Bool) → (if same then greatest.without else greatest.most) ≤ bound
    cases true = below.without
    cases false = below.most
