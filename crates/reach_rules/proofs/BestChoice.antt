-- Where an input may be taken, what is taken is no worse.
use Rattle.std.proofs.Common.{◌≡◌, ◌<◌, ◌≤◌, ◌⊎◌, ℕ, zero, suc, Bool, true, false, not, ◌&&◌, ◌||◌, nat_lt, nat_eq, List, ◌∷◌, length, position, Option, None, Some, IfSome, refl, ap, sym, subst, ◌∙◌, inl, inr, arith, zero-add}
use Rattle.std.specs.List.{list_all}
use Rattle.std.proofs.Math.Decide.{dec_lt}
use Rattle.std.proofs.lemmas.Bool.{and_parts, true≢false}
use Rattle.std.proofs.lemmas.Bool.Decides.{nat_tests}
use Rattle.std.proofs.lemmas.List.Folds.{list_all_at}
use Rattle.std.proofs.lemmas.List.FromFn.{get_or-map-range_with_len}
use Rattle.std.proofs.lemmas.List.Quantifiers.{position-Some}
use Rattle.std.proofs.lemmas.List.Recursion.{and_from_places}
use Rattle.std.proofs.lemmas.List.Sums.{fails_before_first}
use Rattle.sync_ql.specs.declared.levels.Level.{Level}
use Rattle.sync_ql.specs.declared.rules.Candidate.{Candidate}
use Rattle.sync_ql.specs.Level.{place_of, do_not_use_of, IsBetter}
use Rattle.sync_ql.specs.Condition.{failed_at}
use Rattle.sync_ql.specs.Switches.{Switches, is_locked}
use Rattle.sync_ql.specs.Selection.{candidate, is_above_do_not_use, is_eligible, is_better, beats, is_best, best_choice, manual_stands, standing_manual, choice}
use Rattle.sync_ql.specs.Moment.{Moment, Settings, signals_of, level_now, candidates_at, switches_at, selection_at}
use Rattle.sync_ql.proofs.Eligible.{nobody, eligible_within}
use Rattle.sync_ql.proofs.QuietMoments.{seen, seen_at, commanded, candidates_at-same, switches_at-cons, selection_at-cons, selection_at-within}

-- one place and priority number comes before another
abbrev pub ahead : ℕ → ℕ → ℕ → ℕ → Bool
ahead x p y q = nat_lt x y || nat_eq x y && nat_lt p q

not_ahead-trans : (x y z p q r : ℕ) → ahead x p y q ≡ false → ahead y q z r ≡ false → ahead x p z r ≡ false
not_ahead-trans x y z p q r first second = grind (arith, nat_tests)

ahead-not : (x y p q : ℕ) → ahead x p y q ≡ true → ahead y q x p ≡ false
ahead-not x y p q first = grind (arith, nat_tests)

not_ahead-self : (x p : ℕ) → ahead x p x p ≡ false
not_ahead-self x p = grind (arith, nat_tests)

-- an eligible candidate's level, and what beats what by levels
pub record HasLevel (c : Candidate) : Type 0 where
  pub level : Level
  pub is : c.level ≡ Some level

pub eligible-level : (c : Candidate) → is_eligible c ≡ true → HasLevel c
eligible-level c eligible = by c.level refl (and_parts c.usable (is_above_do_not_use c.level) eligible).1
  where
    by : (o : Option Level) → c.level ≡ o → is_above_do_not_use o ≡ true → HasLevel c
    by None is above = cc
    by (Some level) is above = record { level = level; is = is }

pub beats-by : (a b : Candidate) (x y : Level) → a.level ≡ Some x → b.level ≡ Some y → beats a b ≡ ahead (place_of x) a.priority (place_of y) b.priority
beats-by a b x y left right = rw (left, right) refl

beats-trans : (a b c : Candidate) → HasLevel a → HasLevel b → HasLevel c → beats a b ≡ false → beats b c ≡ false → beats a c ≡ false
beats-trans a b c x y z first second =
    beats-by a c x.level z.level x.is z.is
    ∙ not_ahead-trans (place_of x.level) (place_of y.level) (place_of z.level) a.priority b.priority c.priority
    (sym (beats-by a b x.level y.level x.is y.is) ∙ first) (sym (beats-by b c y.level z.level y.is z.is) ∙ second)

beats-not : (a b : Candidate) → HasLevel a → HasLevel b → beats a b ≡ true → beats b a ≡ false
beats-not a b x y first =
    beats-by b a y.level x.level y.is x.is
    ∙ ahead-not (place_of x.level) (place_of y.level) a.priority b.priority (sym (beats-by a b x.level y.level x.is y.is) ∙ first)

beats-self : (a : Candidate) → HasLevel a → beats a a ≡ false
beats-self a x = beats-by a a x.level x.level x.is x.is ∙ not_ahead-self (place_of x.level) a.priority

-- among the first n candidates one is eligible that no eligible one beats, or none is eligible
pub record IsBestOf (inputs : List Candidate) (n i : ℕ) : Type 0 where
  pub eligible : is_eligible (candidate inputs i) ≡ true
  pub unbeaten : (k : ℕ) → k < n → is_eligible (candidate inputs k) ≡ true → beats (candidate inputs k) (candidate inputs i) ≡ false

abbrev pub NoneOf : List Candidate → ℕ → Type 0
NoneOf inputs n = (k : ℕ) → k < n → is_eligible (candidate inputs k) ≡ false

best-of : (inputs : List Candidate) (n : ℕ) → NoneOf inputs n ⊎ ((i : ℕ) × IsBestOf inputs n i)
best-of inputs zero = inl (λ k within. absurd (omega (arith, within)))
best-of inputs (suc n) = by (is_eligible (candidate inputs n)) refl (best-of inputs n)
  where
    c : ℕ → Candidate
    c k = candidate inputs k

    level : (k : ℕ) → is_eligible (candidate inputs k) ≡ true → HasLevel (candidate inputs k)
    level k eligible = eligible-level (candidate inputs k) eligible

    last : (k : ℕ) (P : ℕ → Type 0) → k < suc n → (k < n → P k) → P n → P k
    last k P within early here = elim (dec_lt k n) [
      | yes before ↦ early before
      | no after ↦ let same : n ≡ k = omega (arith, within, after) in subst P same here
    ]

    beaten : (i : ℕ) → is_eligible (candidate inputs n) ≡ true → IsBestOf inputs n i → (b : Bool) → beats (candidate inputs n) (candidate inputs i) ≡ b
        → NoneOf inputs (suc n) ⊎ ((i : ℕ) × IsBestOf inputs (suc n) i)
    beaten i eligible best true is = inr (
      n,
      record {
        eligible = eligible;
        unbeaten = λ k within other. last k (λ k. is_eligible (candidate inputs k) ≡ true → beats (candidate inputs k) (candidate inputs n) ≡ false) within
            (λ before here. beats-trans (candidate inputs k) (candidate inputs i) (candidate inputs n) (level k here) (level i best.eligible) (level n eligible)
            (best.unbeaten k before here) (beats-not (candidate inputs n) (candidate inputs i) (level n eligible) (level i best.eligible) is))
            (λ here. beats-self (candidate inputs n) (level n eligible)) other;
      },
    )
    beaten i eligible best false is = inr (
      i,
      record {
        eligible = best.eligible;
        unbeaten = λ k within other. last k (λ k. is_eligible (candidate inputs k) ≡ true → beats (candidate inputs k) (candidate inputs i) ≡ false) within
            (λ before here. best.unbeaten k before here) (λ here. is) other;
      },
    )

    by : (b : Bool) → is_eligible (candidate inputs n) ≡ b → NoneOf inputs n ⊎ ((i : ℕ) × IsBestOf inputs n i)
        → NoneOf inputs (suc n) ⊎ ((i : ℕ) × IsBestOf inputs (suc n) i)
    by true eligible (inl none) = inr (
      n,
      record {
        eligible = eligible;
        unbeaten = λ k within other. last k (λ k. is_eligible (candidate inputs k) ≡ true → beats (candidate inputs k) (candidate inputs n) ≡ false) within
            (λ before here. absurd (true≢false (sym here ∙ none k before))) (λ here. beats-self (candidate inputs n) (level n eligible)) other;
      },
    )
    by true eligible (inr best) = beaten best.0 eligible best.1 (beats (candidate inputs n) (candidate inputs best.0)) refl
    by false other (inl none) = inl (λ k within. last k (λ k. is_eligible (candidate inputs k) ≡ false) within (none k) other)
    by false other (inr best) = inr (
      best.0,
      record {
        eligible = best.1.eligible;
        unbeaten = λ k within here. last k (λ k. is_eligible (candidate inputs k) ≡ true → beats (candidate inputs k) (candidate inputs best.0) ≡ false) within
            (best.1.unbeaten k) (λ eligible. absurd (true≢false (sym eligible ∙ other))) here;
      },
    )

-- no eligible candidate passes a test
pub none_passes-true : (test : Candidate → Bool) (inputs : List Candidate)
    → ((k : ℕ) → k < length inputs → is_eligible (candidate inputs k) ≡ true → test (candidate inputs k) ≡ false)
    → list_all (λ other. not (is_eligible other && test other)) inputs ≡ true
none_passes-true test inputs fails =
    and_from_places (list_all (λ other. not (is_eligible other && test other))) (λ other. not (is_eligible other && test other)) refl (λ x xs. refl) inputs nobody
    (λ k within. at k within (is_eligible (candidate inputs k)) refl)
  where
    at : (k : ℕ) → k < length inputs → (b : Bool) → is_eligible (candidate inputs k) ≡ b → not (is_eligible (candidate inputs k) && test (candidate inputs k)) ≡ true
    at k within true eligible = rw (eligible, fails k within eligible) refl
    at k within false not_eligible = rw not_eligible refl

pub passes-false : (test : Candidate → Bool) (inputs : List Candidate) (k : ℕ) → list_all (λ other. not (is_eligible other && test other)) inputs ≡ true
    → is_eligible (candidate inputs k) ≡ true → test (candidate inputs k) ≡ false
passes-false test inputs k none eligible = by (test (candidate inputs k)) refl
  where
    by : (b : Bool) → test (candidate inputs k) ≡ b → test (candidate inputs k) ≡ false
    by false is = is
    by true is = absurd (true≢false (sym none
        ∙ list_all_at (λ other. not (is_eligible other && test other)) inputs k nobody (eligible_within inputs k eligible) (rw (eligible, is) refl)))

-- a choice that is no worse than a level
pub record IsChosen (inputs : List Candidate) (level : Level) (chosen : Option ℕ) : Type 0 where
  pub place : ℕ
  pub is : chosen ≡ Some place
  pub which : Level
  pub has : (candidate inputs place).level ≡ Some which
  pub no_worse : place_of which ≤ place_of level

not_better : (a b : Candidate) (x y : Level) → a.level ≡ Some x → b.level ≡ Some y → is_better a.level b.level ≡ false → place_of y ≤ place_of x
not_better a b x y left right is =
    let here : nat_lt (place_of x) (place_of y) ≡ false = sym (rw (left, right) refl) ∙ is in grind (arith, nat_tests)

not_beaten : (a b : Candidate) → beats a b ≡ false → is_better a.level b.level ≡ false
not_beaten a b is = by (is_better a.level b.level) refl
  where
    by : (better : Bool) → is_better a.level b.level ≡ better → is_better a.level b.level ≡ false
    by false here = here
    by true here = absurd (true≢false (sym (rw here refl) ∙ is))

module _ (inputs : List Candidate) (i : ℕ) (level : Level) (eligible : is_eligible (candidate inputs i) ≡ true) (has : (candidate inputs i).level ≡ Some level) where
  by-best : (k : ℕ) (chosen : Option ℕ) → chosen ≡ Some k → is_best inputs (candidate inputs k) ≡ true → IsChosen inputs level chosen
  by-best k chosen is best =
      let parts = and_parts (is_eligible (candidate inputs k)) (list_all (λ other. not (is_eligible other && beats other (candidate inputs k))) inputs) best in
      let own = eligible-level (candidate inputs k) parts.0 in
      record {
        place = k;
        is = is;
        which = own.level;
        has = own.is;
        no_worse = not_better (candidate inputs i) (candidate inputs k) level own.level has own.is
            (not_beaten (candidate inputs i) (candidate inputs k) (passes-false (λ other. beats other (candidate inputs k)) inputs i parts.1 eligible));
      }

  found : (k : ℕ) × (position (is_best inputs) inputs ≡ Some k)
  found = by (best-of inputs (length inputs)) (position (is_best inputs) inputs) refl
    where
      by : NoneOf inputs (length inputs) ⊎ ((k : ℕ) × IsBestOf inputs (length inputs) k) → (o : Option ℕ) → position (is_best inputs) inputs ≡ o
          → (k : ℕ) × (o ≡ Some k)
      by best (Some k) is = (k, refl)
      by (inl none) None is = absurd (true≢false (sym eligible ∙ none i (eligible_within inputs i eligible)))
      by (inr (k, best)) None is =
          let all : list_all (λ other. not (is_eligible other && beats other (candidate inputs k))) inputs ≡ true =
          none_passes-true (λ other. beats other (candidate inputs k)) inputs (λ m within here. best.unbeaten m within here) in
          let is_best_here : is_best inputs (candidate inputs k) ≡ true = rw (best.eligible, all) refl in
          absurd (true≢false (sym is_best_here ∙ nowhere k (eligible_within inputs k best.eligible) is))
        where
          nowhere : (k : ℕ) → k < length inputs → position (is_best inputs) inputs ≡ None → is_best inputs (candidate inputs k) ≡ false
          nowhere k within none = fails_before_first (is_best inputs) inputs k nobody (grind (arith, nat_tests))

  by-first : (chosen : Option ℕ) → chosen ≡ position (is_best inputs) inputs → IsChosen inputs level chosen
  by-first chosen is = by-best found.0 chosen (is ∙ found.1) (position-Some (is_best inputs) inputs found.0 nobody found.1).1

  pub by-current : (current : Option ℕ) → IsChosen inputs level (best_choice inputs current)
  by-current None = by-first (best_choice inputs None) refl
  by-current (Some k) = by (is_best inputs (candidate inputs k)) refl
    where
      by : (b : Bool) → is_best inputs (candidate inputs k) ≡ b → IsChosen inputs level (best_choice inputs (Some k))
      by true best = by-best k (best_choice inputs (Some k)) (rw best refl) best
      by false other = by-first (best_choice inputs (Some k)) (rw other refl)

  by-manual : (manual current : Option ℕ) → IsChosen inputs level (choice inputs None (standing_manual inputs manual) current)
  by-manual manual current = by (manual_stands inputs manual) refl manual refl
    where
      falls : (o : Option ℕ) → o ≡ None → IsChosen inputs level (choice inputs None o current)
      falls o is = rw is (by-current current)

      by : (b : Bool) → manual_stands inputs manual ≡ b → (o : Option ℕ) → manual ≡ o → IsChosen inputs level (choice inputs None (standing_manual inputs manual) current)
      by false other o is = falls (standing_manual inputs manual) (rw other refl)
      by true stands None is = absurd (true≢false (sym (rw is at stands)))
      by true stands (Some k) is =
          let standing : standing_manual inputs manual ≡ Some k = rw stands is in
          let here : manual_stands inputs (Some k) ≡ true = ap (manual_stands inputs) (sym is) ∙ stands in
          let parts = and_parts (is_eligible (candidate inputs k)) (list_all (λ other. not (is_eligible other && is_better other.level (candidate inputs k).level)) inputs) here in
          let own = eligible-level (candidate inputs k) parts.0 in
          record {
            place = k;
            is = ap (λ o. choice inputs None o current) standing;
            which = own.level;
            has = own.is;
            no_worse = not_better (candidate inputs i) (candidate inputs k) level own.level has own.is
                (passes-false (λ other. is_better other.level (candidate inputs k).level) inputs i parts.1 eligible);
          }

-- the input that is selected after a past, and its level, no worse than this one
pub record IsSelectedNoWorse (settings : Settings) (past : List Moment) (level : Level) : Type 0 where
  pub place : ℕ
  pub selected : selection_at settings past ≡ Some place
  pub which : Level
  pub has : level_now place past ≡ Some which
  pub no_worse : place_of which ≤ place_of level

-- where no input is forced, what is selected is no worse than an input that may be taken
pub selected-no-worse : (settings : Settings) (now : Moment) (before : List Moment) (i : ℕ) (level : Level) → i < length settings.priorities
    → is_locked (switches_at settings (now ∷ before)) i ≡ false → (switches_at settings (now ∷ before)).forced ≡ None
    → failed_at settings.timers (signals_of i (now ∷ before)) ≡ false → level_now i (now ∷ before) ≡ Some level
    → IsBetter level (do_not_use_of level.option) → is_better settings.floor (Some level) ≡ false
    → IsSelectedNoWorse settings (now ∷ before) level
selected-no-worse settings now before i level within unlocked unforced good has above not_below = of chosen
  where
    past : List Moment
    past = now ∷ before

    s : Switches
    s = switches_at settings past

    inputs : List Candidate
    inputs = candidates_at settings s past

    at : (k : ℕ) → k < length settings.priorities → candidate inputs k ≡ seen settings s past k
    at k inside = get_or-map-range_with_len (seen settings s past) 0 (length settings.priorities) k k nobody inside (zero-add k)

    eligible : is_eligible (candidate inputs i) ≡ true
    eligible = ap is_eligible (at i within) ∙ by
      where
        above_here : is_above_do_not_use (Some level) ≡ true
        above_here = grind (arith, nat_tests)

        by : is_eligible (seen settings s past i) ≡ true
        by = rw (unlocked, good, has, not_below, above_here) refl

    has_here : (candidate inputs i).level ≡ Some level
    has_here = ap (λ (c : Candidate). c.level) (at i within) ∙ has

    stands : s ≡ record { locked = (commanded settings now before).locked; forced = (commanded settings now before).forced; manual = standing_manual (seen_at settings now before) (commanded settings now before).manual }
    stands = switches_at-cons settings now before

    same : inputs ≡ seen_at settings now before
    same = candidates_at-same settings (commanded settings now before) s past past (ap (λ (t : Switches). t.locked) stands) (λ k inside. refl) (λ k inside. refl)

    manual : s.manual ≡ standing_manual inputs (commanded settings now before).manual
    manual = ap (λ (t : Switches). t.manual) stands ∙ ap (λ c. standing_manual c (commanded settings now before).manual) (sym same)

    selection : selection_at settings past ≡ choice inputs None (standing_manual inputs (commanded settings now before).manual) (selection_at settings before)
    selection =
        selection_at-cons settings now before
        ∙ ap (λ forced. choice inputs forced s.manual (selection_at settings before)) unforced
        ∙ ap (λ m. choice inputs None m (selection_at settings before)) manual

    chosen : IsChosen inputs level (choice inputs None (standing_manual inputs (commanded settings now before).manual) (selection_at settings before))
    chosen = by-manual inputs i level eligible has_here (commanded settings now before).manual (selection_at settings before)

    of : IsChosen inputs level (choice inputs None (standing_manual inputs (commanded settings now before).manual) (selection_at settings before))
        → IsSelectedNoWorse settings past level
    of chosen = record {
      place = chosen.place;
      selected = selection ∙ chosen.is;
      which = chosen.which;
      has = sym (ap (λ (c : Candidate). c.level) (at chosen.place inside)) ∙ chosen.has;
      no_worse = chosen.no_worse;
    }
      where
        inside : chosen.place < length settings.priorities
        inside = subst (λ o. IfSome o (λ k. k < length settings.priorities)) (selection ∙ chosen.is) (selection_at-within settings now before)
