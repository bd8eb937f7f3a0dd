-- What the first of the best inputs decides.
use Rattle.std.proofs.Common.{◌≡◌, ◌<◌, ℕ, Bool, true, false, not, ◌&&◌, cond, nat_lt, List, length, position, Option, None, Some, refl, ap, ◌∙◌, arith}
use Rattle.std.proofs.lemmas.Bool.Decides.{nat_tests}
use Rattle.std.proofs.lemmas.List.Sums.{position_or_len_is}
use Rattle.sync_ql.specs.declared.rules.Candidate.{Candidate}
use Rattle.sync_ql.specs.Selection.{candidate, is_eligible, is_better, beats, is_best, best_choice}
use Rattle.selector.specs.private.Scanned.{IsFirstBest, IsFirstBestAt}
use Rattle.selector.proofs.Beating.{not_beats-trans, no_better-trans}
use Rattle.sync_ql.proofs.Eligible.{nobody, eligible_within}
use Rattle.selector.proofs.Eligible.{none_passes, none_passes-true, none_passes-false}

-- an input that the best one doesn't beat is beaten by none
unbeaten_by_best : (inputs : List Candidate) (i : ℕ) → IsFirstBestAt inputs (length inputs) i → (c : Candidate) → none_passes (λ other. beats other c) inputs ≡ not (beats (candidate inputs i) c)
unbeaten_by_best inputs i first c = of (beats (candidate inputs i) c) refl
  where
    of : (b : Bool) → beats (candidate inputs i) c ≡ b → none_passes (λ other. beats other c) inputs ≡ not (beats (candidate inputs i) c)
    of true beaten = none_passes-false (λ other. beats other c) inputs i first.eligible beaten ∙ rw beaten refl
    of false unbeaten =
        none_passes-true (λ other. beats other c) inputs
        (λ k eligible. not_beats-trans (candidate inputs k) (candidate inputs i) c first.eligible (first.unbeaten k (eligible_within inputs k eligible) eligible) unbeaten)
        ∙ rw unbeaten refl

-- where the best one's level isn't better than an input's, none is
pub none_better_than_best : (inputs : List Candidate) (i : ℕ) → IsFirstBestAt inputs (length inputs) i → (c : Candidate) → none_passes (λ other. is_better other.level c.level) inputs ≡ not (is_better (candidate inputs i).level c.level)
none_better_than_best inputs i first c = of (is_better (candidate inputs i).level c.level) refl
  where
    of : (b : Bool) → is_better (candidate inputs i).level c.level ≡ b → none_passes (λ other. is_better other.level c.level) inputs ≡ not (is_better (candidate inputs i).level c.level)
    of true better = none_passes-false (λ other. is_better other.level c.level) inputs i first.eligible better ∙ rw better refl
    of false not_better =
        none_passes-true (λ other. is_better other.level c.level) inputs
        (λ k eligible. no_better-trans (candidate inputs k) (candidate inputs i) c first.eligible (first.unbeaten k (eligible_within inputs k eligible) eligible) not_better)
        ∙ rw not_better refl

is_best-first : (inputs : List Candidate) (i : ℕ) → IsFirstBestAt inputs (length inputs) i → (c : Candidate) → is_best inputs c ≡ (is_eligible c && not (beats (candidate inputs i) c))
is_best-first inputs i first c = ap (λ b. is_eligible c && b) (unbeaten_by_best inputs i first c)

-- where no input within the list is eligible, none is
pub none_eligible : (inputs : List Candidate) → IsFirstBest inputs (length inputs) None → (k : ℕ) → is_eligible (candidate inputs k) ≡ false
none_eligible inputs none k = of (is_eligible (candidate inputs k)) refl
  where
    of : (b : Bool) → is_eligible (candidate inputs k) ≡ b → is_eligible (candidate inputs k) ≡ false
    of true eligible = none k (eligible_within inputs k eligible)
    of false not_eligible = not_eligible

-- it is the best input of least place
pub position-first : (inputs : List Candidate) (best : Option ℕ) → IsFirstBest inputs (length inputs) best → position (is_best inputs) inputs ≡ best
position-first inputs None none =
    let at = position_or_len_is (is_best inputs) inputs (length inputs) nobody (omega arith) (λ k within. rw (none k within) refl) (λ within. absurd (omega arith)) in
    ap (λ n. cond (nat_lt n (length inputs)) (Some n) None) at ∙ grind (arith, nat_tests)
position-first inputs (Some i) first =
    let at = position_or_len_is (is_best inputs) inputs i nobody (omega (arith, first.within)) earlier (λ within. here) in
    ap (λ n. cond (nat_lt n (length inputs)) (Some n) None) at ∙ (let within : i < length inputs = first.within in grind (arith, nat_tests))
  where
    here : is_best inputs (candidate inputs i) ≡ true
    here = is_best-first inputs i first (candidate inputs i) ∙ rw (first.eligible, first.unbeaten i first.within first.eligible) refl

    earlier : (k : ℕ) → k < i → is_best inputs (candidate inputs k) ≡ false
    earlier k before = of (is_eligible (candidate inputs k)) refl
      where
        of : (b : Bool) → is_eligible (candidate inputs k) ≡ b → is_best inputs (candidate inputs k) ≡ false
        of true eligible = is_best-first inputs i first (candidate inputs k) ∙ rw (eligible, first.beats_earlier k before eligible) refl
        of false not_eligible = rw not_eligible refl

-- the input taken so far stays where it is eligible and the best one doesn't beat it
abbrev pub is_good : List Candidate → ℕ → ℕ → Bool
is_good inputs i taken = is_eligible (candidate inputs taken) && not (beats (candidate inputs i) (candidate inputs taken))

pub stays : (inputs : List Candidate) (i taken : ℕ) → IsFirstBestAt inputs (length inputs) i → is_good inputs i taken ≡ true → best_choice inputs (Some taken) ≡ Some taken
stays inputs i taken first good = rw (is_best-first inputs i first (candidate inputs taken), good) refl

-- and else the best one is taken
pub first_taken : (inputs : List Candidate) (i taken : ℕ) → IsFirstBestAt inputs (length inputs) i → is_good inputs i taken ≡ false → best_choice inputs (Some taken) ≡ Some i
first_taken inputs i taken first bad = rw (is_best-first inputs i first (candidate inputs taken), bad) (position-first inputs (Some i) first)

-- or none, where none is eligible
pub none_taken : (inputs : List Candidate) (taken : Option ℕ) → IsFirstBest inputs (length inputs) None → best_choice inputs taken ≡ None
none_taken inputs None none = position-first inputs None none
none_taken inputs (Some taken) none = rw (none_eligible inputs none taken) (position-first inputs None none)
