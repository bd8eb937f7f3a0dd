-- The choice without a switch, in facts.
use Rattle.std.proofs.Common.{◌≡◌, ◌<◌, ◌≤◌, ℕ, Bool, true, false, not, List, length, Option, None, Some, IfSome, refl, arith}
use Rattle.std.proofs.Math.Decide.{dec_lt}
use Rattle.std.proofs.lemmas.Bool.{and_parts, not-true}
use Rattle.sync_ql.specs.declared.rules.Candidate.{Candidate}
use Rattle.sync_ql.specs.Selection.{candidate, is_eligible, beats, best_choice, IsEligible, IsBest, IsBestChoice}
use Rattle.selector.specs.private.Scanned.{IsFirstBest, IsFirstBestAt}
use Rattle.selector.proofs.Beating.{not_beats-trans}
use Rattle.sync_ql.proofs.Eligible.{eligible_within}
use Rattle.selector.proofs.FirstBest.{is_good, none_eligible, position-first, stays, first_taken, none_taken}

first_is_best : (inputs : List Candidate) (i : ℕ) → IsFirstBestAt inputs (length inputs) i → IsBest inputs i
first_is_best inputs i first = record {
  eligible = first.eligible;
  unbeaten = λ k eligible beaten. let not_beaten = first.unbeaten k (eligible_within inputs k eligible) eligible in cc;
}

-- an eligible input that the first of the best doesn't beat is best
unbeaten_is_best : (inputs : List Candidate) (i k : ℕ) → IsFirstBestAt inputs (length inputs) i → is_eligible (candidate inputs k) ≡ true → beats (candidate inputs i) (candidate inputs k) ≡ false → IsBest inputs k
unbeaten_is_best inputs i k first eligible unbeaten = record {
  eligible = eligible;
  unbeaten = λ other other_eligible beaten.
      let not_beaten = not_beats-trans (candidate inputs other) (candidate inputs i) (candidate inputs k) first.eligible (first.unbeaten other (eligible_within inputs other other_eligible) other_eligible) unbeaten in cc;
}

-- and each that is best is so
best_is_good : (inputs : List Candidate) (i k : ℕ) → IsFirstBestAt inputs (length inputs) i → IsBest inputs k → is_good inputs i k ≡ true
best_is_good inputs i k first best = of (beats (candidate inputs i) (candidate inputs k)) refl
  where
    of : (b : Bool) → beats (candidate inputs i) (candidate inputs k) ≡ b → is_good inputs i k ≡ true
    of true beaten = absurd (best.unbeaten i first.eligible beaten)
    of false unbeaten = rw (best.eligible, unbeaten) refl

-- no best input stands before the first
first_is_least : (inputs : List Candidate) (i k : ℕ) → IsFirstBestAt inputs (length inputs) i → IsBest inputs k → i ≤ k
first_is_least inputs i k first best =
    elim (dec_lt k i) [
      | yes before ↦ absurd (best.unbeaten i first.eligible (first.beats_earlier k before best.eligible))
      | no after ↦ omega arith
    ]

pub IsBestChoice-best_choice : (inputs : List Candidate) (best taken : Option ℕ) → IsFirstBest inputs (length inputs) best → IsBestChoice inputs taken (best_choice inputs taken)
IsBestChoice-best_choice inputs None taken none =
    rw (none_taken inputs taken none) (record {
      best = tt;
      none = λ is i eligible. let not_eligible = none_eligible inputs none i in cc;
      taken_stays = never_best taken;
      least = λ other. tt;
    })
  where
    never_best : (c : Option ℕ) → IfSome c (λ i. IsBest inputs i → None ≡ Some i)
    never_best None = tt
    never_best (Some i) = λ best. let not_eligible = none_eligible inputs none i in let eligible = best.eligible in absurd (cc)
IsBestChoice-best_choice inputs (Some i) None first =
    rw (position-first inputs (Some i) first) (record {
      best = first_is_best inputs i first;
      none = λ is. absurd (cc);
      taken_stays = tt;
      least = λ other k best. first_is_least inputs i k first best;
    })
IsBestChoice-best_choice inputs (Some i) (Some taken) first = of (is_good inputs i taken) refl
  where
    of : (b : Bool) → is_good inputs i taken ≡ b → IsBestChoice inputs (Some taken) (best_choice inputs (Some taken))
    of true good =
        let parts = and_parts (is_eligible (candidate inputs taken)) (not (beats (candidate inputs i) (candidate inputs taken))) good in
        rw (stays inputs i taken first good) (record {
          best = unbeaten_is_best inputs i taken first parts.0 (not-true (beats (candidate inputs i) (candidate inputs taken)) parts.1);
          none = λ is. absurd (cc);
          taken_stays = λ best. refl;
          least = λ other. absurd (other refl);
        })
    of false bad =
        rw (first_taken inputs i taken first bad) (record {
          best = first_is_best inputs i first;
          none = λ is. absurd (cc);
          taken_stays = λ best. let good = best_is_good inputs i taken first best in absurd (cc);
          least = λ other k best. first_is_least inputs i k first best;
        })

-- the input that is taken is eligible
pub eligible_choice : (inputs : List Candidate) (taken answer : Option ℕ) → IsBestChoice inputs taken answer → IfSome answer (IsEligible inputs)
eligible_choice inputs taken None is = tt
eligible_choice inputs taken (Some i) is = is.best.eligible

-- and one of the inputs
pub place_choice : (inputs : List Candidate) (taken answer : Option ℕ) → IsBestChoice inputs taken answer → IfSome answer (λ i. i < length inputs)
place_choice inputs taken None is = tt
place_choice inputs taken (Some i) is = eligible_within inputs i is.best.eligible
