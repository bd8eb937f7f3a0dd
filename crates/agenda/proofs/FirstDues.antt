-- The first of the times at which running times end.
use Rattle.std.proofs.Common.{◌≡◌, ◌≤◌, ◌<◌, ℕ, ◌+◌, ◌*◌, Bool, true, false, nat_eq, cond, List, set, length, replicate, Option, None, Some, IfSome, refl, ap, sym, ◌∙◌, arith, subst, get_or-set_other, length-set}
use Rattle.std.specs.Prelude.{slice_index_or, if◌then◌else◌, min, unwrap_or, is_some}
use Rattle.std.proofs.Math.Decide.{dec_le, dec_lt}
use Rattle.std.proofs.Math.Nat.{min-le_left, min-le_right, min-eq_left, min-eq_right}
use Rattle.std.proofs.lemmas.Bool.Decides.{nat_tests}
use Rattle.std.proofs.lemmas.List.{get_or-set_same, get_or-replicate, get_or_past, length-replicate}
use Rattle.std.proofs.lemmas.List.Folds.{sum_by-replicate}
use Rattle.std.proofs.lemmas.List.Sums.{get_or-le-sum_by, count_by-le-length, sum_by-set}
use Rattle.agenda.specs.private.Tournament.{IsTournament, with_player}
use Rattle.agenda.proofs.Tournaments.{same_players, each_has, last_has}
use Rattle.agenda.specs.declared.due_times.Due.{Due}
use Rattle.agenda.specs.declared.due_times.TheConstants.{NEVER}
use Rattle.agenda.specs.DueTimes.{due_in, due_count, IsFirst, IsFirstTime, AreLater}
use Rattle.agenda.specs.EarlierDue.{times_by}
use Rattle.agenda.specs.private.EarlierDue.{number_at, IsListed}
use Rattle.agenda.proofs.KeptTimes.{length_times, times-new, times-set}

-- 1 for an object that is due
abbrev pub one_if_due : Option ℕ → ℕ
one_if_due due = cond (is_some due) 1 0

-- no winner's number is greater than a player's
pub last_least : (n : ℕ) (players : ℕ → ℕ) (rounds : List ℕ) → IsTournament min NEVER n players rounds 0 → (i : ℕ) → i < n → slice_index_or rounds 1 NEVER ≤ players i
last_least n players rounds all i within =
    let here : slice_index_or rounds (n + i) NEVER ≡ players i = all.players i within in
    last_has min NEVER n players rounds (λ a. Unit {0}) (λ a. a ≤ players i) all (λ k some inside. tt)
    (λ a b _ _ is. omega (arith, is, min-le_left a b)) (λ a b _ _ is. omega (arith, is, min-le_right a b))
    (n + n) (n + i) (omega arith) (omega arith) (omega arith) (omega (arith, here))

-- the winner of two is one of them
pub one_wins : (n : ℕ) (players : ℕ → ℕ) (rounds : List ℕ) (k first : ℕ) → IsTournament min NEVER n players rounds 0 → 0 < k → k < n → slice_index_or rounds k NEVER ≡ first
    → ¬ (slice_index_or rounds (2 * k) NEVER ≡ first) → slice_index_or rounds (2 * k + 1) NEVER ≡ first
one_wins n players rounds k first all some within is other =
    let left : ℕ = slice_index_or rounds (2 * k) NEVER in
    let right : ℕ = slice_index_or rounds (2 * k + 1) NEVER in
    let winner : min left right ≡ first = sym (all.winners k some within (omega arith)) ∙ is in
    elim (dec_le left right) [
      | yes low ↦ absurd (other (sym (min-eq_left low) ∙ winner))
      | no high ↦ sym (min-eq_right (omega (arith, high))) ∙ winner
    ]

-- an object's number is its time, where it isn't the last number
of_number : (o : Option ℕ) (at : ℕ) → ¬ (at ≡ NEVER) → unwrap_or o NEVER ≡ at → o ≡ Some at
of_number None at apart is = absurd (apart (sym is))
of_number (Some time) at apart is = ap Some is

-- no time is less than a number that is least
no_less : (o : Option ℕ) (at : ℕ) → at ≤ unwrap_or o NEVER → IfSome o (λ other. at ≤ other)
no_less None at least = tt
no_less (Some time) at least = least

-- the place that has the last winner's number is the first that is due
pub is_first : (times : List (Option ℕ)) (rounds : List ℕ) (at place : ℕ) → IsTournament min NEVER (length times) (number_at times) rounds 0
    → slice_index_or rounds 1 NEVER ≡ at → ¬ (at ≡ NEVER) → place < length times → number_at times place ≡ slice_index_or rounds 1 NEVER
    → IsFirst times (record { at = at; place = place })
is_first times rounds at place all last apart within is = record {
  within = within;
  ends = of_number (due_in times place) at apart (is ∙ last);
  first = λ i inside. no_less (due_in times i) at (omega (arith, last_least (length times) (number_at times) rounds all i inside, last));
}

-- some player has the last winner's number
some_has : (n : ℕ) (players : ℕ → ℕ) (rounds : List ℕ) → IsTournament min NEVER n players rounds 0 → 0 < n → (i : ℕ) × (i < n) × (players i ≡ slice_index_or rounds 1 NEVER)
some_has n players rounds all some =
    each_has min NEVER n players rounds (λ a. (i : ℕ) × (i < n) × (players i ≡ a)) all
    (λ i within. (i, within, refl))
    (λ a b one other. elim (dec_le a b) [
      | yes low ↦ subst (λ m. (i : ℕ) × (i < n) × (players i ≡ m)) (sym (min-eq_left low)) one
      | no high ↦ subst (λ m. (i : ℕ) × (i < n) × (players i ≡ m)) (sym (min-eq_right (omega (arith, high)))) other
    ])
    (n + n) 1 (omega arith) (omega arith) (omega arith)

-- the last winner's number is the first time
pub is_first_time : (times : List (Option ℕ)) (rounds : List ℕ) (at : ℕ) → IsTournament min NEVER (length times) (number_at times) rounds 0
    → slice_index_or rounds 1 NEVER ≡ at → ¬ (at ≡ NEVER) → 0 < length times → IsFirstTime times at
is_first_time times rounds at all last apart some =
    let found : (i : ℕ) × (i < length times) × (number_at times i ≡ slice_index_or rounds 1 NEVER) = some_has (length times) (number_at times) rounds all some in
    record {
      some = (found.0, found.1, of_number (due_in times found.0) at apart (found.2 ∙ last));
      first = λ i inside. no_less (due_in times i) at (omega (arith, last_least (length times) (number_at times) rounds all i inside, last));
    }

-- so is any that is due, where the last winner has the last number
pub is_last : (times : List (Option ℕ)) (rounds : List ℕ) (due : Due) → IsTournament min NEVER (length times) (number_at times) rounds 0
    → slice_index_or rounds 1 NEVER ≡ NEVER → IsListed times due → IsFirst times due
is_last times rounds due all last listed = record {
  within = listed.within;
  ends = listed.ends;
  first = λ i inside. no_less (due_in times i) due.at (omega (arith, last_least (length times) (number_at times) rounds all i inside, last, listed.in_range));
}

-- where none is counted, none is due
pub none_due : (times : List (Option ℕ)) → due_count times ≡ 0 → (i : ℕ) → i < length times → due_in times i ≡ None
none_due times zero i within = of (due_in times i) (omega (arith, zero, get_or-le-sum_by one_if_due times i None within))
  where
    of : (o : Option ℕ) → one_if_due o ≤ 0 → o ≡ None
    of None is = refl
    of (Some at) is = absurd (omega (arith, is))

-- no more are due than there are
pub few_due : (times : List (Option ℕ)) → due_count times ≤ length times
few_due times = count_by-le-length is_some times

-- one that is due is counted
pub counted_due : (times : List (Option ℕ)) (i : ℕ) → i < length times → one_if_due (due_in times i) ≤ due_count times
counted_due times i within = get_or-le-sum_by one_if_due times i None within

-- the count where a time is renewed
pub count-set : (times : List (Option ℕ)) (i : ℕ) (due : Option ℕ) → i < length times → due_count (set times i due) + one_if_due (due_in times i) ≡ due_count times + one_if_due due
count-set times i due within = sum_by-set one_if_due times i due None within

-- a time renewed at a place
number_at-set : (times : List (Option ℕ)) (i k : ℕ) (due : Option ℕ) → i < length times → with_player (number_at times) i (unwrap_or due NEVER) k ≡ number_at (set times i due) k
number_at-set times i k due within = of (nat_eq k i) refl
  where
    of : (b : Bool) → nat_eq k i ≡ b → (if b then unwrap_or due NEVER else number_at times k) ≡ number_at (set times i due) k
    of true is =
        let same : i ≡ k = grind (arith, nat_tests) in
        subst (λ j. unwrap_or due NEVER ≡ number_at (set times i due) j) same (sym (ap (λ o. unwrap_or o NEVER) (get_or-set_same times i due None within)))
    of false is =
        let apart : ¬ (k ≡ i) = grind (arith, nat_tests) in
        sym (ap (λ o. unwrap_or o NEVER) (get_or-set_other times i k due None apart))

pub tournament-set : (n : ℕ) (times : List (Option ℕ)) (rounds : List ℕ) (i : ℕ) (due : Option ℕ) → i < length times → IsTournament min NEVER n (with_player (number_at times) i (unwrap_or due NEVER)) rounds 0 → IsTournament min NEVER n (number_at (set times i due)) rounds 0
tournament-set n times rounds i due within all = same_players min NEVER n (with_player (number_at times) i (unwrap_or due NEVER)) (number_at (set times i due)) rounds (λ k inside. number_at-set times i k due within) all

abbrev no_time : Option ℕ
no_time = None

none_there : (m k : ℕ) → k < m → slice_index_or (replicate m NEVER) k NEVER ≡ NEVER
none_there m k within = get_or-replicate {A = ℕ} m k NEVER NEVER within

pub tournament-new : (n : ℕ) → IsTournament min NEVER n (number_at (replicate n no_time)) (replicate (n + n) NEVER) 0
tournament-new n = record {
  room = length-replicate (n + n) NEVER;
  players = λ i within. none_there (n + n) (n + i) (omega arith) ∙ sym (ap (λ o. unwrap_or o NEVER) (get_or-replicate {A = Option ℕ} n i None None within));
  winners = λ k some within apart.
      rw (none_there (n + n) k (omega arith), none_there (n + n) (2 * k) (omega arith), none_there (n + n) (2 * k + 1) (omega arith)) refl;
}

pub kept-new : (n : ℕ) (flags : List Bool) (rounds : List ℕ) → flags ≡ replicate n false → rounds ≡ replicate (n + n) NEVER → IsTournament min NEVER (length flags) (number_at (times_by flags rounds)) rounds 0
kept-new n flags rounds flags_are rounds_are =
    subst (λ list. IsTournament min NEVER (length list) (number_at (times_by list rounds)) rounds 0) (sym flags_are)
    (subst (λ m. IsTournament min NEVER m (number_at (times_by (replicate n false) rounds)) rounds 0) (sym (length-replicate n false))
    (subst (λ times. IsTournament min NEVER n (number_at times) rounds 0) (sym (times-new n rounds))
    (subst (λ list. IsTournament min NEVER n (number_at (replicate n no_time)) list 0) (sym rounds_are) (tournament-new n))))

-- a flag and a number renewed
pub kept-set : (flags : List Bool) (rounds rounds_then : List ℕ) (place : ℕ) (due : Option ℕ) → place < length flags
    → IsTournament min NEVER (length flags) (with_player (number_at (times_by flags rounds)) place (unwrap_or due NEVER)) rounds_then 0
    → IsTournament min NEVER (length (set flags place (is_some due))) (number_at (times_by (set flags place (is_some due)) rounds_then)) rounds_then 0
kept-set flags rounds rounds_then place due within all =
    subst (λ m. IsTournament min NEVER m (number_at (times_by (set flags place (is_some due)) rounds_then)) rounds_then 0) (sym (length-set flags place (is_some due)))
    (subst (λ times. IsTournament min NEVER (length flags) (number_at times) rounds_then 0) (sym (times-set flags rounds rounds_then place due within all))
    (tournament-set (length flags) (times_by flags rounds) rounds_then place due (omega (arith, within, length_times flags rounds)) all))

-- none of new ones is counted
pub count-new : (n : ℕ) → due_count (replicate n no_time) ≡ 0
count-new n = sum_by-replicate one_if_due n no_time ∙ (let none : n * 0 ≡ 0 = omega arith in none)

-- where the last winner's number is later, so are all times
pub all_later : (times : List (Option ℕ)) (rounds : List ℕ) (now : ℕ) → IsTournament min NEVER (length times) (number_at times) rounds 0 → now < slice_index_or rounds 1 NEVER → AreLater now times
all_later times rounds now all later i = elim (dec_lt i (length times)) [
  | yes within ↦ of (due_in times i) (omega (arith, last_least (length times) (number_at times) rounds all i within, later))
  | no beyond ↦ rw (get_or_past times i None (omega (arith, beyond))) tt
]
  where
    of : (o : Option ℕ) → now < unwrap_or o NEVER → IfSome o (λ due. now < due)
    of None less = tt
    of (Some at) less = less
