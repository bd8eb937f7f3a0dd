-- The times of objects, by their flags and their numbers in a tournament.
use Rattle.std.proofs.Common.{◌≡◌, ◌<◌, ℕ, ◌+◌, Bool, true, false, nat_eq, List, set, length, replicate, Option, None, Some, refl, ap, sym, ◌∙◌, arith, subst, get_or-set_other, length-set}
use Rattle.std.specs.Prelude.{slice_index_or, if◌then◌else◌, min, unwrap_or, is_some}
use Rattle.std.proofs.lemmas.Bool.Decides.{nat_tests}
use Rattle.std.proofs.lemmas.List.{ext_get_or, get_or_default, get_or-set_same, set-get_or, get_or-replicate, length-replicate}
use Rattle.std.proofs.lemmas.List.FromFn.{length-map-range_with_len, get_or-map-range_with_len}
use Rattle.agenda.specs.private.Tournament.{IsTournament, with_player}
use Rattle.agenda.specs.declared.due_times.TheConstants.{NEVER}
use Rattle.agenda.specs.DueTimes.{due_in}
use Rattle.agenda.specs.EarlierDue.{time_if, time_at, times_by}
use Rattle.agenda.specs.private.EarlierDue.{number_at}

-- a time for each flag, and which
pub length_times : (flags : List Bool) (rounds : List ℕ) → length (times_by flags rounds) ≡ length flags
length_times flags rounds = length-map-range_with_len (time_at flags rounds) 0 (length flags)

pub time_there : (flags : List Bool) (rounds : List ℕ) (i : ℕ) → i < length flags → due_in (times_by flags rounds) i ≡ time_at flags rounds i
time_there flags rounds i within = get_or-map-range_with_len (time_at flags rounds) 0 (length flags) i i None within (omega arith)

-- a tournament by the number of flags, and by that of times
pub of_times : (flags : List Bool) (rounds : List ℕ) (player : ℕ → ℕ) → IsTournament min NEVER (length flags) player rounds 0 → IsTournament min NEVER (length (times_by flags rounds)) player rounds 0
of_times flags rounds player all = subst (λ n. IsTournament min NEVER n player rounds 0) (sym (length_times flags rounds)) all

-- the time of an object whose number stands in the tournament, and of one that is given another
same_time : (b : Bool) (at : ℕ) → time_if b (unwrap_or (time_if b at) NEVER) ≡ time_if b at
same_time true at = refl
same_time false at = refl

new_time : (due : Option ℕ) → time_if (is_some due) (unwrap_or due NEVER) ≡ due
new_time None = refl
new_time (Some at) = refl

-- a flag and a number renewed renew the time
pub times-set : (flags : List Bool) (rounds rounds_then : List ℕ) (place : ℕ) (due : Option ℕ) → place < length flags
    → IsTournament min NEVER (length flags) (with_player (number_at (times_by flags rounds)) place (unwrap_or due NEVER)) rounds_then 0
    → times_by (set flags place (is_some due)) rounds_then ≡ set (times_by flags rounds) place due
times-set flags rounds rounds_then place due within all =
    ext_get_or None (times_by flags_then rounds_then) (set times place due)
    (length_times flags_then rounds_then ∙ length-set flags place (is_some due) ∙ sym (length_times flags rounds) ∙ sym (length-set times place due))
    (λ i inside. at i (omega (arith, inside, length_times flags_then rounds_then, length-set flags place (is_some due))) (nat_eq i place) refl)
  where
    times : List (Option ℕ)
    times = times_by flags rounds

    flags_then : List Bool
    flags_then = set flags place (is_some due)

    number : (i : ℕ) → i < length flags → slice_index_or rounds_then (length flags_then + i) 0 ≡ with_player (number_at times) place (unwrap_or due NEVER) i
    number i inside =
        ap (λ n. slice_index_or rounds_then (n + i) 0) (length-set flags place (is_some due))
        ∙ get_or_default rounds_then (length flags + i) 0 NEVER (omega (arith, inside, all.room)) ∙ all.players i inside

    there : (i : ℕ) → i < length flags → due_in (times_by flags_then rounds_then) i ≡ time_if (slice_index_or flags_then i false) (with_player (number_at times) place (unwrap_or due NEVER) i)
    there i inside =
        time_there flags_then rounds_then i (omega (arith, inside, length-set flags place (is_some due)))
        ∙ ap (λ at. time_if (slice_index_or flags_then i false) at) (number i inside)

    at : (i : ℕ) → i < length flags → (b : Bool) → nat_eq i place ≡ b → due_in (times_by flags_then rounds_then) i ≡ due_in (set times place due) i
    at i inside true is =
        let same : place ≡ i = grind (arith, nat_tests) in
        there i inside
        ∙ ap (λ b. time_if (slice_index_or flags_then i false) (if b then unwrap_or due NEVER else number_at times i)) is
        ∙ ap (λ b. time_if b (unwrap_or due NEVER)) (ap (λ j. slice_index_or flags_then j false) (sym same) ∙ get_or-set_same flags place (is_some due) false within)
        ∙ new_time due
        ∙ sym (ap (due_in (set times place due)) (sym same) ∙ get_or-set_same times place due None (omega (arith, within, length_times flags rounds)))
    at i inside false is =
        let apart : ¬ (i ≡ place) = grind (arith, nat_tests) in
        let here : due_in times i ≡ time_at flags rounds i = time_there flags rounds i inside in
        there i inside
        ∙ ap (λ b. time_if (slice_index_or flags_then i false) (if b then unwrap_or due NEVER else number_at times i)) is
        ∙ ap (λ b. time_if b (number_at times i)) (get_or-set_other flags place i (is_some due) false apart)
        ∙ ap (λ o. time_if (slice_index_or flags i false) (unwrap_or o NEVER)) here
        ∙ same_time (slice_index_or flags i false) (slice_index_or rounds (length flags + i) 0)
        ∙ sym (get_or-set_other times place i due None apart ∙ here)

-- a time renewed as it is
pub times-same : (flags : List Bool) (rounds : List ℕ) (place : ℕ) (due : Option ℕ) → place < length flags → time_at flags rounds place ≡ due → times_by flags rounds ≡ set (times_by flags rounds) place due
times-same flags rounds place due within is =
    sym (ap (set (times_by flags rounds) place) (sym (time_there flags rounds place within ∙ is)) ∙ set-get_or (times_by flags rounds) place None)

-- without a flag none is due
pub times-new : (n : ℕ) (rounds : List ℕ) → times_by (replicate n false) rounds ≡ replicate n None
times-new n rounds =
    ext_get_or None (times_by (replicate n false) rounds) (replicate n None)
    (size ∙ sym (length-replicate {A = Option ℕ} n None))
    (λ i inside. at i (omega (arith, inside, size)))
  where
    size : length (times_by (replicate n false) rounds) ≡ n
    size = length_times (replicate n false) rounds ∙ length-replicate n false

    at : (i : ℕ) → i < n → due_in (times_by (replicate n false) rounds) i ≡ due_in (replicate n None) i
    at i inside =
        time_there (replicate n false) rounds i (omega (arith, inside, length-replicate n false))
        ∙ ap (λ b. time_if b (slice_index_or rounds (length (replicate n false) + i) 0)) (get_or-replicate {A = Bool} n i false false inside)
        ∙ sym (get_or-replicate {A = Option ℕ} n i None None inside)
