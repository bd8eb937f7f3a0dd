-- States and levels, and how many of them are alike.
use Rattle.std.proofs.Common.{◌≡◌, ◌≢◌, ◌≤◌, ◌<◌, ℕ, suc, ◌+◌, ◌-◌, Bool, true, false, nat_eq, cond, List, [], ◌∷◌, ◌++◌, length, set, refl, ap, ◌∙◌, arith, subst, get_or-set_other, length-set}
use Rattle.std.specs.Prelude.{slice_index_or}
use Rattle.std.proofs.lemmas.Bool.Decides.{nat_tests}
use Rattle.std.proofs.lemmas.List.{get_or-set_same}
use Rattle.std.proofs.lemmas.List.Sums.{get_or-le-sum_by, count_by-le-length, sum_by-set, sum_by-cons}
use Rattle.sync_ql.specs.declared.levels.Level.{Level}
use Rattle.sync_ql.specs.declared.levels.NetOption.{NetOption}
use Rattle.sync_ql.specs.declared.levels.NetOption.TheVariants.{I, II}
use Rattle.sync_ql.specs.Level.{do_not_use_of}
use Rattle.sync_ql.specs.Table.{levels_of}
use Rattle.sync_ql.specs.declared.rules.ClockState.{ClockState}
use Rattle.shown_words.specs.Sameness.{is_same_state}
use Rattle.sync_sweep.specs.private.Counts.{one_if, with_place, HasPlace}
use Rattle.sync_sweep.specs.private.CountsKept.{AreByPlace}

pub one-is : (b : Bool) → one_if b ≡ cond b 1 0
one-is true = refl
one-is false = refl

-- a state is a kind of state
abbrev pub is_kind : ClockState → ClockState → Bool
is_kind kind state = is_same_state state kind

-- 1 where it is
abbrev pub of_kind : ClockState → ClockState → ℕ
of_kind kind state = cond (is_kind kind state) 1 0

-- an option has few levels
few-levels : (option : NetOption) → length (levels_of option) ≤ 16
few-levels I = omega arith
few-levels II = omega arith

-- the last level of an option's table
pub last-place : (option : NetOption) → (do_not_use_of option).place ≡ length (levels_of option) - 1
last-place I = refl
last-place II = refl

pub few-places : (level : Level) → level.place < 16
few-places level = omega (arith, level.is_row, few-levels level.option)

-- 1 where a level has a place
abbrev pub at_place : ℕ → Level → ℕ
at_place place level = cond (nat_eq level.place place) 1 0

-- one more or less is counted at a place
pub by_place-more : (counts : List ℕ) (many : ℕ → ℕ) (here : ℕ) → AreByPlace counts many → here < 16
    → AreByPlace (set counts here (slice_index_or counts here 0 + 1)) (λ place. many place + cond (nat_eq here place) 1 0)
by_place-more counts many here all within = record {
  room = length-set counts here (slice_index_or counts here 0 + 1) ∙ all.room;
  each = λ place inside. at place inside (nat_eq here place) refl;
}
  where
    at : (place : ℕ) → place < 16 → (b : Bool) → nat_eq here place ≡ b → slice_index_or (set counts here (slice_index_or counts here 0 + 1)) place 0 ≡ many place + cond b 1 0
    at place inside true is =
        let same : here ≡ place = grind (arith, nat_tests) in
        subst (λ p. slice_index_or (set counts here (slice_index_or counts here 0 + 1)) p 0 ≡ many p + 1) same
        (get_or-set_same counts here (slice_index_or counts here 0 + 1) 0 (omega (arith, all.room, within)) ∙ ap (λ n. n + 1) (all.each here within))
    at place inside false is =
        let apart : place ≢ here = grind (arith, nat_tests) in
        get_or-set_other counts here place (slice_index_or counts here 0 + 1) 0 apart ∙ all.each place inside ∙ (let none : many place ≡ many place + 0 = omega arith in none)

pub by_place-less : (counts : List ℕ) (many : ℕ → ℕ) (here : ℕ) → AreByPlace counts many → here < 16
    → AreByPlace (set counts here (slice_index_or counts here 0 - 1)) (λ place. many place - cond (nat_eq here place) 1 0)
by_place-less counts many here all within = record {
  room = length-set counts here (slice_index_or counts here 0 - 1) ∙ all.room;
  each = λ place inside. at place inside (nat_eq here place) refl;
}
  where
    at : (place : ℕ) → place < 16 → (b : Bool) → nat_eq here place ≡ b → slice_index_or (set counts here (slice_index_or counts here 0 - 1)) place 0 ≡ many place - cond b 1 0
    at place inside true is =
        let same : here ≡ place = grind (arith, nat_tests) in
        subst (λ p. slice_index_or (set counts here (slice_index_or counts here 0 - 1)) p 0 ≡ many p - 1) same
        (get_or-set_same counts here (slice_index_or counts here 0 - 1) 0 (omega (arith, all.room, within)) ∙ ap (λ n. n - 1) (all.each here within))
    at place inside false is =
        let apart : place ≢ here = grind (arith, nat_tests) in
        get_or-set_other counts here place (slice_index_or counts here 0 - 1) 0 apart ∙ all.each place inside ∙ (let none : many place ≡ many place - 0 = omega arith in none)

-- they are counted alike
by_place-same : (counts : List ℕ) (many more : ℕ → ℕ) → AreByPlace counts many → ((place : ℕ) → many place ≡ more place) → AreByPlace counts more
by_place-same counts many more all same = record { room = all.room; each = λ place inside. all.each place inside ∙ same place }

-- no more have a place than there are
pub few-with : (levels : List Level) (place : ℕ) → with_place levels place ≤ length levels
few-with levels place = count_by-le-length (λ level. nat_eq level.place place) levels

-- another level at a place of the list
pub by_place-set : (levels : List Level) (i : ℕ) (level before : Level) (counts : List ℕ) → i < length levels → before ≡ slice_index_or levels i before → AreByPlace counts (with_place levels)
    → AreByPlace (set (set counts before.place (slice_index_or counts before.place 0 - 1)) level.place (slice_index_or (set counts before.place (slice_index_or counts before.place 0 - 1)) level.place 0 + 1))
    (with_place (set levels i level))
by_place-set levels i level before counts within is all =
    let less : List ℕ = set counts before.place (slice_index_or counts before.place 0 - 1) in
    let fewer = by_place-less counts (with_place levels) before.place all (few-places before) in
    by_place-same (set less level.place (slice_index_or less level.place 0 + 1))
    (λ place. with_place levels place - cond (nat_eq before.place place) 1 0 + cond (nat_eq level.place place) 1 0) (with_place (set levels i level))
    (by_place-more less (λ place. with_place levels place - cond (nat_eq before.place place) 1 0) level.place fewer (few-places level))
    (λ place. omega (arith, ap (at_place place) is, get_or-le-sum_by (at_place place) levels i before within, sum_by-set (at_place place) levels i level before within))

-- so the new count is no more than there are
pub few-then : (levels : List Level) (i : ℕ) (level before : Level) (counts : List ℕ) → i < length levels → before ≡ slice_index_or levels i before → AreByPlace counts (with_place levels)
    → slice_index_or (set counts before.place (slice_index_or counts before.place 0 - 1)) level.place 0 + 1 ≤ length levels
few-then levels i level before counts within is all =
    let less : List ℕ = set counts before.place (slice_index_or counts before.place 0 - 1) in
    let then = by_place-set levels i level before counts within is all in
    let count : ℕ = slice_index_or less level.place 0 + 1 in
    let here : slice_index_or (set less level.place count) level.place 0 ≡ count =
    get_or-set_same less level.place count 0 (omega (arith, few-places level, all.room, length-set counts before.place (slice_index_or counts before.place 0 - 1))) in
    omega (arith, here, then.each level.place (few-places level), few-with (set levels i level) level.place, length-set levels i level)

-- where a place is counted, a level has it
pub has-place : (levels : List Level) (place : ℕ) → 0 < with_place levels place → HasPlace levels place
has-place [] place some = absurd (omega (arith, some))
has-place (level ∷ levels) place some = of (nat_eq level.place place) refl (has-place levels place)
  where
    of : (b : Bool) → nat_eq level.place place ≡ b → (0 < with_place levels place → HasPlace levels place) → HasPlace (level ∷ levels) place
    of true is later = record { element = 0; within = omega arith; has = λ other. grind (arith, nat_tests) }
    of false is later =
        let none : at_place place level ≡ 0 = ap (λ b. cond b 1 0) is in
        let rest = later (omega (arith, some, none, sum_by-cons (at_place place) level levels)) in
        record { element = suc rest.element; within = omega (arith, rest.within); has = λ other. rest.has other }

-- a list with a level has a level
pub any-level : (levels : List Level) → 0 < length levels → (Level → ⊥) → ⊥
any-level [] some never = absurd (omega (arith, some))
any-level (level ∷ levels) some never = never level
