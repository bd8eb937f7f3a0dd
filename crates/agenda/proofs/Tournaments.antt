-- Laws of a tournament, whoever plays.
use Rattle.std.proofs.Common.{◌≡◌, ◌≢◌, ◌≤◌, ◌<◌, ℕ, zero, suc, ◌+◌, ◌-◌, ◌*◌, ◌/◌, Bool, true, false, nat_eq, List, set, refl, sym, ◌∙◌, arith, subst, get_or-set_other, length-set}
use Rattle.std.specs.Prelude.{slice_index_or, if◌then◌else◌}
use Rattle.std.proofs.Math.Decide.{dec_lt}
use Rattle.std.proofs.lemmas.Bool.Decides.{nat_tests}
use Rattle.std.proofs.lemmas.List.{get_or-set_same}
use Rattle.agenda.specs.private.Tournament.{IsTournament}

-- only the players below their number count
pub same_players : {A : Type 0} (winner : A → A → A) (nobody : A) (n : ℕ) (player other : ℕ → A) (rounds : List A) → ((i : ℕ) → i < n → player i ≡ other i) → IsTournament winner nobody n player rounds 0 → IsTournament winner nobody n other rounds 0
same_players winner nobody n player other rounds same all = record {
  room = all.room;
  players = λ i within. all.players i within ∙ same i within;
  winners = all.winners;
}

-- the winner of the two after a place
abbrev pub winner_at : {A : Type 0} → (A → A → A) → A → List A → ℕ → A
winner_at winner nobody rounds k = winner (slice_index_or rounds (2 * k) nobody) (slice_index_or rounds (2 * k + 1) nobody)

-- the stale winner is found again: that of the next comparison is stale
pub with_winner : {A : Type 0} (winner : A → A → A) (nobody : A) (n : ℕ) (player : ℕ → A) (rounds : List A) (k : ℕ) → IsTournament winner nobody n player rounds k → 0 < k → k < n →
    IsTournament winner nobody n player (set rounds k (winner_at winner nobody rounds k)) (k / 2)
with_winner winner nobody n player rounds k all some within = record {
  room = length-set rounds k (winner_at winner nobody rounds k) ∙ all.room;
  players = λ i inside. get_or-set_other rounds k (n + i) (winner_at winner nobody rounds k) nobody (omega arith) ∙ all.players i inside;
  winners = λ j more inside apart. at j more inside apart (nat_eq j k) refl;
}
  where
    at : (j : ℕ) → 0 < j → j < n → j ≢ k / 2 → (b : Bool) → nat_eq j k ≡ b → slice_index_or (set rounds k (winner_at winner nobody rounds k)) j nobody ≡ winner (slice_index_or (set rounds k (winner_at winner nobody rounds k)) (2 * j) nobody) (slice_index_or (set rounds k (winner_at winner nobody rounds k)) (2 * j + 1) nobody)
    at j more inside apart true is =
        let same : k ≡ j = grind (arith, nat_tests) in
        subst (λ m. slice_index_or (set rounds k (winner_at winner nobody rounds k)) m nobody ≡ winner (slice_index_or (set rounds k (winner_at winner nobody rounds k)) (2 * m) nobody) (slice_index_or (set rounds k (winner_at winner nobody rounds k)) (2 * m + 1) nobody)) same
        (rw (get_or-set_same rounds k (winner_at winner nobody rounds k) nobody (omega (arith, all.room)), get_or-set_other rounds k (2 * k) (winner_at winner nobody rounds k) nobody (omega arith), get_or-set_other rounds k (2 * k + 1) (winner_at winner nobody rounds k) nobody (omega arith)) refl)
    at j more inside apart false is =
        let other : j ≢ k = grind (arith, nat_tests) in
        let left : 2 * j ≢ k = omega arith in
        let right : 2 * j + 1 ≢ k = omega arith in
        rw (get_or-set_other rounds k j (winner_at winner nobody rounds k) nobody other, get_or-set_other rounds k (2 * j) (winner_at winner nobody rounds k) nobody left, get_or-set_other rounds k (2 * j + 1) (winner_at winner nobody rounds k) nobody right)
        (all.winners j more inside other)

-- what is true of each player, and of the winner of any two of whom it is, is true of each winner
pub each_has : {A : Type 0} (winner : A → A → A) (nobody : A) (n : ℕ) (player : ℕ → A) (rounds : List A) (P : A → Type 0) → IsTournament winner nobody n player rounds 0 →
    ((i : ℕ) → i < n → P (player i)) → ((a b : A) → P a → P b → P (winner a b)) → (left k : ℕ) → n + n ≤ k + left → 0 < k → k < n + n → P (slice_index_or rounds k nobody)
each_has winner nobody n player rounds P all each keeps zero k enough some within = absurd (omega arith)
each_has winner nobody n player rounds P all each keeps (suc left) k enough some within =
    elim (dec_lt k n) [
      | yes inside ↦
          subst P (sym (all.winners k some inside (omega arith)))
          (keeps (slice_index_or rounds (2 * k) nobody) (slice_index_or rounds (2 * k + 1) nobody)
          (each_has winner nobody n player rounds P all each keeps left (2 * k) (omega arith) (omega arith) (omega arith))
          (each_has winner nobody n player rounds P all each keeps left (2 * k + 1) (omega arith) (omega arith) (omega arith)))
      | no beyond ↦
          let place : n + (k - n) ≡ k = omega arith in
          subst (λ j. P (slice_index_or rounds j nobody)) place
          (subst P (sym (all.players (k - n) (omega arith))) (each (k - n) (omega arith)))
    ]

-- what the winner has if one of the two has it, the last winner has if any has it
pub last_has : {A : Type 0} (winner : A → A → A) (nobody : A) (n : ℕ) (player : ℕ → A) (rounds : List A) (P Q : A → Type 0) → IsTournament winner nobody n player rounds 0 →
    ((k : ℕ) → 0 < k → k < n + n → P (slice_index_or rounds k nobody)) → ((a b : A) → P a → P b → Q a → Q (winner a b)) → ((a b : A) → P a → P b → Q b → Q (winner a b)) →
    (left k : ℕ) → k ≤ left → 0 < k → k < n + n → Q (slice_index_or rounds k nobody) → Q (slice_index_or rounds 1 nobody)
last_has winner nobody n player rounds P Q all has first second zero k enough some within here = absurd (omega arith)
last_has winner nobody n player rounds P Q all has first second (suc left) k enough some within here =
    elim (dec_lt 1 k) [
      | no last ↦ subst (λ j. Q (slice_index_or rounds j nobody)) (let e : k ≡ 1 = omega arith in e) here
      | yes more ↦
          last_has winner nobody n player rounds P Q all has first second left (k / 2) (omega arith) (omega arith) (omega arith)
          (subst Q (sym (all.winners (k / 2) (omega arith) (omega arith) (omega arith))) (up (k / 2) (omega arith) (omega arith) (omega arith)))
    ]
  where
    up : (j : ℕ) → 0 < j → 2 * j ≤ k → k ≤ 2 * j + 1 → Q (winner (slice_index_or rounds (2 * j) nobody) (slice_index_or rounds (2 * j + 1) nobody))
    up j more low high =
        let odd : 2 * j + 1 < n + n = omega arith in
        let left_has = has (2 * j) (omega arith) (omega arith) in
        let right_has = has (2 * j + 1) (omega arith) odd in
        elim (dec_lt (2 * j) k) [
          | yes right ↦ second (slice_index_or rounds (2 * j) nobody) (slice_index_or rounds (2 * j + 1) nobody) left_has right_has (subst (λ m. Q (slice_index_or rounds m nobody)) (let e : k ≡ 2 * j + 1 = omega arith in e) here)
          | no even ↦ first (slice_index_or rounds (2 * j) nobody) (slice_index_or rounds (2 * j + 1) nobody) left_has right_has (subst (λ m. Q (slice_index_or rounds m nobody)) (let e : k ≡ 2 * j = omega arith in e) here)
        ]

-- where the winner at a place is the one that stands there, none is stale
pub with_same : {A : Type 0} (winner : A → A → A) (nobody : A) (n : ℕ) (player : ℕ → A) (rounds : List A) (k : ℕ) → IsTournament winner nobody n player rounds k
    → slice_index_or rounds k nobody ≡ winner (slice_index_or rounds (2 * k) nobody) (slice_index_or rounds (2 * k + 1) nobody) → IsTournament winner nobody n player rounds 0
with_same winner nobody n player rounds k all same = record {
  room = all.room;
  players = all.players;
  winners = λ j more inside apart. at j more inside (nat_eq j k) refl;
}
  where
    at : (j : ℕ) → 0 < j → j < n → (b : Bool) → nat_eq j k ≡ b → slice_index_or rounds j nobody ≡ winner (slice_index_or rounds (2 * j) nobody) (slice_index_or rounds (2 * j + 1) nobody)
    at j more inside true is =
        let here : k ≡ j = grind (arith, nat_tests) in
        subst (λ m. slice_index_or rounds m nobody ≡ winner (slice_index_or rounds (2 * m) nobody) (slice_index_or rounds (2 * m + 1) nobody)) here same
    at j more inside false is =
        let other : j ≢ k = grind (arith, nat_tests) in
        all.winners j more inside other
