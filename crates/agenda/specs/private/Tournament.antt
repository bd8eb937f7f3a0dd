-- A tournament, in which each of n players is compared with one other at a time until one is left.
use Rattle.std.specs.Prelude.{◌≡◌, ◌≢◌, ◌<◌, ◌+◌, ◌*◌, ℕ, List, length, slice_index_or, nat_eq, if◌then◌else◌}

-- the rounds of a tournament of n players, in a list: the players stand from place n on, and before
-- them at each place from 1 the winner of the two at twice the place and after it; but the winner at
-- one place, `stale`, may still be an earlier one, and at place 0 there is none
pub record IsTournament {A : Type 0} (winner : A → A → A) (nobody : A) (n : ℕ) (player : ℕ → A) (rounds : List A) (stale : ℕ) : Type 0 where
  pub room : length rounds ≡ n + n
  pub players : (i : ℕ) → i < n → slice_index_or rounds (n + i) nobody ≡ player i
  pub winners : (k : ℕ) → 0 < k → k < n → k ≢ stale →
      slice_index_or rounds k nobody ≡ winner (slice_index_or rounds (2 * k) nobody) (slice_index_or rounds (2 * k + 1) nobody)

-- the players with another one at a place
abbrev pub with_player : {A : Type 0} → (ℕ → A) → ℕ → A → ℕ → A
with_player player i other k = if nat_eq k i then other else player k
