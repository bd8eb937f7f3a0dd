-- What is due and therefore marked, and the marked places in order. This project's own.
use Rattle.std.specs.Prelude.{◌≡◌, ◌≤◌, ◌<◌, ◌⊎◌, ℕ, Bool, true, false, nat_eq, List, length, filter, slice_index_or, Option, None, IsSomeAnd}
use Rattle.std.specs.List.{All, IsDistinct, list_any, range_with_len}
use Rattle.agenda.specs.DueTimes.{due_in}

-- whether a place is marked
abbrev pub is_marked : List Bool → ℕ → Bool
is_marked flags k = slice_index_or flags k false

-- objects whose time has come are taken out and marked, and no others
pub record AreDueMarked (now : ℕ) (dues dues_then : List (Option ℕ)) (flags flags_then : List Bool) : Type 0
  where
    pub dues_count : length dues_then ≡ length dues
    pub flags_count : length flags_then ≡ length flags
    pub kept : (k : ℕ) → is_marked flags k ≡ true → is_marked flags_then k ≡ true
    -- one that isn't marked is due as it was
    pub left : (k : ℕ) → is_marked flags_then k ≡ false → due_in dues_then k ≡ due_in dues k
    -- one that is marked was marked before, or its time has come
    pub cause : (k : ℕ) → is_marked flags_then k ≡ true → (is_marked flags k ≡ true) ⊎ IsSomeAnd (due_in dues k) (λ at. at ≤ now)
    -- each is due as it was, or its time has come and it isn't due any more
    pub taken : (k : ℕ) → (due_in dues_then k ≡ due_in dues k) ⊎ ((due_in dues_then k ≡ None) × IsSomeAnd (due_in dues k) (λ at. at ≤ now))

-- just the marked places, each once, from the lowest on
pub record AreInOrder (flags : List Bool) (order : List ℕ) : Type 0 where
  pub marked : (k : ℕ) → list_any (nat_eq k) order ≡ is_marked flags k
  pub apart : IsDistinct nat_eq order
  pub within : All (λ k. k < length flags) order
  pub kept : order ≡ filter (is_marked flags) (range_with_len 0 (length flags))
