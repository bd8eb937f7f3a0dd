-- When each object is due, by place. This project's own.
use Rattle.std.specs.Prelude.{◌≡◌, ◌≤◌, ◌<◌, ℕ, List, length, slice_index_or, slice_set, Option, None, Some, is_some, IfSome, IsSomeAnd}
use Rattle.std.specs.List.{count_by}
use Rattle.agenda.specs.declared.due_times.Due.{Due}

-- when the object at a place is due
abbrev pub due_in : List (Option ℕ) → ℕ → Option ℕ
due_in times i = slice_index_or times i None

-- how many objects are due at some time
abbrev pub due_count : List (Option ℕ) → ℕ
due_count times = count_by is_some times

-- no object is due before this one
pub record IsFirst (times : List (Option ℕ)) (due : Due) : Type 0 where
  pub within : due.place < length times
  pub ends : due_in times due.place ≡ Some due.at
  pub first : (i : ℕ) → i < length times → IfSome (due_in times i) (λ other. due.at ≤ other)

-- an object is due then, and none before
pub record IsFirstTime (times : List (Option ℕ)) (at : ℕ) : Type 0 where
  pub some : (i : ℕ) × (i < length times) × (due_in times i ≡ Some at)
  pub first : (i : ℕ) → i < length times → IfSome (due_in times i) (λ other. at ≤ other)

-- the object at a place was due now or before, and isn't due any more; the others are due as they were
pub record IsTaken (now : ℕ) (before after : List (Option ℕ)) (place : ℕ) : Type 0 where
  pub within : place < length before
  pub due : IsSomeAnd (due_in before place) (λ at. at ≤ now)
  pub taken : after ≡ slice_set before place None

-- no object is due now or before
abbrev pub AreLater : ℕ → List (Option ℕ) → Type 0
AreLater now times = (i : ℕ) → IfSome (due_in times i) (λ due. now < due)
