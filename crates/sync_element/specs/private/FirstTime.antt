-- Private to this crate: the first of the times at which running times end, by a walk over them.
use Rattle.std.specs.Prelude.{◌≡◌, ◌≤◌, ◌<◌, ℕ, List, min, Option, None, Some, IfSome, MatchOption}
use Rattle.agenda.specs.DueTimes.{due_in}

-- the earlier of two times, where there are
abbrev pub earlier_of : Option ℕ → Option ℕ → Option ℕ
earlier_of None other = other
earlier_of (Some one) None = Some one
earlier_of (Some one) (Some other) = Some (min one other)

-- of the times before a place, one is this, and none is before it
pub record IsFirstBefore (times : List (Option ℕ)) (n at : ℕ) : Type 0 where
  pub some : (i : ℕ) × (i < n) × (due_in times i ≡ Some at)
  pub first : (i : ℕ) → i < n → IfSome (due_in times i) (λ other. at ≤ other)

-- the first of the times before a place, if there is one
abbrev pub IsFirstSoFar : List (Option ℕ) → ℕ → Option ℕ → Type 0
IsFirstSoFar times n found = MatchOption found ((i : ℕ) → i < n → due_in times i ≡ None) (IsFirstBefore times n)
