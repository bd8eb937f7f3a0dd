-- Private to this crate: the least that is left of the conditions at the first places.
use Rattle.std.specs.Prelude.{◌≡◌, ◌≤◌, ◌<◌, ℕ, List, Option, None, Some, IfSome, min}
use Rattle.sync_ql.specs.Moment.{Moment, Settings}
use Rattle.sync_element.specs.Due.{left_in}

-- the lesser of two numbers, where there is one
abbrev pub lesser : Option ℕ → Option ℕ → Option ℕ
lesser None other = other
lesser (Some one) None = Some one
lesser (Some one) (Some other) = Some (min one other)

-- it is left of one of the first n conditions, and of none of them less
pub record IsLeastBelow (settings : Settings) (past : List Moment) (n : ℕ) (least : Option ℕ) : Type 0 where
  pub of_one : IfSome least (λ left. (i : ℕ) × (i < n) × (left_in settings past i ≡ Some left))
  pub none_less : (i : ℕ) → i < n → IfSome (left_in settings past i) (λ other. (left : ℕ) × (least ≡ Some left) × (left ≤ other))
