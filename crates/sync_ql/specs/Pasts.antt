-- A past made from a function of time, and lists in which the newest comes first.
use Rattle.std.specs.Prelude.{ℕ, zero, suc, List, [], ◌∷◌, Option, None, Some}

-- the first n milliseconds of a function of time, the newest first
abbrev pub past_of : {A : Type 0} → (ℕ → A) → ℕ → List A
past_of f zero = []
past_of f (suc n) = f n ∷ past_of f n

-- the first that there is among the first n of a list
abbrev pub first_within : {A : Type 0} → ℕ → List (Option A) → Option A
first_within zero xs = None
first_within (suc n) [] = None
first_within (suc n) (Some x ∷ xs) = Some x
first_within (suc n) (None ∷ xs) = first_within n xs
