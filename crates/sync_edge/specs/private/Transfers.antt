-- Beside specs/Transfers.antt, under no public clause: what is read and written as a whole, and what was there when a
-- call failed.
use Rattle.std.specs.Prelude.{◌≡◌, ◌+◌, ◌<◌, ◌≤◌, ⊤, ℕ, List, length, Option, Some, None}

-- where it is told what was left, these bytes are all of it
abbrev pub IsLeft : Option (List ℕ) → List ℕ → Type 0
IsLeft None text = ⊤
IsLeft (Some left) text = left ≡ text

-- where it is told what was left, it was more than `limit` bytes
abbrev pub IsMoreLeftThan : ℕ → Option (List ℕ) → Type 0
IsMoreLeftThan limit None = ⊤
IsMoreLeftThan limit (Some left) = limit < length left

-- where it is told what was left before and now, at most so many bytes were taken of it
abbrev pub AreTaken : ℕ → Option (List ℕ) → Option (List ℕ) → Type 0
AreTaken most None now = ⊤
AreTaken most (Some before) None = ⊥
AreTaken most (Some before) (Some now) = length before ≤ most + length now
