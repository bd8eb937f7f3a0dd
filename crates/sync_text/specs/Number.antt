-- The form of numbers in every text of the program. This project's own.
use Rattle.std.specs.Prelude.{ℕ, ◌+◌, ◌-◌, ◌*◌, ◌^◌, ◌==◌, ◌&&◌, not, nat_lt, Bool, false, List, [], ◌∷◌, length, Option, Some, None, if◌then◌else◌}
use Rattle.std.specs.Str.{all_ascii_digits}

-- a zero stands before another byte
abbrev pub is_padded : List ℕ → Bool
is_padded [] = false
is_padded (c ∷ cs) = (c == 48) && nat_lt 0 (length cs)

-- digits alone, at least one, and no zero before another digit
abbrev pub is_decimal : List ℕ → Bool
is_decimal bs = nat_lt 0 (length bs) && all_ascii_digits bs && not (is_padded bs)

-- the number that digits spell: each one times the power of ten of its place
abbrev pub value_of : List ℕ → ℕ
value_of [] = 0
value_of (c ∷ cs) = (c - 48) * 10 ^ length cs + value_of cs

-- the number that bytes are: a decimal of at most 2^64 - 1
unfoldable pub number_of : List ℕ → Option ℕ
number_of bs = if is_decimal bs && nat_lt (value_of bs) (2 ^ 64) then Some (value_of bs) else None
