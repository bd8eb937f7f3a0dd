-- Steps of which each goes on with a value, or ends with a refusal.
use Rattle.std.specs.Prelude.{Option, Some, None, Result, Ok, Err}

-- goes on with the value, and ends with the refusal where there is none
infixl 10 ◌>>=◌
abbrev pub ◌>>=◌ : {A B E : Type 0} → Result A E → (A → Result B E) → Result B E
Ok value >>= next = next value
Err refusal >>= next = Err refusal

-- the value, and a refusal where there is none
abbrev pub found : {A E : Type 0} → Option A → E → Result A E
found None refusal = Err refusal
found (Some value) refusal = Ok value

-- the value, where there is no refusal
abbrev pub unless : {A E : Type 0} → Option E → A → Result A E
unless None value = Ok value
unless (Some refusal) value = Err refusal
