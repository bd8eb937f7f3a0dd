-- The first refusal of some rows, by their places. This project's own.
use Rattle.std.specs.Prelude.{ℕ, Option, is_some, find, option_and_then}
use Rattle.std.specs.List.{range_with_len}

-- the first refusal at one of so many places, where it is told what is refused at each
abbrev pub first_refusal : {E : Type 0} → (ℕ → Option E) → ℕ → Option E
first_refusal refusal_at count = option_and_then refusal_at (find (λ place. is_some (refusal_at place)) (range_with_len 0 count))
