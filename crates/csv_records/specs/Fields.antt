-- The fields of a record of a length that is known.
use Rattle.std.specs.Prelude.{ℕ, List, [], ◌∷◌, Option, Some, None}

-- both fields of a record of two
abbrev pub pair_of : List (List ℕ) → Option (List ℕ × List ℕ)
pair_of (first ∷ second ∷ []) = Some (first, second)
pair_of _ = None

-- all fields of a record of four
abbrev pub four_of : List (List ℕ) → Option (List ℕ × List ℕ × List ℕ × List ℕ)
four_of (a ∷ b ∷ c ∷ d ∷ []) = Some (a, b, c, d)
four_of _ = None

-- all fields of a record of five
abbrev pub five_of : List (List ℕ) → Option (List ℕ × List ℕ × List ℕ × List ℕ × List ℕ)
five_of (a ∷ b ∷ c ∷ d ∷ e ∷ []) = Some (a, b, c, d, e)
five_of _ = None
