-- Records of two plain fields, written as lines. After RFC 4180.
use Rattle.std.specs.Prelude.{◌≡◌, ℕ, Bool, not, ◌||◌, ◌==◌, IsTrue, List, [], ◌∷◌, ◌++◌, codes, map, slice_get, Some}
use Rattle.std.specs.List.{list_all, concat}

-- a byte that stands for itself in a field without quotes: no quote, no comma and no end of a line
abbrev pub is_plain_byte : ℕ → Bool
is_plain_byte byte = not (byte == 44 || byte == 34 || byte == 13 || byte == 10)

-- a field that needs no quotes
abbrev pub IsPlain : List ℕ → Type 0
IsPlain field = IsTrue (list_all is_plain_byte field)

-- both fields of each pair need none
abbrev pub ArePlain : List (List ℕ × List ℕ) → Type 0
ArePlain pairs = (i : ℕ) (pair : List ℕ × List ℕ) → slice_get pairs i ≡ Some pair → IsPlain pair.0 × IsPlain pair.1

-- the line of a record of two fields
abbrev pub pair_line : List ℕ → List ℕ → List ℕ
pair_line first second = first ++ codes "," ++ second ++ codes "\n"

-- the lines of such records
abbrev pub pair_lines : List (List ℕ × List ℕ) → List ℕ
pair_lines pairs = concat (map (λ pair. pair_line pair.0 pair.1) pairs)

-- the records themselves
abbrev pub pair_records : List (List ℕ × List ℕ) → List (List (List ℕ))
pair_records pairs = map (λ pair. pair.0 ∷ pair.1 ∷ []) pairs
