-- Private to this crate: the rows of parts, joined.
use Rattle.std.specs.Prelude.{List, [], ◌∷◌, ◌++◌, Option, Some, None, Result, Ok, Err}
use Rattle.std.specs.Option.{option_map}

-- the items of all parts in order, where no part is a refusal
abbrev pub joined : {A E : Type 0} → List (Result (List A) E) → Option (List A)
joined [] = Some []
joined (Ok items ∷ parts) = option_map (λ rest. items ++ rest) (joined parts)
joined (Err refusal ∷ parts) = None
