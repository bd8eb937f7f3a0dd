-- What is kept for each element: what only private clauses cite.
use Rattle.std.specs.Prelude.{ℕ, List, [], slice_get, Vec}
use Rattle.std.specs.Option.{option_map_or}
use Rattle.std.specs.declared.alloc.Global.{Global}

-- the items that are kept for an element
abbrev pub held : {A : Type 0} → List (Vec A Global) → ℕ → List A
held kept element = option_map_or (λ own. own.items) (slice_get kept element) []
