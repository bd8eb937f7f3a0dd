-- Beside specs/Held.antt, under no public clause: what is kept for each element: what only private clauses cite.
use Rattle.std.specs.Prelude.{ℕ, ◌&&◌, ◌==◌, nat_lt, if◌then◌else◌, List, [], ◌∷◌}

-- the item where a priority makes it one of the element's, and nothing where it doesn't
abbrev pub taken : {A : Type 0} → ℕ → ℕ → A → ℕ → List A
taken owner priority item element = if nat_lt 0 priority && owner == element then item ∷ [] else []
