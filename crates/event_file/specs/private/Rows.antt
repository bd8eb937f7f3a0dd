-- Beside specs/Rows.antt, under no public clause: what a row of an event file says.
use Rattle.std.specs.Prelude.{ℕ, List, [], ◌∷◌}
use Rattle.event_file.specs.Rows.{Fields}

-- a row of the four fields of an event
abbrev pub event_row : List ℕ → List ℕ → List ℕ → List ℕ → Fields
event_row at word target value = at ∷ word ∷ target ∷ value ∷ []
