-- Closed walks as text. This project's own.
use Rattle.std.specs.Prelude.{ℕ, List, [], ◌∷◌, ◌++◌, map, codes}
use Rattle.std.specs.List.{concat}
use Rattle.sync_topo.specs.Topology.{Topology}
use Rattle.sync_topo.specs.Lines.{line_name}

-- the lines of a walk behind its first one, each after a blank
abbrev pub rest_text : Topology → List ℕ → List ℕ
rest_text plan lines = concat (map (λ line. codes " " ++ line_name plan line) lines)

-- the row of a walk: its lines with blanks between them
abbrev pub walk_row : Topology → List ℕ → List ℕ
walk_row plan [] = codes "\n"
walk_row plan (first ∷ rest) = line_name plan first ++ rest_text plan rest ++ codes "\n"

-- the rows of walks, in their order
abbrev pub walk_rows : Topology → List (List ℕ) → List ℕ
walk_rows plan walks = concat (map (walk_row plan) walks)
