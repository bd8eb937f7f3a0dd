-- Texts of one line, and lines on lines of a plan.
use Rattle.std.specs.Prelude.{ℕ, List, ◌++◌, map, codes}
use Rattle.std.specs.List.{concat}
use Rattle.sync_topo.specs.Topology.{Topology}
use Rattle.sync_topo.specs.Lines.{line_name}

-- a text of one line
abbrev pub text_line : List ℕ → List ℕ
text_line words = words ++ codes "\n"

-- the line on some lines: what they are, and their names
abbrev pub lines_text : List ℕ → Topology → List ℕ → List ℕ
lines_text word plan lines = text_line (word ++ concat (map (λ line. codes " " ++ line_name plan line) lines))

-- the line on a cycle
abbrev pub cycle_text : Topology → List ℕ → List ℕ
cycle_text plan lines = lines_text (codes "cycle") plan lines

-- the line on a hop over which ranks don't rise
abbrev pub falls_text : Topology → ℕ → ℕ → List ℕ
falls_text plan from to = text_line (codes "falls " ++ line_name plan from ++ codes " " ++ line_name plan to)
