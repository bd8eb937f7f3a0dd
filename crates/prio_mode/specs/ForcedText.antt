-- The event file of the forced switches that bring a timing loop about. This project's own.
use Rattle.std.specs.Prelude.{ℕ, ◌+◌, ◌*◌, List, ◌++◌, codes, length, map}
use Rattle.std.specs.List.{concat}
use Rattle.sync_topo.specs.Topology.{Topology}
use Rattle.sync_topo.specs.Lines.{line_name}

-- the row of a forced switch to a line at 0
abbrev pub forced_row : Topology → ℕ → List ℕ
forced_row plan line = codes "0,forced," ++ line_name plan line ++ codes ",\n"

-- the header, and a row for each of some lines, in their order
abbrev pub forced_text : Topology → List ℕ → List ℕ
forced_text plan lines = codes "at,what,target,value\n" ++ concat (map (forced_row plan) lines)

-- the most bytes of a row, and of a file of switches of different elements of the plan
abbrev pub forced_row_size : ℕ
forced_row_size = 76

abbrev pub forced_size : Topology → ℕ
forced_size plan = 21 + length plan.elements * forced_row_size
