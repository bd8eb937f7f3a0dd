-- The rows of the longest chains.
use Rattle.std.specs.Prelude.{ℕ, List, [], ◌++◌, length, map, codes, slice_get}
use Rattle.std.specs.List.{concat, range_with_len}
use Rattle.std.specs.Option.{option_map_or}
use Rattle.std.specs.Fmt.{decimal}
use Rattle.sync_topo.specs.Topology.{Topology}
use Rattle.sync_topo.specs.Lines.{element_name}
use Rattle.reach_rules.specs.declared.chain.Chain.{Chain}

-- the three numbers of a row
abbrev pub numbers_text : Chain → List ℕ
numbers_text row =
    codes "," ++ decimal row.links ++ codes "," ++ decimal row.since ++ codes "," ++ decimal row.clocks ++ codes "\n"

-- the row of an element: its name, its lines in all, those since the last filter, and its filters
abbrev pub chains_row : Topology → List Chain → ℕ → List ℕ
chains_row plan rows element = element_name plan element ++ option_map_or numbers_text (slice_get rows element) []

-- a row for each element, in order
abbrev pub chains_text : Topology → List Chain → List ℕ
chains_text plan rows =
    codes "element,links,since,clocks\n" ++ concat (map (chains_row plan rows) (range_with_len 0 (length plan.elements)))
