-- The rows of hop counts.
use Rattle.std.specs.Prelude.{ℕ, zero, suc, Bool, ◌&&◌, ◌==◌, List, ◌++◌, length, map, codes, find, Option, Some, None, slice_get}
use Rattle.std.specs.List.{concat, range_with_len}
use Rattle.std.specs.Option.{option_map_or}
use Rattle.std.specs.Fmt.{decimal}
use Rattle.sync_topo.specs.Topology.{Topology}
use Rattle.sync_topo.specs.Lines.{line_count, line_name, source_name, element_name, sender_of, receiver_of, sources_at}
use Rattle.nominate.specs.HopCount.{Counts, count_at, is_count}

-- what isn't there
abbrev pub none_text : List ℕ
none_text = codes "none"

-- a line, nominated or not, leads to the element from one with this count
abbrev pub leads_from : Topology → Counts → ℕ → ℕ → ℕ → Bool
leads_from plan counts element hops line = receiver_of plan line == element && is_count hops (count_at counts (sender_of plan line))

-- the lowest-numbered such line
abbrev pub line_from : Topology → Counts → ℕ → ℕ → Option ℕ
line_from plan counts element hops = find (leads_from plan counts element hops) (range_with_len 0 (line_count plan))

-- where an element's timing would come from: its lowest-numbered nominated source, or else the lowest-numbered line from one
-- with one less
abbrev pub from_text : Topology → Counts → ℕ → Option ℕ → List ℕ
from_text plan counts element None = none_text
from_text plan counts element (Some zero) = option_map_or (source_name plan) (slice_get (sources_at plan element) 0) none_text
from_text plan counts element (Some (suc hops)) = option_map_or (line_name plan) (line_from plan counts element hops) none_text

-- the row of an element: its name, its count, and where its timing would come from
abbrev pub hops_row : Topology → Counts → ℕ → List ℕ
hops_row plan counts element =
    element_name plan element ++ codes "," ++ option_map_or decimal (count_at counts element) none_text ++ codes ","
    ++ from_text plan counts element (count_at counts element) ++ codes "\n"

-- a row for each element, in order
abbrev pub hops_text : Topology → Counts → List ℕ
hops_text plan counts = codes "element,hops,from\n" ++ concat (map (hops_row plan counts) (range_with_len 0 (length plan.elements)))
