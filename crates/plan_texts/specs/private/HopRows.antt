-- How the rows of hop counts are found: what only private clauses cite.
use Rattle.std.specs.Prelude.{◌≡◌, ℕ, zero, suc, ◌<◌, List, [], ◌∷◌, length, find, Option, Some, None, slice_get, option_map}
use Rattle.std.specs.Option.{option_flatten}
use Rattle.std.specs.List.{range_with_len}
use Rattle.sync_topo.specs.declared.input.InputId.{InputId}
use Rattle.sync_topo.specs.declared.input.InputId.TheVariants.{Line, Source}
use Rattle.sync_topo.specs.declared.input.LineId.{LineId}
use Rattle.sync_topo.specs.Topology.{Topology}
use Rattle.sync_topo.specs.Lines.{line_count, line_name, source_name, sources_at}
use Rattle.nominate.specs.HopCount.{Counts, count_at}
use Rattle.plan_texts.specs.Hops.{leads_from}

-- the first source among some inputs
abbrev pub first_source : List InputId → Option ℕ
first_source [] = None
first_source (Line line ∷ inputs) = first_source inputs
first_source (Source source ∷ inputs) = Some source

-- the line that is kept for an element
abbrev pub line_at : List (Option LineId) → ℕ → Option ℕ
line_at lines element = option_map (λ (line : LineId). line.0) (option_flatten (slice_get lines element))

-- for each element with a count above 0, the lowest-numbered of the lines below n from one with one less
pub record AreLinesFrom (plan : Topology) (counts : Counts) (n : ℕ) (lines : List (Option LineId)) : Type 0 where
  pub counted : length lines ≡ length plan.elements
  pub each : (element hops : ℕ) → element < length plan.elements → count_at counts element ≡ Some (suc hops)
      → line_at lines element ≡ find (leads_from plan counts element hops) (range_with_len 0 n)
  pub within : (element line : ℕ) → line_at lines element ≡ Some line → line < line_count plan

-- the name of the input that an element of this count would take, where this line leads to it from one with one less
abbrev pub from_name : Topology → Option ℕ → ℕ → Option ℕ → Option (List ℕ)
from_name plan line element None = None
from_name plan line element (Some zero) = option_map (source_name plan) (slice_get (sources_at plan element) 0)
from_name plan line element (Some (suc hops)) = option_map (line_name plan) line
