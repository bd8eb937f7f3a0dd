-- What is kept of a plan's elements: what only private clauses cite.
use Rattle.std.specs.Prelude.{◌≡◌, ℕ, ◌+◌, [], ◌∷◌, ◌++◌, IsTrue, length, slice_index, Some}
use Rattle.sync_topo.specs.declared.input.LineId.{LineId}
use Rattle.sync_topo.specs.declared.input.InputId.{InputId}
use Rattle.sync_topo.specs.declared.input.InputId.TheVariants.{Line, Source}
use Rattle.sync_topo.specs.declared.wiring.Wiring.{Wiring}
use Rattle.sync_topo.specs.Topology.{Topology}
use Rattle.sync_topo.specs.Lines.{line_count, inputs_of, lines_out, IsInput, is_nominated_input, element_of, place_at}
use Rattle.sync_topo.specs.Held.{held}
use Rattle.sync_topo.specs.private.Held.{taken}

-- the place that is kept of an input
abbrev pub kept_place : Wiring → InputId → ℕ
kept_place wiring (Line line) = slice_index wiring.line_places.items line.0
kept_place wiring (Source source) = slice_index wiring.source_places.items source

-- it is what the plan says of its elements
pub record IsWired (plan : Topology) (wiring : Wiring) : Type 0 where
  pub inputs_counted : length wiring.inputs.items ≡ length plan.elements
  pub lines_out_counted : length wiring.lines_out.items ≡ length plan.elements
  pub line_places_counted : length wiring.line_places.items ≡ line_count plan
  pub source_places_counted : length wiring.source_places.items ≡ length plan.sources
  pub inputs_kept : (element : ℕ) → held wiring.inputs.items element ≡ inputs_of plan element
  pub lines_out_kept : (element : ℕ) → held wiring.lines_out.items element ≡ lines_out plan element
  pub places_kept : (input : InputId) → IsInput plan input → IsTrue (is_nominated_input plan input)
      → place_at plan (element_of plan input) input ≡ Some (kept_place wiring input)

-- one element more, without inputs and lines
pub record IsWidened (before after : Wiring) : Type 0 where
  pub inputs_counted : length after.inputs.items ≡ length before.inputs.items + 1
  pub lines_out_counted : length after.lines_out.items ≡ length before.lines_out.items + 1
  pub line_places : after.line_places.items ≡ before.line_places.items
  pub source_places : after.source_places.items ≡ before.source_places.items
  pub inputs : (element : ℕ) → held after.inputs.items element ≡ held before.inputs.items element
  pub lines_out : (element : ℕ) → held after.lines_out.items element ≡ held before.lines_out.items element

-- one line more
pub record HasLine (line : LineId) (from to priority : ℕ) (before after : Wiring) : Type 0 where
  pub inputs_counted : length after.inputs.items ≡ length before.inputs.items
  pub lines_out_counted : length after.lines_out.items ≡ length before.lines_out.items
  pub line_places : after.line_places.items ≡ before.line_places.items ++ length (held before.inputs.items to) ∷ []
  pub source_places : after.source_places.items ≡ before.source_places.items
  pub inputs : (element : ℕ) → held after.inputs.items element ≡ held before.inputs.items element ++ taken to priority (Line line) element
  pub lines_out : (element : ℕ) → held after.lines_out.items element ≡ held before.lines_out.items element ++ taken from priority line element

-- one source more
pub record HasSource (source at priority : ℕ) (before after : Wiring) : Type 0 where
  pub inputs_counted : length after.inputs.items ≡ length before.inputs.items
  pub lines_out_counted : length after.lines_out.items ≡ length before.lines_out.items
  pub line_places : after.line_places.items ≡ before.line_places.items
  pub source_places : after.source_places.items ≡ before.source_places.items ++ length (held before.inputs.items at) ∷ []
  pub inputs : (element : ℕ) → held after.inputs.items element ≡ held before.inputs.items element ++ taken at priority (Source source) element
  pub lines_out : (element : ℕ) → held after.lines_out.items element ≡ held before.lines_out.items element
