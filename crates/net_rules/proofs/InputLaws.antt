-- The inputs of an element are its nominated lines and sources.
use Rattle.std.proofs.Common.{◌≡◌, ◌<◌, ℕ, true, ◌&&◌, map, length, arith}
use Rattle.std.specs.Prelude.{nat_lt, ◌==◌}
use Rattle.std.specs.List.{range_with_len}
use Rattle.std.proofs.lemmas.Bool.{and_parts, eqb-true, eq-eqb}
use Rattle.std.specs.Cmp.Derive.{both_true}
use Rattle.sync_text.proofs.Each.{Each-map, Each-append, Each-made, Each-range, Each-filter, Each-parts, Each-unmade, Each-kept}
use Rattle.sync_text.specs.Each.{Each}
use Rattle.sync_topo.specs.declared.input.InputId.{InputId}
use Rattle.sync_topo.specs.declared.input.InputId.TheVariants.{Line, Source}
use Rattle.sync_topo.specs.Topology.{Topology}
use Rattle.sync_topo.specs.Lines.{line_count, line_input, is_nominated, receiver_of, source_priority, element_of_source, lines_into, sources_at, inputs_of}
use Rattle.net_rules.specs.Inputs.{IsInputOf}

line_is : (plan : Topology) (element line : ℕ) → (line < line_count plan) × ((is_nominated plan line && receiver_of plan line == element) ≡ true)
    → IsInputOf plan element (line_input line)
line_is plan element line facts =
    let both = and_parts (is_nominated plan line) (receiver_of plan line == element) facts.1 in
    record { has = facts.0; nominated = both.0; of_element = eqb-true (receiver_of plan line) element both.1 }

source_is : (plan : Topology) (element source : ℕ)
    → (source < length plan.sources) × ((nat_lt 0 (source_priority plan source) && element_of_source plan source == element) ≡ true)
    → IsInputOf plan element (Source source)
source_is plan element source facts =
    let both = and_parts (nat_lt 0 (source_priority plan source)) (element_of_source plan source == element) facts.1 in
    record { has = facts.0; nominated = both.0; of_element = eqb-true (element_of_source plan source) element both.1 }

-- each of them is one
pub inputs-are : (plan : Topology) (element : ℕ) → Each (IsInputOf plan element) (inputs_of plan element)
inputs-are plan element =
    Each-append (IsInputOf plan element) (map line_input (lines_into plan element)) (map Source (sources_at plan element))
    (Each-made (IsInputOf plan element) line_input (lines_into plan element)
    (Each-map _ (λ line. IsInputOf plan element (line_input line)) (line_is plan element) (lines_into plan element)
    (Each-filter (λ line. line < line_count plan) (λ line. is_nominated plan line && receiver_of plan line == element)
    (range_with_len 0 (line_count plan)) (Each-range (λ line. line < line_count plan) 0 (line_count plan) (λ k low high. omega (arith, high))))))
    (Each-made (IsInputOf plan element) Source (sources_at plan element)
    (Each-map _ (λ source. IsInputOf plan element (Source source)) (source_is plan element) (sources_at plan element)
    (Each-filter (λ source. source < length plan.sources) (λ source. nat_lt 0 (source_priority plan source) && element_of_source plan source == element)
    (range_with_len 0 (length plan.sources)) (Each-range (λ source. source < length plan.sources) 0 (length plan.sources) (λ k low high. omega (arith, high))))))

-- and what holds of each of them holds of each nominated line and source of the element
pub each-input : (P : InputId → Type 0) (plan : Topology) (element : ℕ) → Each P (inputs_of plan element) → (input : InputId) → IsInputOf plan element input → P input
each-input P plan element each (Line line) is =
    Each-kept (λ l. P (line_input l)) (λ l. is_nominated plan l && receiver_of plan l == element) 0 (line_count plan) line.0
    (Each-unmade P line_input (lines_into plan element) (Each-parts P (map line_input (lines_into plan element)) (map Source (sources_at plan element)) each).0)
    (omega arith) (omega (arith, is.has)) (both_true {s = is_nominated plan line.0} {t = receiver_of plan line.0 == element} is.nominated (eq-eqb (receiver_of plan line.0) element is.of_element))
each-input P plan element each (Source source) is =
    Each-kept (λ s. P (Source s)) (λ s. nat_lt 0 (source_priority plan s) && element_of_source plan s == element) 0 (length plan.sources) source
    (Each-unmade P Source (sources_at plan element) (Each-parts P (map line_input (lines_into plan element)) (map Source (sources_at plan element)) each).1)
    (omega arith) (omega (arith, is.has)) (both_true {s = nat_lt 0 (source_priority plan source)} {t = element_of_source plan source == element} is.nominated (eq-eqb (element_of_source plan source) element is.of_element))
