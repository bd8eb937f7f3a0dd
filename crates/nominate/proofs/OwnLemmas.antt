-- What the inputs of an element tell of its own sources.
use Rattle.std.proofs.Common.{◌≡◌, ℕ, suc, ◌+◌, ◌<◌, List, [], ◌∷◌, ◌++◌, length, map, refl, ap, ◌∙◌, arith}
use Rattle.std.specs.Prelude.{max, if◌then◌else◌}
use Rattle.std.proofs.lemmas.List.Sums.{sum_by-cons}
use Rattle.std.specs.List.{count_by}
use Rattle.sync_topo.specs.declared.input.InputId.TheVariants.{Source}
use Rattle.sync_topo.specs.Topology.{Topology}
use Rattle.sync_topo.specs.Lines.{line_input, source_priority, lines_into, sources_at, inputs_of}
use Rattle.nominate.specs.private.Searching.{is_source}
use Rattle.nominate.specs.Nomination.{greatest_of, base_priority}
use Rattle.nominate.specs.private.Numbering.{own_priority}

greatest-inputs : (plan : Topology) (lines sources : List ℕ)
    → greatest_of (map (own_priority plan) (map line_input lines ++ map Source sources)) ≡ greatest_of (map (source_priority plan) sources)
greatest-inputs plan [] [] = refl
greatest-inputs plan [] (source ∷ sources) = ap (λ (n : ℕ). max (source_priority plan source) n) (greatest-inputs plan [] sources)
greatest-inputs plan (line ∷ lines) sources =
    let rest = greatest-inputs plan lines sources in
    let none : max 0 (greatest_of (map (own_priority plan) (map line_input lines ++ map Source sources))) ≡ greatest_of (map (own_priority plan) (map line_input lines ++ map Source sources)) = omega arith in
    none ∙ rest

pub greatest-own : (plan : Topology) (element : ℕ) → greatest_of (map (own_priority plan) (inputs_of plan element)) ≡ base_priority plan element
greatest-own plan element = greatest-inputs plan (lines_into plan element) (sources_at plan element)

count-inputs : (lines sources : List ℕ) → count_by is_source (map line_input lines ++ map Source sources) ≡ length sources
count-inputs [] [] = refl
count-inputs [] (source ∷ sources) =
    let one : 1 + length sources ≡ suc (length sources) = omega arith in
    sum_by-cons (λ input. if is_source input then 1 else 0) (Source source) (map Source sources) ∙ ap (λ (n : ℕ). 1 + n) (count-inputs [] sources) ∙ one
count-inputs (line ∷ lines) sources = count-inputs lines sources

pub count-own : (plan : Topology) (element : ℕ) → count_by is_source (inputs_of plan element) ≡ length (sources_at plan element)
count-own plan element = count-inputs (lines_into plan element) (sources_at plan element)
