-- An element has a nominated source just where its last input is one.
use Rattle.std.proofs.Common.{◌≡◌, ◌↔◌, ℕ, zero, suc, ◌+◌, ◌-◌, ◌<◌, ◌≤◌, Bool, true, false, ◌&&◌, ◌==◌, List, [], ◌∷◌, ◌++◌, length, map, filter, Option, refl, sym, ap, ◌∙◌, inl, inr, slice_get, arith}
use Rattle.std.specs.Prelude.{IsTrue, nat_lt, if◌then◌else◌}
use Rattle.std.specs.Option.{option_map_or}
use Rattle.std.specs.List.{range_with_len}
use Rattle.std.proofs.lemmas.Bool.{and_parts, ltb-true, eqb-true, lt-ltb}
use Rattle.std.proofs.lemmas.Option.{slice_get_cases}
use Rattle.sync_topo.specs.declared.input.InputId.{InputId}
use Rattle.sync_topo.specs.declared.input.InputId.TheVariants.{Source}
use Rattle.sync_topo.specs.Topology.{Topology}
use Rattle.sync_topo.specs.Lines.{line_input, lines_into, sources_at, inputs_of, source_priority, element_of_source}
use Rattle.sync_topo.specs.WellFormed.{IsWellFormed}
use Rattle.nominate.specs.HopCount.{IsRoot}
use Rattle.nominate.specs.private.Searching.{is_source}

-- the last of some inputs is a source
abbrev ends_in_source : List InputId → Bool
ends_in_source inputs = option_map_or is_source (slice_get inputs (length inputs - 1)) false

-- of a list with two or more, the last is the last of the rest
last-cons : (x : InputId) (xs : List InputId) → 0 < length xs → ends_in_source (x ∷ xs) ≡ ends_in_source xs
last-cons x [] some = absurd (omega arith)
last-cons x (y ∷ ys) some =
    let more : suc (suc (length ys)) - 1 ≡ suc (length ys) = omega arith in
    let one : suc (length ys) - 1 ≡ length ys = omega arith in
    rw (more, one) refl

sources-end : (sources : List ℕ) → ends_in_source (map Source sources) ≡ nat_lt 0 (length sources)
sources-end [] = refl
sources-end (first ∷ []) = refl
sources-end (first ∷ second ∷ rest) =
    last-cons (Source first) (map Source (second ∷ rest)) (omega arith) ∙ sources-end (second ∷ rest)
    ∙ lt-ltb 0 (suc (length rest)) (omega arith) ∙ sym (lt-ltb 0 (suc (suc (length rest))) (omega arith))

inputs-end : (lines sources : List ℕ) → ends_in_source (map line_input lines ++ map Source sources) ≡ nat_lt 0 (length sources)
inputs-end [] sources = sources-end sources
inputs-end (line ∷ []) [] = refl
inputs-end (line ∷ []) (first ∷ rest) =
    last-cons (line_input line) (map Source (first ∷ rest)) (omega arith) ∙ sources-end (first ∷ rest)
inputs-end (line ∷ next ∷ lines) sources =
    last-cons (line_input line) (map line_input (next ∷ lines) ++ map Source sources) (omega arith) ∙ inputs-end (next ∷ lines) sources

-- what a look at the last input tells
pub root-tells : (plan : Topology) (element : ℕ) (inputs : List InputId) (last : Option InputId) → inputs ≡ inputs_of plan element
    → last ≡ slice_get inputs (length inputs - 1) → IsTrue (option_map_or is_source last false) ↔ IsRoot plan element
root-tells plan element inputs last are is =
    let same : option_map_or is_source last false ≡ nat_lt 0 (length (sources_at plan element)) =
    ap (λ o. option_map_or is_source o false) is ∙ ap ends_in_source are ∙ inputs-end (lines_into plan element) (sources_at plan element) in
    (λ true_here. ltb-true 0 (length (sources_at plan element)) (sym same ∙ true_here), λ root. same ∙ lt-ltb 0 (length (sources_at plan element)) root)

-- something passes where a filter keeps something
pub some-kept : (p : ℕ → Bool) (a n : ℕ) → 0 < length (filter p (range_with_len a n)) → (k : ℕ) × (p k ≡ true) × (a ≤ k) × (k < a + n)
some-kept p a zero some = absurd (omega arith)
some-kept p a (suc n) some = by (p a) refl some (λ left. some-kept p (a + 1) n left)
  where
    by : (b : Bool) → p a ≡ b → 0 < length (if b then a ∷ filter p (range_with_len (a + 1) n) else filter p (range_with_len (a + 1) n))
        → (0 < length (filter p (range_with_len (a + 1) n)) → (k : ℕ) × (p k ≡ true) × (a + 1 ≤ k) × (k < a + 1 + n))
        → (k : ℕ) × (p k ≡ true) × (a ≤ k) × (k < a + suc n)
    by true is left further = (a, is, omega arith, omega arith)
    by false is left further = let found = further left in (found.0, found.1, omega (arith, found.2), omega (arith, found.3))

-- a root is an element of the plan
pub root-within : (plan : Topology) (element : ℕ) → IsWellFormed plan → IsRoot plan element → element < length plan.elements
root-within plan element well root =
    let found = some-kept (λ source. nat_lt 0 (source_priority plan source) && element_of_source plan source == element) 0 (length plan.sources) root in
    let both = and_parts (nat_lt 0 (source_priority plan found.0)) (element_of_source plan found.0 == element) found.1 in
    elim (slice_get_cases plan.sources found.0).1 [
      | inl there ↦
          let at : element_of_source plan found.0 ≡ there.0.at = rw there.2 refl in
          let same : element_of_source plan found.0 ≡ element = eqb-true (element_of_source plan found.0) element both.1 in
          let fits = (well.sources_fit found.0 there.0 there.2).at_is_element in
          omega (arith, at, same, fits)
      | inr past ↦ absurd (omega (arith, past.0, found.3))
    ]
