-- No input stands twice among those of an element.
use Rattle.std.proofs.Common.{◌≡◌, ◌<◌, ◌+◌, ℕ, zero, suc, Bool, true, false, ◌&&◌, List, [], ◌∷◌, ◌++◌, map, filter, length, Some, slice_get, refl, sym, subst, arith}
use Rattle.std.specs.Prelude.{nat_eq, nat_lt, ◌==◌, if◌then◌else◌}
use Rattle.std.specs.List.{position_or_len, range_with_len}
use Rattle.std.proofs.lemmas.Bool.{ne_eqb, lt-ltb}
use Rattle.std.proofs.lemmas.Option.{slice_get_within, same_Some, none-some}
use Rattle.sync_text.proofs.Each.{Each-map, Each-append, Each-made, Each-range, Each-filter, each-at}
use Rattle.sync_text.specs.Each.{Each}
use Rattle.sync_topo.specs.declared.input.InputId.{InputId}
use Rattle.sync_topo.specs.declared.input.InputId.TheVariants.{Source}
use Rattle.sync_topo.specs.Topology.{Topology}
use Rattle.sync_topo.specs.Lines.{line_count, line_input, is_nominated, receiver_of, source_priority, element_of_source, lines_into, sources_at, inputs_of, is_same_input, place_at}
use Rattle.sync_topo.proofs.InputPlaces.{same-self}
use Rattle.net_rules.specs.Inputs.{IsInputOf}
use Rattle.net_rules.proofs.InputLaws.{inputs-are}

-- each number of a list is greater than those before it
abbrev Ascends : List ℕ → Type 0
Ascends [] = Unit {0}
Ascends (x ∷ xs) = Each (λ y. x < y) xs × Ascends xs

-- each input of a list is another one than those before it
abbrev AreApart : List InputId → Type 0
AreApart [] = Unit {0}
AreApart (input ∷ inputs) = Each (λ later. is_same_input later input ≡ false) inputs × AreApart inputs

-- a filtered range ascends
ascends-filter : (p : ℕ → Bool) (from n : ℕ) → Ascends (filter p (range_with_len from n))
ascends-filter p from zero = tt
ascends-filter p from (suc n) = by (p from) (ascends-filter p (from + 1) n)
  where
    later : Each (λ k. from < k) (filter p (range_with_len (from + 1) n))
    later = Each-map _ (λ k. from < k) (λ k both. both.0) (filter p (range_with_len (from + 1) n))
        (Each-filter (λ k. from < k) p (range_with_len (from + 1) n)
        (Each-range (λ k. from < k) (from + 1) n (λ k low high. omega (arith, low))))

    by : (b : Bool) → Ascends (filter p (range_with_len (from + 1) n))
        → Ascends (if b then from ∷ filter p (range_with_len (from + 1) n) else filter p (range_with_len (from + 1) n))
    by true rest = (later, rest)
    by false rest = rest

-- sources of ascending numbers are apart
sources-apart : (sources : List ℕ) → Ascends sources → AreApart (map Source sources)
sources-apart [] ascends = tt
sources-apart (x ∷ xs) ascends = (
  Each-made (λ later. is_same_input later (Source x) ≡ false) Source xs
      (Each-map (λ y. x < y) (λ y. nat_eq y x ≡ false) (λ y above. ne_eqb y x (λ same. omega (arith, same, above))) xs ascends.0),
  sources-apart xs ascends.1,
)

-- no source is a line
no-line : (line : ℕ) (sources : List ℕ) → Each (λ later. is_same_input later (line_input line) ≡ false) (map Source sources)
no-line line [] = tt
no-line line (x ∷ xs) = (refl, no-line line xs)

-- lines of ascending numbers, and then such sources, are apart
all-apart : (lines sources : List ℕ) → Ascends lines → Ascends sources → AreApart (map line_input lines ++ map Source sources)
all-apart [] sources first second = sources-apart sources second
all-apart (x ∷ xs) sources first second = (
  Each-append (λ later. is_same_input later (line_input x) ≡ false) (map line_input xs) (map Source sources)
      (Each-made (λ later. is_same_input later (line_input x) ≡ false) line_input xs
      (Each-map (λ y. x < y) (λ y. nat_eq y x ≡ false) (λ y above. ne_eqb y x (λ same. omega (arith, same, above))) xs first.0))
      (no-line x sources),
  all-apart xs sources first.1 second,
)

-- the inputs of an element are apart
inputs-apart : (plan : Topology) (element : ℕ) → AreApart (inputs_of plan element)
inputs-apart plan element =
    all-apart (lines_into plan element) (sources_at plan element)
    (ascends-filter (λ line. is_nominated plan line && receiver_of plan line == element) 0 (line_count plan))
    (ascends-filter (λ source. nat_lt 0 (source_priority plan source) && element_of_source plan source == element) 0 (length plan.sources))

-- what is found first among inputs that are apart
first-place : (inputs : List InputId) (i : ℕ) (input : InputId) → AreApart inputs → slice_get inputs i ≡ Some input
    → position_or_len (is_same_input input) inputs ≡ i
first-place [] i input apart at = absurd (none-some input at)
first-place (other ∷ inputs) zero input apart at =
    let same : is_same_input input other ≡ true = subst (λ o. is_same_input input o ≡ true) (sym (same_Some other input at)) (same-self input) in
    rw same refl
first-place (other ∷ inputs) (suc i) input apart at =
    let differs : is_same_input input other ≡ false = each-at (λ later. is_same_input later other ≡ false) inputs i input apart.0 at in
    rw (differs, first-place inputs i input apart.1 at) (omega arith)

-- the place of an input of an element is where it stands
pub place-at : (plan : Topology) (element i : ℕ) (input : InputId) → slice_get (inputs_of plan element) i ≡ Some input
    → place_at plan element input ≡ Some i
place-at plan element i input at =
    let first : position_or_len (is_same_input input) (inputs_of plan element) ≡ i = first-place (inputs_of plan element) i input (inputs-apart plan element) at in
    let within : i < length (inputs_of plan element) = slice_get_within (inputs_of plan element) i input at in
    rw (first, lt-ltb i (length (inputs_of plan element)) within) refl

-- what stands among the inputs of an element is a nominated input of it
pub input-of : (plan : Topology) (element i : ℕ) (input : InputId) → slice_get (inputs_of plan element) i ≡ Some input → IsInputOf plan element input
input-of plan element i input at = each-at (IsInputOf plan element) (inputs_of plan element) i input (inputs-are plan element) at
