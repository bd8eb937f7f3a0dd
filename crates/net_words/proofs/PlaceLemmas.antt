-- Where the inputs of elements stand.
use Rattle.std.proofs.Common.{◌≡◌, ℕ, suc, Bool, true, false, List, [], ◌∷◌, get_or, Option, None, Some, slice_get, refl, ap, sym, ◌∙◌}
use Rattle.std.specs.Prelude.{nat_eq, if◌then◌else◌}
use Rattle.std.proofs.lemmas.Bool.{true≢false, eqb-true, eq-eqb}
use Rattle.std.proofs.lemmas.List.Quantifiers.{position-Some}
use Rattle.std.proofs.lemmas.Option.{slice_get-get_or}
use Rattle.sync_text.proofs.Each.{Each-map}
use Rattle.sync_text.specs.Each.{Each}
use Rattle.sync_topo.specs.declared.input.InputId.{InputId}
use Rattle.sync_topo.specs.Topology.{Topology}
use Rattle.sync_topo.specs.Lines.{inputs_of, is_same_input, place_at, element_of}
use Rattle.net_rules.specs.Inputs.{IsInputOf}
use Rattle.net_rules.proofs.InputLaws.{each-input}
use Rattle.net_words.proofs.DistinctInputs.{input-of}
use Rattle.sync_topo.proofs.InputPlaces.{same-is}

-- an input stands at its place
pub found-at : (plan : Topology) (element i : ℕ) (input : InputId) → place_at plan element input ≡ Some i → slice_get (inputs_of plan element) i ≡ Some input
found-at plan element i input is =
    let found = position-Some (is_same_input input) (inputs_of plan element) i input is in
    slice_get-get_or (inputs_of plan element) i input found.0
    ∙ ap Some (sym (same-is input (get_or (inputs_of plan element) i input) found.1))

-- what isn't an input of an element has no place there
pub no-place-there : (plan : Topology) (element : ℕ) (input : InputId) → (IsInputOf plan element input → ⊥) → place_at plan element input ≡ None
no-place-there plan element input never = of (place_at plan element input) refl
  where
    of : (o : Option ℕ) → place_at plan element input ≡ o → o ≡ None
    of None is = refl
    of (Some i) is = absurd (never (input-of plan element i input (found-at plan element i input is)))

-- each of a list stands somewhere in it
each-stands : {A : Type 0} (xs : List A) → Each (λ x. (i : ℕ) × (slice_get xs i ≡ Some x)) xs
each-stands [] = tt
each-stands (x ∷ xs) =
    ((0, refl), Each-map (λ y. (i : ℕ) × (slice_get xs i ≡ Some y)) (λ y. (i : ℕ) × (slice_get (x ∷ xs) i ≡ Some y)) (λ y there. (suc there.0, there.1)) xs (each-stands xs))

-- an input of an element stands among its inputs
pub stands-there : (plan : Topology) (element : ℕ) (input : InputId) → IsInputOf plan element input → (i : ℕ) × (slice_get (inputs_of plan element) i ≡ Some input)
stands-there plan element = each-input (λ input. (i : ℕ) × (slice_get (inputs_of plan element) i ≡ Some input)) plan element (each-stands (inputs_of plan element))

-- a nominated input has its place at its element, and none at any other
pub placed-in : (plan : Topology) (one place : ℕ) (input : InputId) → one ≡ element_of plan input → place_at plan (element_of plan input) input ≡ Some place → (element : ℕ)
    → place_at plan element input ≡ (if nat_eq one element then Some place else None)
placed-in plan one place input is_of at element = by (nat_eq one element) refl
  where
    by : (b : Bool) → nat_eq one element ≡ b → place_at plan element input ≡ (if b then Some place else None)
    by true same = ap (λ e. place_at plan e input) (sym (eqb-true one element same) ∙ is_of) ∙ at
    by false differs = no-place-there plan element input (λ of. true≢false (sym (eq-eqb one element (is_of ∙ of.of_element)) ∙ differs))
