-- Where inputs stand among those of their elements.
use Rattle.std.proofs.Common.{◌≡◌, ℕ, Bool, true, false, ◌&&◌, List, [], ◌∷◌, ◌++◌, map, length, get_or, Option, None, Some, position, refl, ap, sym, subst, ◌∙◌, nat_lt}
use Rattle.std.specs.Prelude.{if◌then◌else◌, ◌==◌}
use Rattle.std.specs.List.{range_with_len, All}
use Rattle.std.proofs.lemmas.Bool.{true≢false, eqb-true, eq-eqb, and_parts}
use Rattle.std.proofs.lemmas.List.{append-nil}
use Rattle.std.proofs.lemmas.List.Elements.{All-append, All-map, filter_passes}
use Rattle.std.proofs.lemmas.List.Quantifiers.{position-Some}
use Rattle.sync_topo.specs.declared.input.InputId.{InputId}
use Rattle.sync_topo.specs.declared.input.InputId.TheVariants.{Line, Source}
use Rattle.sync_topo.specs.Topology.{Topology}
use Rattle.sync_topo.specs.Lines.{line_count, line_input, lines_into, sources_at, inputs_of, IsInput, is_nominated, is_nominated_input, is_same_input, place_at, receiver_of, element_of_source, source_priority}
use Rattle.sync_topo.specs.private.Held.{taken}
use Rattle.sync_topo.proofs.Inputs.{inputs_of-within}
use Rattle.sync_topo.proofs.Lists.{position-push}

-- inputs that are the same are equal, and each is the same as itself
pub same-is : (input other : InputId) → is_same_input input other ≡ true → input ≡ other
same-is (Line line) (Line other) is = ap line_input (eqb-true line.0 other.0 is)
same-is (Source source) (Source other) is = ap Source (eqb-true source other is)
same-is (Line line) (Source other) is = cc
same-is (Source source) (Line other) is = cc

pub same-self : (input : InputId) → is_same_input input input ≡ true
same-self (Line line) = eq-eqb line.0 line.0 refl
same-self (Source source) = eq-eqb source source refl

-- what isn't true of an input that is true of all inputs of an element: it has no place there
pub no-place : (P : InputId → Type 0) (plan : Topology) (element : ℕ) (input : InputId) → All P (inputs_of plan element) → (P input → ⊥) → place_at plan element input ≡ None
no-place P plan element input all never = of (place_at plan element input) refl
  where
    of : (o : Option ℕ) → place_at plan element input ≡ o → o ≡ None
    of None is = refl
    of (Some i) is =
        let found = position-Some (is_same_input input) (inputs_of plan element) i input is in
        absurd (never (subst P (sym (same-is input (get_or (inputs_of plan element) i input) found.1)) (all i input found.0)))

-- every input of an element is nominated
pub inputs_of-nominated : (plan : Topology) (element : ℕ) → All (λ input. is_nominated_input plan input ≡ true) (inputs_of plan element)
inputs_of-nominated plan element =
    All-append (λ input. is_nominated_input plan input ≡ true) (map line_input (lines_into plan element)) (map Source (sources_at plan element))
    (All-map (λ input. is_nominated_input plan input ≡ true) line_input (lines_into plan element)
    (λ j e h. (and_parts _ _ (filter_passes (λ line. is_nominated plan line && receiver_of plan line == element) (range_with_len 0 (line_count plan)) j e h)).0))
    (All-map (λ input. is_nominated_input plan input ≡ true) Source (sources_at plan element)
    (λ j e h. (and_parts _ _ (filter_passes (λ source. nat_lt 0 (source_priority plan source) && element_of_source plan source == element) (range_with_len 0 (length plan.sources)) j e h)).0))

-- one that isn't nominated has no place
pub not-placed : (plan : Topology) (element : ℕ) (input : InputId) → is_nominated_input plan input ≡ false → place_at plan element input ≡ None
not-placed plan element input not_nominated =
    no-place (λ other. is_nominated_input plan other ≡ true) plan element input (inputs_of-nominated plan element) (λ is. true≢false (sym is ∙ not_nominated))

-- nor has one that the plan doesn't have
pub new-placed : (plan : Topology) (element : ℕ) (input : InputId) → (IsInput plan input → ⊥) → place_at plan element input ≡ None
new-placed plan element input never = no-place (IsInput plan) plan element input (inputs_of-within plan element) never

-- what has a place keeps it when more is taken
pub place-kept : (p : InputId → Bool) (inputs : List InputId) (owner priority : ℕ) (item : InputId) (element place : ℕ) → position p inputs ≡ Some place
    → position p (inputs ++ taken owner priority item element) ≡ Some place
place-kept p inputs owner priority item element place is = of (nat_lt 0 priority && owner == element)
  where
    of : (b : Bool) → position p (inputs ++ (if b then item ∷ [] else [])) ≡ Some place
    of true = position-push p inputs item ∙ rw is refl
    of false = rw (append-nil inputs) is

-- what is new comes last
pub place-last : (inputs : List InputId) (item : InputId) → position (is_same_input item) inputs ≡ None
    → position (is_same_input item) (inputs ++ item ∷ []) ≡ Some (length inputs)
place-last inputs item none = position-push (is_same_input item) inputs item ∙ (rw (none, same-self item) refl)
