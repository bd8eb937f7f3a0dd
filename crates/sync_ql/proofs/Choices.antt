-- What was chosen is chosen again, and is one of the inputs.
use Rattle.std.proofs.Common.{◌≡◌, ◌<◌, ℕ, Bool, true, false, not, ◌&&◌, List, length, position, Option, None, Some, IfSome, refl, ap, sym, ◌∙◌}
use Rattle.std.specs.List.{list_all}
use Rattle.std.proofs.lemmas.Bool.{and_parts}
use Rattle.std.proofs.lemmas.List.Quantifiers.{position-Some}
use Rattle.sync_ql.specs.declared.rules.Candidate.{Candidate}
use Rattle.sync_ql.specs.Selection.{candidate, is_eligible, is_better, beats, is_best, best_choice, manual_stands, standing_manual, choice}
use Rattle.sync_ql.proofs.Eligible.{nobody, eligible_within}

-- a manual switch that stands, stands again
pub standing_manual-again : (inputs : List Candidate) (manual : Option ℕ) → standing_manual inputs (standing_manual inputs manual) ≡ standing_manual inputs manual
standing_manual-again inputs manual = of (manual_stands inputs manual) refl
  where
    of : (b : Bool) → manual_stands inputs manual ≡ b → standing_manual inputs (standing_manual inputs manual) ≡ standing_manual inputs manual
    of true stands =
        let same : standing_manual inputs manual ≡ manual = rw stands refl in
        ap (standing_manual inputs) same
    of false falls =
        let none : standing_manual inputs manual ≡ None = rw falls refl in
        ap (standing_manual inputs) none ∙ sym none

first_again : (inputs : List Candidate) (found : Option ℕ) → found ≡ position (is_best inputs) inputs → best_choice inputs found ≡ found
first_again inputs None is = sym is
first_again inputs (Some i) is =
    let best : is_best inputs (candidate inputs i) ≡ true = (position-Some (is_best inputs) inputs i nobody (sym is)).1 in
    rw best refl

best_choice-again : (inputs : List Candidate) (taken : Option ℕ) → best_choice inputs (best_choice inputs taken) ≡ best_choice inputs taken
best_choice-again inputs None = first_again inputs (position (is_best inputs) inputs) refl
best_choice-again inputs (Some taken) = of (is_best inputs (candidate inputs taken)) refl
  where
    of : (b : Bool) → is_best inputs (candidate inputs taken) ≡ b → best_choice inputs (best_choice inputs (Some taken)) ≡ best_choice inputs (Some taken)
    of true best =
        let stays : best_choice inputs (Some taken) ≡ Some taken = rw best refl in
        ap (best_choice inputs) stays
    of false other =
        let first : best_choice inputs (Some taken) ≡ position (is_best inputs) inputs = rw other refl in
        ap (best_choice inputs) first ∙ first_again inputs (position (is_best inputs) inputs) refl ∙ sym first

-- the choice, made again from itself, is the same
pub choice-again : (inputs : List Candidate) (forced manual taken : Option ℕ) → choice inputs forced manual (choice inputs forced manual taken) ≡ choice inputs forced manual taken
choice-again inputs (Some forced) manual taken = refl
choice-again inputs None (Some manual) taken = refl
choice-again inputs None None taken = best_choice-again inputs taken

abbrev pub IsWithin : List Candidate → Option ℕ → Type 0
IsWithin inputs place = IfSome place (λ i. i < length inputs)

within_standing : (inputs : List Candidate) (manual : Option ℕ) → IsWithin inputs (standing_manual inputs manual)
within_standing inputs None = tt
within_standing inputs (Some i) = of (manual_stands inputs (Some i)) refl
  where
    of : (b : Bool) → manual_stands inputs (Some i) ≡ b → IsWithin inputs (standing_manual inputs (Some i))
    of true stands =
        let parts = and_parts (is_eligible (candidate inputs i)) (list_all (λ other. not (is_eligible other && is_better other.level (candidate inputs i).level)) inputs) stands in
        rw stands (eligible_within inputs i parts.0)
    of false falls = rw falls tt

best_within : (inputs : List Candidate) (i : ℕ) → is_best inputs (candidate inputs i) ≡ true → i < length inputs
best_within inputs i best =
    let parts = and_parts (is_eligible (candidate inputs i)) (list_all (λ other. not (is_eligible other && beats other (candidate inputs i))) inputs) best in
    eligible_within inputs i parts.0

within_first : (inputs : List Candidate) (found : Option ℕ) → found ≡ position (is_best inputs) inputs → IsWithin inputs found
within_first inputs None is = tt
within_first inputs (Some i) is = best_within inputs i ((position-Some (is_best inputs) inputs i nobody (sym is)).1)

within_best_choice : (inputs : List Candidate) (taken : Option ℕ) → IsWithin inputs (best_choice inputs taken)
within_best_choice inputs None = within_first inputs (position (is_best inputs) inputs) refl
within_best_choice inputs (Some taken) = of (is_best inputs (candidate inputs taken)) refl
  where
    of : (b : Bool) → is_best inputs (candidate inputs taken) ≡ b → IsWithin inputs (best_choice inputs (Some taken))
    of true best = rw best (best_within inputs taken best)
    of false other = rw other (within_first inputs (position (is_best inputs) inputs) refl)

within_choice : (inputs : List Candidate) (forced manual taken : Option ℕ) → IsWithin inputs manual → IsWithin inputs (choice inputs forced manual taken)
within_choice inputs (Some forced) manual taken within = of (is_eligible (candidate inputs forced)) refl
  where
    of : (b : Bool) → is_eligible (candidate inputs forced) ≡ b → IsWithin inputs (choice inputs (Some forced) manual taken)
    of true eligible = rw eligible (eligible_within inputs forced eligible)
    of false other = rw other tt
within_choice inputs None (Some manual) taken within = within
within_choice inputs None None taken within = within_best_choice inputs taken

-- what is chosen with a manual switch that stands is one of the inputs
pub choice-within : (inputs : List Candidate) (forced manual taken : Option ℕ) → IsWithin inputs (choice inputs forced (standing_manual inputs manual) taken)
choice-within inputs forced manual taken = within_choice inputs forced (standing_manual inputs manual) taken (within_standing inputs manual)
