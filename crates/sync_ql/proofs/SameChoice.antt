-- Candidates that are alike place by place give one choice, and what is chosen is eligible.
use Rattle.std.proofs.Common.{◌≡◌, ℕ, zero, suc, Bool, true, false, not, ◌&&◌, cond, nat_lt, List, [], ◌∷◌, length, position, Option, None, Some, IfSome, refl, ap, sym, ◌∙◌, inl, inr}
use Rattle.std.specs.Prelude.{if◌then◌else◌}
use Rattle.std.specs.List.{list_all, prefix_len, position_or_len}
use Rattle.std.proofs.lemmas.Bool.{and_parts}
use Rattle.std.proofs.lemmas.List.Quantifiers.{position-Some}
use Rattle.sync_ql.specs.declared.rules.Candidate.{Candidate}
use Rattle.sync_ql.specs.Selection.{candidate, is_eligible, is_better, beats, is_best, best_choice, manual_stands, standing_manual, choice, IsEligible}
use Rattle.sync_ql.specs.Taken.{AreAlike, AllAlike}
use Rattle.sync_ql.proofs.Eligible.{nobody}

-- a test that only eligible candidates pass says the same of candidates that are alike
tests_alike : (p q : Candidate → Bool) → ((c : Candidate) → p c ≡ q c) → ((c : Candidate) → is_eligible c ≡ false → p c ≡ false) → (a b : Candidate) → AreAlike a b → p a ≡ q b
tests_alike p q same only a b alike =
    elim alike [
      | inl equal ↦ ap p equal ∙ same b
      | inr neither ↦ only a neither.0 ∙ sym (only b neither.1) ∙ same b
    ]

not_passed : (test : Candidate → Bool) (c : Candidate) → is_eligible c ≡ false → (is_eligible c && test c) ≡ false
not_passed test c out = rw out refl

-- no eligible candidate of alike lists passes a test
none_alike : (test : Candidate → Bool) (inputs others : List Candidate) → AllAlike inputs others → list_all (λ other. not (is_eligible other && test other)) inputs ≡ list_all (λ other. not (is_eligible other && test other)) others
none_alike test [] [] alike = refl
none_alike test (a ∷ inputs) (b ∷ others) alike =
    let first = tests_alike (λ c. is_eligible c && test c) (λ c. is_eligible c && test c) (λ c. refl) (not_passed test) a b alike.0 in
    rw (first, none_alike test inputs others alike.1) refl
none_alike test [] (b ∷ others) alike = absurd alike
none_alike test (a ∷ inputs) [] alike = absurd alike

best_alike : (inputs others : List Candidate) → AllAlike inputs others → (c : Candidate) → is_best inputs c ≡ is_best others c
best_alike inputs others alike c = ap (λ none. is_eligible c && none) (none_alike (λ other. beats other c) inputs others alike)

best_only : (inputs : List Candidate) (c : Candidate) → is_eligible c ≡ false → is_best inputs c ≡ false
best_only inputs c out = rw out refl

-- the first that passes has one place in both
prefix_alike : (p q : Candidate → Bool) → ((c : Candidate) → p c ≡ q c) → ((c : Candidate) → is_eligible c ≡ false → p c ≡ false) → (inputs others : List Candidate) → AllAlike inputs others → prefix_len (λ c. not (p c)) inputs ≡ prefix_len (λ c. not (q c)) others
prefix_alike p q same only [] [] alike = refl
prefix_alike p q same only (a ∷ inputs) (b ∷ others) alike =
    rw (tests_alike p q same only a b alike.0, prefix_alike p q same only inputs others alike.1) refl
prefix_alike p q same only [] (b ∷ others) alike = absurd alike
prefix_alike p q same only (a ∷ inputs) [] alike = absurd alike

length_alike : (inputs others : List Candidate) → AllAlike inputs others → length inputs ≡ length others
length_alike [] [] alike = refl
length_alike (a ∷ inputs) (b ∷ others) alike = ap suc (length_alike inputs others alike.1)
length_alike [] (b ∷ others) alike = absurd alike
length_alike (a ∷ inputs) [] alike = absurd alike

first_alike : (inputs others : List Candidate) → AllAlike inputs others → position (is_best inputs) inputs ≡ position (is_best others) others
first_alike inputs others alike =
    let before : position_or_len (is_best inputs) inputs ≡ position_or_len (is_best others) others =
    prefix_alike (is_best inputs) (is_best others) (best_alike inputs others alike) (best_only inputs) inputs others alike in
    ap (λ n. cond (nat_lt n (length inputs)) (Some n) None) before
    ∙ ap (λ m. cond (nat_lt (position_or_len (is_best others) others) m) (Some (position_or_len (is_best others) others)) None) (length_alike inputs others alike)

-- the candidates at one place are alike
place_alike : (inputs others : List Candidate) → AllAlike inputs others → (i : ℕ) → AreAlike (candidate inputs i) (candidate others i)
place_alike [] [] alike i = inl refl
place_alike (a ∷ inputs) (b ∷ others) alike zero = alike.0
place_alike (a ∷ inputs) (b ∷ others) alike (suc i) = place_alike inputs others alike.1 i
place_alike [] (b ∷ others) alike i = absurd alike
place_alike (a ∷ inputs) [] alike i = absurd alike

best_at_alike : (inputs others : List Candidate) → AllAlike inputs others → (i : ℕ) → is_best inputs (candidate inputs i) ≡ is_best others (candidate others i)
best_at_alike inputs others alike i =
    tests_alike (is_best inputs) (is_best others) (best_alike inputs others alike) (best_only inputs) (candidate inputs i) (candidate others i) (place_alike inputs others alike i)

eligible_alike : (inputs others : List Candidate) → AllAlike inputs others → (i : ℕ) → is_eligible (candidate inputs i) ≡ is_eligible (candidate others i)
eligible_alike inputs others alike i =
    tests_alike is_eligible is_eligible (λ c. refl) (λ c out. out) (candidate inputs i) (candidate others i) (place_alike inputs others alike i)

best_choice_alike : (inputs others : List Candidate) → AllAlike inputs others → (taken : Option ℕ) → best_choice inputs taken ≡ best_choice others taken
best_choice_alike inputs others alike None = first_alike inputs others alike
best_choice_alike inputs others alike (Some i) = rw (best_at_alike inputs others alike i, first_alike inputs others alike) refl

stands_at : (inputs : List Candidate) (c : Candidate) → Bool
stands_at inputs c = is_eligible c && list_all (λ other. not (is_eligible other && is_better other.level c.level)) inputs

stands_alike : (inputs others : List Candidate) → AllAlike inputs others → (i : ℕ) → manual_stands inputs (Some i) ≡ manual_stands others (Some i)
unfolding stands_at
stands_alike inputs others alike i =
    tests_alike (stands_at inputs) (stands_at others)
    (λ c. ap (λ none. is_eligible c && none) (none_alike (λ other. is_better other.level c.level) inputs others alike))
    (λ c out. rw out refl) (candidate inputs i) (candidate others i) (place_alike inputs others alike i)

pub standing_alike : (inputs others : List Candidate) → AllAlike inputs others → (manual : Option ℕ) → standing_manual inputs manual ≡ standing_manual others manual
standing_alike inputs others alike None = refl
standing_alike inputs others alike (Some i) = ap (λ stands. if stands then Some i else None) (stands_alike inputs others alike i)

pub choice_alike : (inputs others : List Candidate) → AllAlike inputs others → (forced manual taken : Option ℕ) → choice inputs forced manual taken ≡ choice others forced manual taken
choice_alike inputs others alike (Some forced) manual taken = ap (λ eligible. if eligible then Some forced else None) (eligible_alike inputs others alike forced)
choice_alike inputs others alike None (Some manual) taken = refl
choice_alike inputs others alike None None taken = best_choice_alike inputs others alike taken

-- what is chosen is eligible
eligible_if : (inputs : List Candidate) (i : ℕ) (stands : Bool) → (stands ≡ true → is_eligible (candidate inputs i) ≡ true) → IfSome (if stands then Some i else None) (IsEligible inputs)
eligible_if inputs i true is = is refl
eligible_if inputs i false is = tt

standing_eligible : (inputs : List Candidate) (manual : Option ℕ) → IfSome (standing_manual inputs manual) (IsEligible inputs)
standing_eligible inputs None = tt
standing_eligible inputs (Some i) = eligible_if inputs i (manual_stands inputs (Some i)) (λ stands. (and_parts _ _ stands).0)

first_eligible : (inputs : List Candidate) (found : Option ℕ) → position (is_best inputs) inputs ≡ found → IfSome found (IsEligible inputs)
first_eligible inputs None is = tt
first_eligible inputs (Some i) is = (and_parts _ _ (position-Some (is_best inputs) inputs i nobody is).1).0

best_choice_eligible : (inputs : List Candidate) (taken : Option ℕ) → IfSome (best_choice inputs taken) (IsEligible inputs)
best_choice_eligible inputs None = first_eligible inputs (position (is_best inputs) inputs) refl
best_choice_eligible inputs (Some i) = of (is_best inputs (candidate inputs i)) refl
  where
    of : (best : Bool) → is_best inputs (candidate inputs i) ≡ best → IfSome (if best then Some i else position (is_best inputs) inputs) (IsEligible inputs)
    of true best = (and_parts _ _ best).0
    of false other = first_eligible inputs (position (is_best inputs) inputs) refl

chosen_eligible : (inputs : List Candidate) (forced standing taken : Option ℕ) → IfSome standing (IsEligible inputs) → IfSome (choice inputs forced standing taken) (IsEligible inputs)
chosen_eligible inputs (Some forced) standing taken stands = eligible_if inputs forced (is_eligible (candidate inputs forced)) (λ is. is)
chosen_eligible inputs None (Some i) taken stands = stands
chosen_eligible inputs None None taken stands = best_choice_eligible inputs taken

pub choice_eligible : (inputs : List Candidate) (forced manual taken : Option ℕ) → IfSome (choice inputs forced (standing_manual inputs manual) taken) (IsEligible inputs)
choice_eligible inputs forced manual taken = chosen_eligible inputs forced (standing_manual inputs manual) taken (standing_eligible inputs manual)
