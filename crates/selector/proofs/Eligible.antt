-- What no eligible input of a list is.
use Rattle.std.proofs.Common.{◌≡◌, ◌<◌, ℕ, Bool, true, false, not, ◌&&◌, List, length, get_or, refl, sym, ◌∙◌}
use Rattle.std.specs.List.{list_all}
use Rattle.std.proofs.lemmas.List.{get_or_default}
use Rattle.std.proofs.lemmas.List.Folds.{list_all_at}
use Rattle.std.proofs.lemmas.List.Recursion.{and_from_places}
use Rattle.sync_ql.specs.declared.rules.Candidate.{Candidate}
use Rattle.sync_ql.specs.Selection.{candidate, is_eligible}
use Rattle.sync_ql.proofs.Eligible.{nobody, eligible_within}

-- an input that was read is the candidate at its place
pub read_is : (inputs : List Candidate) (i : ℕ) (c : Candidate) → c ≡ get_or inputs i c → i < length inputs → candidate inputs i ≡ c
read_is inputs i c read within = get_or_default inputs i nobody c within ∙ sym read

-- whether no eligible input passes a test
abbrev pub none_passes : (Candidate → Bool) → List Candidate → Bool
none_passes test inputs = list_all (λ other. not (is_eligible other && test other)) inputs

pub none_passes-true : (test : Candidate → Bool) (inputs : List Candidate) → ((k : ℕ) → is_eligible (candidate inputs k) ≡ true → test (candidate inputs k) ≡ false) → none_passes test inputs ≡ true
none_passes-true test inputs fails =
    and_from_places (none_passes test) (λ other. not (is_eligible other && test other)) refl (λ x xs. refl) inputs nobody
    (λ k within. at k (is_eligible (candidate inputs k)) refl)
  where
    at : (k : ℕ) (b : Bool) → is_eligible (candidate inputs k) ≡ b → not (is_eligible (candidate inputs k) && test (candidate inputs k)) ≡ true
    at k true eligible = rw (eligible, fails k eligible) refl
    at k false not_eligible = rw not_eligible refl

pub none_passes-false : (test : Candidate → Bool) (inputs : List Candidate) (k : ℕ) → is_eligible (candidate inputs k) ≡ true → test (candidate inputs k) ≡ true → none_passes test inputs ≡ false
none_passes-false test inputs k eligible passes =
    list_all_at (λ other. not (is_eligible other && test other)) inputs k nobody (eligible_within inputs k eligible) (rw (eligible, passes) refl)
