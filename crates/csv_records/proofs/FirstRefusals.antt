-- The first refusal of some rows.
use Rattle.std.proofs.Common.{◌≡◌, ℕ, ◌<◌, true, Option, Some, None, refl, arith}
use Rattle.std.specs.Prelude.{is_some}
use Rattle.sync_text.proofs.Ranges.{find_range-none, find_range-first}
use Rattle.csv_records.specs.FirstRefusal.{first_refusal}

-- the first refusal, where no place before it has one
pub first_refusal-some : {E : Type 0} (refusal_at : ℕ → Option E) (n k : ℕ) (e : E) → k < n → refusal_at k ≡ Some e → ((i : ℕ) → i < k → refusal_at i ≡ None)
    → first_refusal refusal_at n ≡ Some e
first_refusal-some refusal_at n k e within here before =
    let hit : is_some (refusal_at k) ≡ true = rw here refl in
    let found = find_range-first (λ place. is_some (refusal_at place)) 0 n k (omega arith) (omega arith) hit (λ i low high. rw (before i high) refl) in
    rw found here

-- no refusal at any place
pub first_refusal-none : {E : Type 0} (refusal_at : ℕ → Option E) (n : ℕ) → ((i : ℕ) → i < n → refusal_at i ≡ None) → first_refusal refusal_at n ≡ None
first_refusal-none refusal_at n never =
    let found = find_range-none (λ place. is_some (refusal_at place)) 0 n (λ i low high. rw (never i (omega arith)) refl) in
    rw found refl
