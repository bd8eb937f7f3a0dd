-- What the rows of a certificate give, one after the other.
use Rattle.std.proofs.Common.{◌≡◌, ℕ, ◌+◌, ◌<◌, ◌≤◌, zero, suc, List, [], ◌∷◌, ◌++◌, length, take, drop, Option, Some, None, slice_get, refl, ap, sym, ◌∙◌, inl, inr, arith}
use Rattle.std.specs.Option.{option_or}
use Rattle.std.proofs.Math.Seq.{drop-nil}
use Rattle.std.proofs.lemmas.Bool.Decides.{eqb_tells}
use Rattle.std.proofs.lemmas.Option.{none-some, same_Some}
use Rattle.sync_topo.specs.Topology.{Topology}
use Rattle.rank_cert.specs.Ranks.{Ranks}
use Rattle.rank_cert.specs.Rows.{Fields, rank_in_row, line_in_row, rank_for, rank_by_rows}
use Rattle.rank_cert.specs.CertificateText.{row_refusal, refusal_at}
use Rattle.rank_cert.specs.private.RowsTaken.{refusal_after, AreRanksAfter, AreRanksBy, AreTaken}

-- one item more from the front
take-push : {A : Type 0} (xs : List A) (i : ℕ) (x : A) → slice_get xs i ≡ Some x → take (i + 1) xs ≡ take i xs ++ x ∷ []
take-push [] i x at = absurd (none-some x at)
take-push {A = A} (y ∷ ys) zero x at = ap (λ (z : A). z ∷ []) (same_Some y x at)
take-push {A = A} (y ∷ ys) (suc i) x at =
    let more : suc i + 1 ≡ suc (i + 1) = omega arith in
    rw more (ap (λ (zs : List A). y ∷ zs) (take-push ys i x at))

option_or-assoc : {A : Type 0} (a b c : Option A) → option_or a (option_or b c) ≡ option_or (option_or a b) c
option_or-assoc None b c = refl
option_or-assoc (Some x) b c = refl

option_or-None : {A : Type 0} (o : Option A) → o ≡ option_or o None
option_or-None None = refl
option_or-None (Some x) = refl

-- one row more
rank_by_rows-push : (plan : Topology) (rows : List Fields) (row : Fields) (line : ℕ)
    → rank_by_rows plan (rows ++ row ∷ []) line ≡ option_or (rank_by_rows plan rows line) (rank_for plan line row)
rank_by_rows-push plan [] row line = sym (option_or-None (rank_for plan line row))
rank_by_rows-push plan (first ∷ rows) row line =
    rw (rank_by_rows-push plan rows row line) (option_or-assoc (rank_for plan line first) (rank_by_rows plan rows line) (rank_for plan line row))

-- looking at the ranks so far is looking at the rows so far
refusal_after-is : (plan : Topology) (earlier : List Fields) (ranks : Ranks) (n : ℕ) (row : Fields) → AreRanksBy plan earlier ranks
    → refusal_after plan ranks n row ≡ row_refusal plan earlier n row
unfolding refusal_after
refusal_after-is plan earlier ranks n row by = cases (rank_in_row row) refl (line_in_row plan row) refl
  where
    cases : (r : Option ℕ) → rank_in_row row ≡ r → (l : Option ℕ) → line_in_row plan row ≡ l → refusal_after plan ranks n row ≡ row_refusal plan earlier n row
    cases None e l f = rw e refl
    cases (Some rank) e None f = rw (e, f) refl
    cases (Some rank) e (Some line) f = rw (e, f, by.each line) refl

-- the refusal at a place, where the rows before it give these ranks
pub refusal_at-is : (plan : Topology) (rows : List Fields) (place : ℕ) (ranks : Ranks) (row : Fields) → AreTaken plan rows place ranks → slice_get rows place ≡ Some row
    → refusal_at plan rows place ≡ refusal_after plan ranks (place + 1) row
refusal_at-is plan rows place ranks row taken at =
    rw at (sym (refusal_after-is plan (take place rows) ranks (place + 1) row taken.given))

-- one row more is taken
pub AreTaken-more : (plan : Topology) (rows : List Fields) (place : ℕ) (ranks now : Ranks) (row : Fields) → AreTaken plan rows place ranks → slice_get rows place ≡ Some row
    → refusal_after plan ranks (place + 1) row ≡ None → AreRanksAfter plan ranks row now → AreTaken plan rows (place + 1) now
AreTaken-more plan rows place ranks now row taken at sound after = record {
  sound = λ i before. elim (eqb_tells i place) [
    | inl here ↦ rw here.1 (refusal_at-is plan rows place ranks row taken at ∙ sound)
    | inr other ↦ taken.sound i (omega (arith, other.1))
  ];
  given = record {
    counted = after.counted ∙ taken.given.counted;
    each = λ line.
        after.each line ∙ rw (taken.given.each line) (sym (rw (take-push rows place row at) (rank_by_rows-push plan (take place rows) row line)));
  };
}

-- the first of the rows that are left, where it stands among all
pub at_drop : {A : Type 0} (all : List A) (n : ℕ) (x : A) (rest : List A) → drop n all ≡ x ∷ rest
    → (slice_get all n ≡ Some x) × (rest ≡ drop (n + 1) all) × (n < length all)
at_drop [] n x rest is = absurd (cc (rw (drop-nil n) at is))
at_drop {A = A} (y ∷ ys) zero x rest is =
    (ap (λ (all : List A). slice_get all 0) is, sym (ap (λ (all : List A). drop 1 all) is), omega arith)
at_drop (y ∷ ys) (suc n) x rest is =
    let later = at_drop ys n x rest is in
    let more : suc n + 1 ≡ suc (n + 1) = omega arith in
    (later.0, rw more later.1, omega (arith, later.2))

-- where none are left, all were taken
pub all_taken : {A : Type 0} (all : List A) (n : ℕ) → drop n all ≡ [] → length all ≤ n
all_taken [] n is = omega arith
all_taken (y ∷ ys) zero is = absurd (cc is)
all_taken (y ∷ ys) (suc n) is = omega (arith, all_taken ys n is)
