-- The fields of a record of three.
use Rattle.std.proofs.Common.{◌≡◌, ◌≢◌, ◌<◌, ℕ, zero, suc, List, [], ◌∷◌, length, Some, None, slice_get, refl, arith}
use Rattle.group_file.specs.Rows.{three_of}

-- three fields that are the first to the third of three
pub three_is : (fields : List (List ℕ)) (a b c : List ℕ) → length fields ≡ 3 → Some a ≡ slice_get fields 0 → Some b ≡ slice_get fields 1
    → Some c ≡ slice_get fields 2 → Some (a, b, c) ≡ three_of fields
three_is [] a b c n e f g = absurd (omega arith)
three_is (x ∷ []) a b c n e f g = absurd (omega arith)
three_is (x ∷ y ∷ []) a b c n e f g = absurd (omega arith)
three_is (x ∷ y ∷ z ∷ []) a b c n e f g = cc
three_is (w ∷ x ∷ y ∷ z ∷ more) a b c n e f g = absurd (omega arith)

-- a record of another length is not of three
pub three_other : (fields : List (List ℕ)) → length fields ≢ 3 → three_of fields ≡ None
three_other [] n = refl
three_other (x ∷ []) n = refl
three_other (x ∷ y ∷ []) n = refl
three_other (x ∷ y ∷ z ∷ []) n = absurd (n refl)
three_other (w ∷ x ∷ y ∷ z ∷ more) n = refl

-- nor is one without a field at one of the first three places
pub three_short : (fields : List (List ℕ)) (place : ℕ) → place < 3 → slice_get fields place ≡ None → three_of fields ≡ None
three_short [] place within n = refl
three_short (x ∷ []) place within n = refl
three_short (x ∷ y ∷ []) place within n = refl
three_short (x ∷ y ∷ z ∷ []) zero within n = cc
three_short (x ∷ y ∷ z ∷ []) (suc zero) within n = cc
three_short (x ∷ y ∷ z ∷ []) (suc (suc zero)) within n = cc
three_short (x ∷ y ∷ z ∷ []) (suc (suc (suc place))) within n = absurd (omega arith)
three_short (w ∷ x ∷ y ∷ z ∷ more) place within n = refl

-- what the fields of a record say of its three
pub ruleset three_facts = (three_is, three_other, three_short)
