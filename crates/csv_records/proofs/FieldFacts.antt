-- The fields of a record, as `csv` finds them.
use Rattle.std.proofs.Common.{◌≡◌, ◌≢◌, ◌<◌, ℕ, zero, suc, List, [], ◌∷◌, length, Some, None, slice_get, refl, arith}
use Rattle.csv.specs.Records.{field_at}
use Rattle.csv_records.specs.Fields.{pair_of, four_of, five_of}

-- the field at a place is the list's element there
pub field_at_is : (fields : List (List ℕ)) (i : ℕ) → field_at fields i ≡ slice_get fields i
unfolding field_at
field_at_is [] i = refl
field_at_is (f ∷ fs) zero = refl
field_at_is (f ∷ fs) (suc i) = field_at_is fs i

-- two fields that are the first and the second of two
pub pair_is : (fields : List (List ℕ)) (a b : List ℕ) → length fields ≡ 2 → Some a ≡ slice_get fields 0 → Some b ≡ slice_get fields 1
    → Some (a, b) ≡ pair_of fields
pair_is [] a b n e f = absurd (omega arith)
pair_is (x ∷ []) a b n e f = absurd (omega arith)
pair_is (x ∷ y ∷ []) a b n e f = cc
pair_is (x ∷ y ∷ z ∷ more) a b n e f = absurd (omega arith)

-- another number of fields is no pair
pub pair_other : (fields : List (List ℕ)) → length fields ≢ 2 → pair_of fields ≡ None
pair_other [] n = refl
pair_other (x ∷ []) n = refl
pair_other (x ∷ y ∷ []) n = absurd (n refl)
pair_other (x ∷ y ∷ z ∷ more) n = refl

-- a record without a first or a second field is no pair
pub pair_short : (fields : List (List ℕ)) → slice_get fields 1 ≡ None → pair_of fields ≡ None
pair_short [] n = refl
pair_short (x ∷ []) n = refl
pair_short (x ∷ y ∷ more) n = cc

pub pair_empty : (fields : List (List ℕ)) → slice_get fields 0 ≡ None → pair_of fields ≡ None
pair_empty [] n = refl
pair_empty (x ∷ more) n = cc

-- what the fields of a record say of its pair
pub ruleset pair_facts = (pair_is, pair_other, pair_short, pair_empty)

-- four fields that are the first to the fourth of four
pub four_is : (fields : List (List ℕ)) (a b c d : List ℕ) → length fields ≡ 4 → Some a ≡ slice_get fields 0 → Some b ≡ slice_get fields 1
    → Some c ≡ slice_get fields 2 → Some d ≡ slice_get fields 3 → Some (a, b, c, d) ≡ four_of fields
four_is [] a b c d n e f g h = absurd (omega arith)
four_is (w ∷ []) a b c d n e f g h = absurd (omega arith)
four_is (w ∷ x ∷ []) a b c d n e f g h = absurd (omega arith)
four_is (w ∷ x ∷ y ∷ []) a b c d n e f g h = absurd (omega arith)
four_is (w ∷ x ∷ y ∷ z ∷ []) a b c d n e f g h = cc
four_is (v ∷ w ∷ x ∷ y ∷ z ∷ more) a b c d n e f g h = absurd (omega arith)

-- a record of another length is not of four
pub four_other : (fields : List (List ℕ)) → length fields ≢ 4 → four_of fields ≡ None
four_other [] n = refl
four_other (w ∷ []) n = refl
four_other (w ∷ x ∷ []) n = refl
four_other (w ∷ x ∷ y ∷ []) n = refl
four_other (w ∷ x ∷ y ∷ z ∷ []) n = absurd (n refl)
four_other (v ∷ w ∷ x ∷ y ∷ z ∷ more) n = refl

-- nor is one without a field at one of the first four places
pub four_short : (fields : List (List ℕ)) (place : ℕ) → place < 4 → slice_get fields place ≡ None → four_of fields ≡ None
four_short [] place within n = refl
four_short (w ∷ []) place within n = refl
four_short (w ∷ x ∷ []) place within n = refl
four_short (w ∷ x ∷ y ∷ []) place within n = refl
four_short (w ∷ x ∷ y ∷ z ∷ []) zero within n = cc
four_short (w ∷ x ∷ y ∷ z ∷ []) (suc zero) within n = cc
four_short (w ∷ x ∷ y ∷ z ∷ []) (suc (suc zero)) within n = cc
four_short (w ∷ x ∷ y ∷ z ∷ []) (suc (suc (suc zero))) within n = cc
four_short (w ∷ x ∷ y ∷ z ∷ []) (suc (suc (suc (suc place)))) within n = absurd (omega arith)
four_short (v ∷ w ∷ x ∷ y ∷ z ∷ more) place within n = refl

-- what the fields of a record say of its four
pub ruleset four_facts = (four_is, four_other, four_short)

-- five fields that are the first to the fifth of five
pub five_is : (fields : List (List ℕ)) (a b c d e : List ℕ) → length fields ≡ 5 → Some a ≡ slice_get fields 0 → Some b ≡ slice_get fields 1
    → Some c ≡ slice_get fields 2 → Some d ≡ slice_get fields 3 → Some e ≡ slice_get fields 4 → Some (a, b, c, d, e) ≡ five_of fields
five_is [] a b c d e n f g h i j = absurd (omega arith)
five_is (v ∷ []) a b c d e n f g h i j = absurd (omega arith)
five_is (v ∷ w ∷ []) a b c d e n f g h i j = absurd (omega arith)
five_is (v ∷ w ∷ x ∷ []) a b c d e n f g h i j = absurd (omega arith)
five_is (v ∷ w ∷ x ∷ y ∷ []) a b c d e n f g h i j = absurd (omega arith)
five_is (v ∷ w ∷ x ∷ y ∷ z ∷ []) a b c d e n f g h i j = cc
five_is (u ∷ v ∷ w ∷ x ∷ y ∷ z ∷ more) a b c d e n f g h i j = absurd (omega arith)

-- a record of another length is not of five
pub five_other : (fields : List (List ℕ)) → length fields ≢ 5 → five_of fields ≡ None
five_other [] n = refl
five_other (v ∷ []) n = refl
five_other (v ∷ w ∷ []) n = refl
five_other (v ∷ w ∷ x ∷ []) n = refl
five_other (v ∷ w ∷ x ∷ y ∷ []) n = refl
five_other (v ∷ w ∷ x ∷ y ∷ z ∷ []) n = absurd (n refl)
five_other (u ∷ v ∷ w ∷ x ∷ y ∷ z ∷ more) n = refl

-- nor is one without a field at one of the first five places
pub five_short : (fields : List (List ℕ)) (place : ℕ) → place < 5 → slice_get fields place ≡ None → five_of fields ≡ None
five_short [] place within n = refl
five_short (v ∷ []) place within n = refl
five_short (v ∷ w ∷ []) place within n = refl
five_short (v ∷ w ∷ x ∷ []) place within n = refl
five_short (v ∷ w ∷ x ∷ y ∷ []) place within n = refl
five_short (v ∷ w ∷ x ∷ y ∷ z ∷ []) zero within n = cc
five_short (v ∷ w ∷ x ∷ y ∷ z ∷ []) (suc zero) within n = cc
five_short (v ∷ w ∷ x ∷ y ∷ z ∷ []) (suc (suc zero)) within n = cc
five_short (v ∷ w ∷ x ∷ y ∷ z ∷ []) (suc (suc (suc zero))) within n = cc
five_short (v ∷ w ∷ x ∷ y ∷ z ∷ []) (suc (suc (suc (suc zero)))) within n = cc
five_short (v ∷ w ∷ x ∷ y ∷ z ∷ []) (suc (suc (suc (suc (suc place))))) within n = absurd (omega arith)
five_short (u ∷ v ∷ w ∷ x ∷ y ∷ z ∷ more) place within n = refl

-- what the fields of a record say of its five
pub ruleset five_facts = (five_is, five_other, five_short)
