-- Where names stand.
use Rattle.std.proofs.Common.{◌≡◌, ℕ, ◌<◌, zero, suc, List, [], ◌∷◌, length, map, Some, slice_get, refl, sym, ◌∙◌, inl, inr, arith}
use Rattle.std.specs.Option.{option_map_or}
use Rattle.std.proofs.lemmas.Bool.{cases_lt}
use Rattle.std.proofs.lemmas.Option.{slice_get_within}
use Rattle.sync_topo.specs.WellFormed.{AreDistinct}

-- two places of one name are one place
pub one-place : (names : List (List ℕ)) (i j : ℕ) (name : List ℕ) → AreDistinct names → slice_get names i ≡ Some name → slice_get names j ≡ Some name → i ≡ j
one-place names i j name distinct at_i at_j =
    elim (cases_lt i j) [
      | inl before ↦ absurd (distinct i j before (slice_get_within names j name at_j) (at_i ∙ sym at_j))
      | inr not_before ↦ elim (cases_lt j i) [
        | inl after ↦ absurd (distinct j i after (slice_get_within names i name at_i) (at_j ∙ sym at_i))
        | inr not_after ↦ omega arith
      ]
    ]

-- the name of the element at a place
pub name-there : {A : Type 0} (name_of : A → List ℕ) (items : List A) (i : ℕ) → i < length items
    → slice_get (map name_of items) i ≡ Some (option_map_or name_of (slice_get items i) [])
name-there name_of [] i within = absurd (omega arith)
name-there name_of (x ∷ items) zero within = refl
name-there name_of (x ∷ items) (suc i) within = name-there name_of items i (omega arith)
