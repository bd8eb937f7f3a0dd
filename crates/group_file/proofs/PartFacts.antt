-- Whether a place is marked, by the list of the marked ones.
use Rattle.std.proofs.Common.{◌≡◌, ℕ, Bool, true, false, List, [], ◌∷◌, refl, sym, ◌∙◌}
use Rattle.std.specs.Prelude.{nat_eq, slice_index_or}
use Rattle.std.specs.List.{list_any}
use Rattle.std.proofs.lemmas.Bool.{eqb-true, eq-eqb}
use Rattle.agenda.specs.Marked.{Marked, AreListed}
use Rattle.reach_rules.specs.Protection.{is_among}

eq-turned : (one other : ℕ) → nat_eq one other ≡ nat_eq other one
eq-turned one other = by (nat_eq one other) (nat_eq other one) refl refl
  where
    by : (a b : Bool) → nat_eq one other ≡ a → nat_eq other one ≡ b → a ≡ b
    by true true here there = refl
    by false false here there = refl
    by true false here there = sym (eq-eqb other one (sym (eqb-true one other here))) ∙ there
    by false true here there = sym here ∙ eq-eqb one other (sym (eqb-true other one there))

pub among-listed : (numbers : List ℕ) (number : ℕ) → is_among numbers number ≡ list_any (nat_eq number) numbers
among-listed [] number = refl
among-listed (other ∷ numbers) number = rw (eq-turned other number, among-listed numbers number) refl

pub marked-among : (marked : Marked) (place : ℕ) → AreListed marked → slice_index_or marked.flags place false ≡ is_among marked.listed place
marked-among marked place are = are.listed place ∙ sym (among-listed marked.listed place)
