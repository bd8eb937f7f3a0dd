-- A fact of each item of a list, by recursion over the list.
use Rattle.std.specs.Prelude.{List, [], ◌∷◌, ⊤}

abbrev pub Each : {A : Type 0} → (A → Type 0) → List A → Type 0
Each P [] = ⊤
Each P (x ∷ xs) = P x × Each P xs
