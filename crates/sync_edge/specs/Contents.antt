-- What a folder holds, where it tells it, and what a call of it leaves as it was.
use Rattle.std.specs.Prelude.{◌≡◌, ◌<◌, ◌≤◌, ⊤, ℕ, List, [], length, Bool, IsTrue, Option, Some, None, IsSome, IsSomeAnd}
use Rattle.std.specs.Ordering.{nat_cmp}
use Rattle.std.specs.Cmp.Lexicographic.{slice_cmp}
use Rattle.std.specs.FinMap.{FinMap, get}

-- the bytes under each name
abbrev pub Contents : Type 0
Contents = FinMap (slice_cmp nat_cmp) (List ℕ)

-- the contents are told, and have this name
abbrev pub HasName : Option Contents → List ℕ → Type 0
HasName None name = ⊥
HasName (Some files) name = IsSome (get files name)

-- where contents are told, they have these bytes under this name
abbrev pub Holds : Option Contents → List ℕ → List ℕ → Type 0
Holds None name bytes = ⊤
Holds (Some files) name bytes = get files name ≡ Some bytes

-- where contents are told, they have more than `limit` bytes under this name
abbrev pub HoldsMoreThan : ℕ → Option Contents → List ℕ → Type 0
HoldsMoreThan limit None name = ⊤
HoldsMoreThan limit (Some files) name = IsSomeAnd (get files name) (λ bytes. limit < length bytes)

-- where contents are told, what is left is the whole file of this name
abbrev pub Starts : Option Contents → List ℕ → Option (List ℕ) → Type 0
Starts None name left = ⊤
Starts (Some files) name None = ⊥
Starts (Some files) name (Some left) = get files name ≡ Some left

-- where contents are told, nothing is left
abbrev pub IsSpent : Option Contents → Option (List ℕ) → Type 0
IsSpent None left = ⊤
IsSpent (Some files) None = ⊥
IsSpent (Some files) (Some left) = left ≡ []

-- no call changes the contents or ends the steadiness of a folder, and its count of faults never falls
pub record KeepsFolder {F : Type 0} (contents : F → Option Contents) (steady : F → Bool) (faults : F → ℕ) (old new : F) : Type 0 where
  pub same : contents new ≡ contents old
  pub stays : IsTrue (steady old) → IsTrue (steady new)
  pub later : faults old ≤ faults new
