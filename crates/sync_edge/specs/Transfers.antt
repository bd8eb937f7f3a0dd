-- What is read and written as a whole, and what was there when a call failed.
use Rattle.std.specs.Prelude.{◌≡◌, ◌+◌, ◌<◌, ◌≤◌, ⊤, ℕ, List, length, take, Option, Some, None, IsSomeAnd, Result, Ok, Err}
use Rattle.std.specs.FinMap.{get}
use Rattle.std.specs.Io.KnownBytes.{Appends}
use Rattle.sync_edge.specs.declared.errors.ReadErr.{ReadErr}
use Rattle.sync_edge.specs.declared.errors.ReadErr.TheVariants.{Failed, TooLong, NoMemory}
use Rattle.sync_edge.specs.Contents.{Contents}
use Rattle.sync_edge.specs.Faults.{Rose, one_more}

-- a front of the bytes, but not all of them, was written
abbrev pub AppendsFront : Option (List ℕ) → Option (List ℕ) → List ℕ → Type 0
AppendsFront before now bytes = (count : ℕ) × (count < length bytes) × Appends before now (take count bytes)

-- a folder's count rose where a read failed, and stands still at every other answer
abbrev pub ReadHasCause : {T : Type 0} → ℕ → ℕ → Result T ReadErr → Type 0
ReadHasCause before now (Err Failed) = Rose before now
ReadHasCause before now (Err TooLong) = now ≡ before
ReadHasCause before now (Err NoMemory) = now ≡ before
ReadHasCause before now (Ok value) = now ≡ before

-- how many bytes one read asks for
abbrev pub piece_size : ℕ
piece_size = 65536

-- where contents are told, all but at most so many bytes of the file of this name are left
abbrev pub AreRead : ℕ → Option Contents → List ℕ → Option (List ℕ) → Type 0
AreRead most None name left = ⊤
AreRead most (Some files) name None = ⊥
AreRead most (Some files) name (Some left) = IsSomeAnd (get files name) (λ bytes. length bytes ≤ most + length left)

-- a start was tried once, or, when out of memory, at most once
abbrev pub IsTriedOnce : {T : Type 0} → ℕ → ℕ → Result T ReadErr → Type 0
IsTriedOnce before now (Err Failed) = now ≡ one_more before
IsTriedOnce before now (Err TooLong) = now ≡ one_more before
IsTriedOnce before now (Err NoMemory) = now ≤ before + 1
IsTriedOnce before now (Ok value) = now ≡ one_more before
