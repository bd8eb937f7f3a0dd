-- The files of a folder in memory, and the calls that fail.
use Rattle.std.proofs.Common.{◌≡◌, ℕ, zero, suc, ◌+◌, ◌≤◌, true, false, cond, List, [], ◌∷◌, drop, map, Option, Some, None, refl, sym, ap, ◌∙◌, arith, inl, inr, ltb}
use Rattle.std.specs.Prelude.{option_map, slice_get, position}
use Rattle.std.specs.List.{position_from}
use Rattle.std.specs.Str.{bytes_eq}
use Rattle.std.specs.FinMap.{get, find, get-from_entries}
use Rattle.std.specs.Ordering.{nat_cmp}
use Rattle.std.specs.Cmp.Lexicographic.{slice_cmp}
use Rattle.std.proofs.lemmas.Cmp.{nat_list_cmp_total}
use Rattle.std.proofs.lemmas.Bool.{cases_Bool, and_parts}
use Rattle.std.proofs.lemmas.Bool.Decides.{nat_tests}
use Rattle.std.proofs.lemmas.List.{drop-drop}
use Rattle.std.proofs.lemmas.Map.Text.{is_eq-slice_cmp}
use Rattle.std.proofs.lemmas.Iterator.Adapters.{position_from-zero}
use Rattle.sync_edge.specs.declared.memory_folder.MemFile.{MemFile}
use Rattle.sync_edge.specs.Memory.{contents_of, bytes_of, fails_at, none_from}

-- no later call fails either
pub none_from_later : (fails : List ℕ) (number later : ℕ) → none_from fails number ≡ true → number ≤ later → none_from fails later ≡ true
none_from_later [] number later none le = refl
none_from_later (fail ∷ fails) number later none le =
    let parts = and_parts (ltb fail number) (none_from fails number) none in
    let rest : none_from fails later ≡ true = none_from_later fails number later parts.1 le in
    grind (arith, nat_tests)

-- and the next call doesn't fail
pub none_fails : (fails : List ℕ) (number : ℕ) → none_from fails number ≡ true → fails_at fails number ≡ false
none_fails [] number none = refl
none_fails (fail ∷ fails) number none =
    let parts = and_parts (ltb fail number) (none_from fails number) none in
    let rest : fails_at fails number ≡ false = none_fails fails number parts.1 in
    grind (arith, nat_tests)

-- what the contents have under a name, by the files
pub got : List MemFile → List ℕ → Option (List ℕ)
got [] name = None
got (file ∷ files) name = cond (bytes_eq name file.name) (Some file.bytes) (got files name)

got_is : (files : List MemFile) (name : List ℕ) → find (slice_cmp nat_cmp) name (map (λ file. (file.name, file.bytes)) files) ≡ got files name
unfolding got
got_is [] name = refl
got_is (file ∷ files) name =
    rw (is_eq-slice_cmp name file.name, got_is files name) refl

-- an item at the front of what is left at a place stands at that place
at_place : {X : Type 0} (all rest : List X) (i : ℕ) (x : X) → drop i all ≡ x ∷ rest → slice_get all i ≡ Some x
at_place [] rest zero x e = cc
at_place [] rest (suc i) x e = cc
at_place (y ∷ all) rest zero x e = ap Some (cc)
at_place (y ∷ all) rest (suc i) x e = at_place all rest i x e

-- the first file of a name among those from a place on is what the contents have
found_from : (all files : List MemFile) (i : ℕ) (name : List ℕ) → drop i all ≡ files →
    option_map (λ place. bytes_of (slice_get all place)) (position_from (λ file. bytes_eq name file.name) i files) ≡ got files name
unfolding got
found_from all [] i name rest = refl
found_from all (file ∷ files) i name rest =
    elim (cases_Bool (bytes_eq name file.name)) [
      | inl same ↦ rw (same, at_place all files i file rest) refl
      | inr other ↦ let after : drop (i + 1) all ≡ files = sym (drop-drop 1 i all) ∙ ap (drop 1) rest in
          rw (other, found_from all files (i + 1) name after) refl
    ]

-- the place of a name is that of what the contents have
pub found_place : (files : List MemFile) (name : List ℕ) → option_map (λ place. bytes_of (slice_get files place)) (position (λ file. bytes_eq name file.name) files) ≡ get (contents_of files) name
found_place files name = rw position_from-zero (found_from files files 0 name refl ∙ sym (get-from_entries nat_list_cmp_total _ name ∙ got_is files name))
