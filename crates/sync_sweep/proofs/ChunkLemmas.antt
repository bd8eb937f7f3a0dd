-- The rows of parts are those of the whole.
use Rattle.std.proofs.Common.{◌≡◌, ℕ, zero, suc, ◌+◌, ◌*◌, ◌/◌, ◌%◌, ◌<◌, ◌≤◌, min, List, [], ◌∷◌, ◌++◌, length, take, drop, Option, Some, None, Result, Ok, Err, refl, sym, ap, subst, ◌∙◌, arith}
use Rattle.std.specs.Prelude.{slice_get, slice_index_or}
use Rattle.std.specs.List.{AllZip}
use Rattle.std.specs.Option.{option_map}
use Rattle.std.specs.Fork.{slice_chunk}
use Rattle.std.proofs.Math.Decide.{dec_lt}
use Rattle.std.proofs.lemmas.Nat.{div-add-mod', mod_below}
use Rattle.std.proofs.lemmas.Option.{same_Some, none-some}
use Rattle.std.proofs.lemmas.List.{take-append-drop, length-drop, drop-drop}
use Rattle.sync_sweep.specs.private.Chunks.{joined}

-- relations of two lists, place by place
pub AllZip-append : {A B : Type 0} (R : A → B → Type 0) (xs more : List A) (ys rest : List B) → AllZip R xs ys → AllZip R more rest → AllZip R (xs ++ more) (ys ++ rest)
AllZip-append R [] more [] rest zip other = other
AllZip-append R [] more (y ∷ ys) rest zip other = absurd zip
AllZip-append R (x ∷ xs) more [] rest zip other = absurd zip
AllZip-append R (x ∷ xs) more (y ∷ ys) rest zip other = (zip.0, AllZip-append R xs more ys rest zip.1 other)

-- they are of one length
pub zip-length : {A B : Type 0} (R : A → B → Type 0) (xs : List A) (ys : List B) → AllZip R xs ys → length xs ≡ length ys
zip-length R [] [] zip = refl
zip-length R [] (y ∷ ys) zip = absurd zip
zip-length R (x ∷ xs) [] zip = absurd zip
zip-length R (x ∷ xs) (y ∷ ys) zip = ap suc (zip-length R xs ys zip.1)

-- one place more
pub AllZip-next : {A B : Type 0} (R : A → B → Type 0) (xs : List A) (i : ℕ) (x : A) (ys : List B) (y : B) (more : List B) → i < length xs
    → AllZip R (take i xs) ys → R x y → take (i + 1) xs ≡ take i xs ++ x ∷ [] → more ≡ ys ++ y ∷ [] → AllZip R (take (i + 1) xs) more
AllZip-next R xs i x ys y more within zip one front is =
    subst (λ zs. AllZip R (take (i + 1) xs) zs) (sym is) (subst (λ zs. AllZip R zs (ys ++ y ∷ [])) (sym front) (AllZip-append R (take i xs) (x ∷ []) ys (y ∷ []) zip (one, tt)))

-- so many parts are enough
pub parts-enough : (n size count : ℕ) → 0 < size → count ≡ n / size + min 1 (n % size) → n ≤ count * size
parts-enough n size count some is = elim (dec_lt 0 (n % size)) [
  | yes left ↦
      let more : count ≡ n / size + 1 = omega (arith, is, left) in
      let whole : count * size ≡ n / size * size + size = ap (λ k. k * size) more ∙ next (n / size) in
      omega (arith, whole, div-add-mod' n size, mod_below n size some)
  | no none ↦
      let more : count ≡ n / size = omega (arith, is, none) in
      let whole : count * size ≡ n / size * size = ap (λ k. k * size) more in
      omega (arith, whole, div-add-mod' n size, none)
]
  where
    next : (q : ℕ) → (q + 1) * size ≡ q * size + size
    next q = grind arith

-- what is joined with a first part
joined-first : {A : Type 0} (front items : List A) (o : Option (List A)) → option_map (λ rest. front ++ rest) o ≡ Some items
    → (rest : List A) × (o ≡ Some rest) × (items ≡ front ++ rest)
joined-first front items None is = absurd (none-some items is)
joined-first front items (Some rest) is = (rest, refl, sym (same_Some (front ++ rest) items is))

-- the rows of all parts, joined, are those of the whole
pub joined_whole : {A B E : Type 0} (R : A → B → Type 0) (size : ℕ) (parts : List (Result (List B) E)) (xs : List A) (items : List B)
    → length xs ≤ length parts * size
    → ((n : ℕ) (rows : List B) → slice_get parts n ≡ Some (Ok rows) → AllZip R (slice_chunk xs size n) rows)
    → joined parts ≡ Some items → AllZip R xs items
joined_whole R size [] [] items enough each join = subst (λ ys. AllZip R [] ys) (same_Some [] items join) tt
joined_whole R size [] (x ∷ xs) items enough each join = absurd (omega (arith, enough))
joined_whole R size (Err refusal ∷ parts) xs items enough each join = absurd (none-some items join)
joined_whole R size (Ok rows ∷ parts) xs items enough each join =
    let cut = joined-first rows items (joined parts) join in
    let rest : List _ = cut.0 in
    let behind : length (drop size xs) ≤ length parts * size = omega (arith, enough, length-drop size xs, times (length parts)) in
    let first : AllZip R (take size xs) rows = subst (λ k. AllZip R (take size (drop k xs)) rows) nothing (each 0 rows refl) in
    let others : AllZip R (drop size xs) rest =
    joined_whole R size parts (drop size xs) rest behind (λ n more at. subst (λ ys. AllZip R (take size ys) more) (later n) (each (suc n) more at)) cut.1 in
    subst (λ ys. AllZip R xs ys) (sym cut.2) (subst (λ zs. AllZip R zs (rows ++ rest)) (take-append-drop size xs) (AllZip-append R (take size xs) (drop size xs) rows rest first others))
  where
    nothing : 0 * size ≡ 0
    nothing = omega arith

    times : (n : ℕ) → suc n * size ≡ n * size + size
    times n = grind arith

    later : (n : ℕ) → drop (suc n * size) xs ≡ drop (n * size) (drop size xs)
    later n = ap (λ k. drop k xs) (omega (arith, times n)) ∙ sym (drop-drop (n * size) size xs)

-- what is got at a place stands there
pub got : {A : Type 0} (xs : List A) (n : ℕ) (x other : A) → slice_get xs n ≡ Some x → (n < length xs) × (slice_index_or xs n other ≡ x)
got [] n x other is = absurd (none-some x is)
got (y ∷ ys) zero x other is = (omega arith, same_Some y x is)
got (y ∷ ys) (suc n) x other is =
    let there = got ys n x other is in
    (omega (arith, there.0), there.1)
