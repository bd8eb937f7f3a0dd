-- Laws on lists that std does not have.
use Rattle.std.proofs.Common.{◌≡◌, ℕ, ◌+◌, ◌<◌, ◌≤◌, inl, inr, nat_lt, ◌==◌, length-append, Bool, true, false, not, cond, List, [], ◌∷◌, ◌++◌, length, map, filter, get_or, Some, None, position, refl, ap, sym, subst, ◌∙◌, arith, slice_get, slice_set}
use Rattle.std.specs.List.{list_any, range_with_len, prefix_len, position_or_len}
use Rattle.std.specs.Option.{option_or}
use Rattle.std.proofs.Common.{zero, suc}
use Rattle.std.specs.Prelude.{◌≢◌, IfSome, Option}
use Rattle.std.proofs.Math.Bool.{or-true}
use Rattle.std.proofs.lemmas.Bool.{true≢false, le-ltb, lt-ltb}
use Rattle.std.proofs.lemmas.Bool.Decides.{eqb_tells}
use Rattle.std.proofs.lemmas.List.Folds.{position_or_len_push}
use Rattle.std.proofs.lemmas.List.Sums.{prefix_len-le-length}
use Rattle.std.proofs.lemmas.List.Quantifiers.{position-Some}
use Rattle.std.proofs.lemmas.Option.{none-some, same_Some, slice_get-get_or}
use Rattle.std.proofs.lemmas.Slice.Eq.{bytes_eq-Decides}
use Rattle.std.proofs.Math.Numerals.{suc-eq-add-one}
use Rattle.std.proofs.lemmas.List.{length-map, map-append, map-id}
use Rattle.std.proofs.lemmas.List.FromFn.{filter_of_map_range_with_len_more}
use Rattle.std.specs.Prelude.{if◌then◌else◌}
use Rattle.std.specs.Str.{bytes_eq}

prefix_len-map : {A B : Type 0} (p : B → Bool) (f : A → B) (xs : List A) → prefix_len p (map f xs) ≡ prefix_len (λ x. p (f x)) xs
prefix_len-map p f [] = refl
prefix_len-map p f (x ∷ xs) = ap (λ (n : ℕ). cond (p (f x)) (1 + n) 0) (prefix_len-map p f xs)

-- a search in what a function makes of the items
pub position-map : {A B : Type 0} (p : B → Bool) (f : A → B) (xs : List A) → position p (map f xs) ≡ position (λ x. p (f x)) xs
position-map p f xs = rw (prefix_len-map (λ y. not (p y)) f xs, length-map) refl

pub list_any-map : {A B : Type 0} (p : B → Bool) (f : A → B) (xs : List A) → list_any p (map f xs) ≡ list_any (λ x. p (f x)) xs
list_any-map p f [] = refl
list_any-map p f (x ∷ xs) = rw (list_any-map p f xs) refl

-- a new name goes last, as contracts see the names
pub inserted : {A : Type 0} (seen : A → List ℕ) (old new : List A) (x : A) (name : List ℕ)
    → seen x ≡ name → list_any (bytes_eq name) (map seen old) ≡ false
    → new ≡ (if list_any (λ y. bytes_eq (seen x) (seen y)) old then old else old ++ x ∷ [])
    → map seen new ≡ map seen old ++ name ∷ []
inserted seen old new x name e h k =
    let absent : list_any (λ y. bytes_eq (seen x) (seen y)) old ≡ false
    = rw e (sym (list_any-map (bytes_eq name) seen old) ∙ h) in
    let last : new ≡ old ++ x ∷ [] = rw absent at k in
    rw (last, map-append seen old (x ∷ []), e) refl

-- what stands before the end stays there, and the last one comes after it
pub slice_get-push_before : {A : Type 0} (xs : List A) (x : A) (i : ℕ) → i < length xs → slice_get (xs ++ x ∷ []) i ≡ slice_get xs i
slice_get-push_before [] x i h = absurd (omega arith)
slice_get-push_before (y ∷ xs) x zero h = refl
slice_get-push_before (y ∷ xs) x (suc i) h = slice_get-push_before xs x i (omega arith)

pub slice_get-push_last : {A : Type 0} (xs : List A) (x : A) (i : ℕ) → i ≡ length xs → slice_get (xs ++ x ∷ []) i ≡ Some x
slice_get-push_last [] x zero e = refl
slice_get-push_last [] x (suc i) e = absurd (omega arith)
slice_get-push_last (y ∷ xs) x zero e = absurd (omega arith)
slice_get-push_last (y ∷ xs) x (suc i) e = slice_get-push_last xs x i (omega arith)

-- one number more
pub filter_range_more : (p : ℕ → Bool) (n : ℕ) → filter p (range_with_len 0 (n + 1)) ≡ filter p (range_with_len 0 n) ++ (if p n then n ∷ [] else [])
filter_range_more p n =
    let e : 0 + n ≡ n = omega arith in
    simp map-id at (filter_of_map_range_with_len_more p (λ (x : ℕ). x) 0 n n e)

-- two tests that agree below n keep the same numbers
pub filter_range_agree : (p q : ℕ → Bool) (n : ℕ) → ((x : ℕ) → x < n → p x ≡ q x) → filter p (range_with_len 0 n) ≡ filter q (range_with_len 0 n)
filter_range_agree p q zero same = refl
filter_range_agree p q (suc n) same =
    let front : filter p (range_with_len 0 n) ≡ filter q (range_with_len 0 n) = filter_range_agree p q n (λ x h. same x (omega arith)) in
    let last : p n ≡ q n = same n (omega arith) in
    let middle : filter p (range_with_len 0 n) ++ (if p n then n ∷ [] else []) ≡ filter q (range_with_len 0 n) ++ (if q n then n ∷ [] else [])
    = rw (front, last) refl in
    let P : ℕ → Type 0 = λ k. filter p (range_with_len 0 k) ≡ filter q (range_with_len 0 k) in
    subst P (sym (suc-eq-add-one n)) (filter_range_more p n ∙ middle ∙ sym (filter_range_more q n))

-- a write at one place
pub slice_get-set_same : {A : Type 0} (xs : List A) (i : ℕ) (x : A) → i < length xs → slice_get (slice_set xs i x) i ≡ Some x
slice_get-set_same [] i x h = absurd (omega arith)
slice_get-set_same (y ∷ xs) zero x h = refl
slice_get-set_same (y ∷ xs) (suc i) x h = slice_get-set_same xs i x (omega arith)

pub slice_get-set_other : {A : Type 0} (xs : List A) (i j : ℕ) (x : A) → i ≢ j → slice_get (slice_set xs i x) j ≡ slice_get xs j
slice_get-set_other [] i j x h = refl
slice_get-set_other (y ∷ xs) zero zero x h = absurd (h refl)
slice_get-set_other (y ∷ xs) zero (suc j) x h = refl
slice_get-set_other (y ∷ xs) (suc i) zero x h = refl
slice_get-set_other (y ∷ xs) (suc i) (suc j) x h = slice_get-set_other xs i j x (λ e. h (ap suc e))

-- a name that stands somewhere in the list is one of its names
pub is_named-at : (names : List (List ℕ)) (name : List ℕ) (i : ℕ) → slice_get names i ≡ Some name → list_any (bytes_eq name) names ≡ true
is_named-at [] name i h = absurd (none-some name h)
is_named-at (first ∷ names) name zero h =
    let same : bytes_eq name first ≡ true = (bytes_eq-Decides name first).1 (sym (same_Some first name h)) in
    rw same refl
is_named-at (first ∷ names) name (suc i) h = rw (is_named-at names name i h) (or-true (bytes_eq name first))

-- the name at the place of a name is that name
pub place_of-names : (names : List (List ℕ)) (name : List ℕ) (place : Option ℕ) → place ≡ position (bytes_eq name) names
    → IfSome place (λ k. slice_get names k ≡ Some name)
place_of-names names name None found = tt
place_of-names names name (Some k) found =
    let facts = position-Some (bytes_eq name) names k [] (sym found) in
    let same : name ≡ get_or names k [] = (bytes_eq-Decides name _).0 facts.1 in
    slice_get-get_or names k [] facts.0 ∙ ap Some (sym same)

-- two names that differ stand at two places
pub places-apart : (names : List (List ℕ)) (a b : ℕ) (x y : List ℕ) → slice_get names a ≡ Some x → slice_get names b ≡ Some y → bytes_eq x y ≡ false → a ≢ b
places-apart names a b x y at_a at_b differ same =
    let one : x ≡ y = same_Some x y (sym at_a ∙ ap (slice_get names) same ∙ at_b) in
    true≢false (sym ((bytes_eq-Decides x y).1 one) ∙ differ)

-- a search in a list with one more item
found_more : (place n : ℕ) (passes : Bool) → place ≤ n
    → cond (nat_lt (cond (place == n) (n + cond passes 0 1) place) (n + 1)) (Some (cond (place == n) (n + cond passes 0 1) place)) None
    ≡ option_or (cond (nat_lt place n) (Some place) None) (if passes then Some n else None)
found_more place n true up_to = elim (eqb_tells place n) [
  | inl end ↦ rw (end.0, le-ltb place n (omega (arith, end.1)), lt-ltb (n + 0) (n + 1) (omega arith)) (ap Some (omega arith))
  | inr other ↦ rw (other.0, lt-ltb place n (omega (arith, other.1)), lt-ltb place (n + 1) (omega arith)) refl
]
found_more place n false up_to = elim (eqb_tells place n) [
  | inl end ↦ rw (end.0, le-ltb place n (omega (arith, end.1)), le-ltb (n + 1) (n + 1) (omega arith)) refl
  | inr other ↦ rw (other.0, lt-ltb place n (omega (arith, other.1)), lt-ltb place (n + 1) (omega arith)) refl
]

pub position-push : {A : Type 0} (p : A → Bool) (xs : List A) (x : A) → position p (xs ++ x ∷ []) ≡ option_or (position p xs) (if p x then Some (length xs) else None)
position-push p xs x =
    let place : ℕ = position_or_len p xs in
    let more : ℕ = cond (place == length xs) (length xs + cond (p x) 0 1) place in
    ap (λ (found : ℕ). cond (nat_lt found (length (xs ++ x ∷ []))) (Some found) None) (position_or_len_push p xs x)
    ∙ ap (λ (size : ℕ). cond (nat_lt more size) (Some more) None) (length-append xs (x ∷ []))
    ∙ found_more place (length xs) (p x) (prefix_len-le-length (λ y. not (p y)) xs)

-- a name that is none of them stands at no place
pub place_of-fresh : (names : List (List ℕ)) (name : List ℕ) → list_any (bytes_eq name) names ≡ false → position (bytes_eq name) names ≡ None
place_of-fresh names name fresh = cases (position (bytes_eq name) names) refl
  where
    cases : (place : Option ℕ) → position (bytes_eq name) names ≡ place → position (bytes_eq name) names ≡ None
    cases None e = e
    cases (Some k) e = absurd (true≢false (sym (is_named-at names name k (place_of-names names name (Some k) (sym e))) ∙ fresh))

-- a list has an item at each place below its length
pub item_at : {A : Type 0} (xs : List A) (n : ℕ) → n < length xs → (x : A) × (slice_get xs n ≡ Some x)
item_at [] n within = absurd (omega (arith, within))
item_at (x ∷ xs) zero within = (x, refl)
item_at (x ∷ xs) (suc n) within = item_at xs n (omega (arith, within))
