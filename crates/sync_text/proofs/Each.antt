-- Lists of which something holds of each.
use Rattle.std.proofs.Common.{◌≡◌, ◌≤◌, ◌<◌, ◌+◌, ℕ, zero, suc, Bool, true, false, List, [], ◌∷◌, ◌++◌, map, filter, Option, Some, None, IfSome, slice_get, refl, ap, sym, subst, ◌∙◌, arith}
use Rattle.std.specs.List.{range_with_len}
use Rattle.std.specs.Prelude.{if◌then◌else◌, option_and_then, All}
use Rattle.std.proofs.Math.Decide.{dec_lt}
use Rattle.std.proofs.lemmas.Bool.{true≢false}
use Rattle.std.proofs.lemmas.Option.{same_Some, none-some}
use Rattle.std.proofs.lemmas.List.Elements.{All-nil, All-cons, All-head, All-tail}
use Rattle.sync_text.specs.Each.{Each}

pub Each-map : {A : Type 0} (P Q : A → Type 0) → ((x : A) → P x → Q x) → (xs : List A) → Each P xs → Each Q xs
Each-map P Q f [] each = tt
Each-map P Q f (x ∷ xs) each = (f x each.0, Each-map P Q f xs each.1)

pub Each-both : {A : Type 0} (P Q : A → Type 0) (xs : List A) → Each P xs → Each Q xs → Each (λ x. P x × Q x) xs
Each-both P Q [] p q = tt
Each-both P Q (x ∷ xs) p q = ((p.0, q.0), Each-both P Q xs p.1 q.1)

pub Each-append : {A : Type 0} (P : A → Type 0) (xs ys : List A) → Each P xs → Each P ys → Each P (xs ++ ys)
Each-append P [] ys first second = second
Each-append P (x ∷ xs) ys first second = (first.0, Each-append P xs ys first.1 second)

-- the same the other way round
pub Each-parts : {A : Type 0} (P : A → Type 0) (xs ys : List A) → Each P (xs ++ ys) → Each P xs × Each P ys
Each-parts P [] ys each = (tt, each)
Each-parts P (x ∷ xs) ys each = let parts = Each-parts P xs ys each.1 in ((each.0, parts.0), parts.1)

-- what holds of each that is made from a list
pub Each-made : {A B : Type 0} (P : B → Type 0) (f : A → B) (xs : List A) → Each (λ x. P (f x)) xs → Each P (map f xs)
Each-made P f [] each = tt
Each-made P f (x ∷ xs) each = (each.0, Each-made P f xs each.1)

pub Each-unmade : {A B : Type 0} (P : B → Type 0) (f : A → B) (xs : List A) → Each P (map f xs) → Each (λ x. P (f x)) xs
Each-unmade P f [] each = tt
Each-unmade P f (x ∷ xs) each = (each.0, Each-unmade P f xs each.1)

pub Each-range : (P : ℕ → Type 0) (from n : ℕ) → ((k : ℕ) → from ≤ k → k < from + n → P k) → Each P (range_with_len from n)
Each-range P from zero all = tt
Each-range P from (suc n) all =
    (all from (omega arith) (omega arith), Each-range P (from + 1) n (λ k low high. all k (omega (arith, low)) (omega (arith, high))))

pub Each-filter : {A : Type 0} (P : A → Type 0) (p : A → Bool) (xs : List A) → Each P xs → Each (λ x. P x × (p x ≡ true)) (filter p xs)
Each-filter P p [] each = tt
Each-filter P p (x ∷ xs) each = by (p x) refl (Each-filter P p xs each.1)
  where
    by : (passes : Bool) → p x ≡ passes → Each (λ x. P x × (p x ≡ true)) (filter p xs) → Each (λ x. P x × (p x ≡ true)) (if passes then x ∷ filter p xs else filter p xs)
    by true is rest = ((each.0, is), rest)
    by false is rest = rest

pub Each-kept : (P : ℕ → Type 0) (p : ℕ → Bool) (from n k : ℕ) → Each P (filter p (range_with_len from n)) → from ≤ k → k < from + n → p k ≡ true → P k
Each-kept P p from zero k each low high passes = absurd (omega (arith, low, high))
Each-kept P p from (suc n) k each low high passes = by (p from) refl each (Each-kept P p (from + 1) n k)
  where
    by : (b : Bool) → p from ≡ b → Each P (if b then from ∷ filter p (range_with_len (from + 1) n) else filter p (range_with_len (from + 1) n))
        → (Each P (filter p (range_with_len (from + 1) n)) → from + 1 ≤ k → k < from + 1 + n → p k ≡ true → P k) → P k
    by true is each rest = elim (dec_lt from k) [
      | yes later ↦ rest each.1 (omega (arith, later)) (omega (arith, high)) passes
      | no here ↦ let same : from ≡ k = omega (arith, here, low) in subst P same each.0
    ]
    by false is each rest = elim (dec_lt from k) [
      | yes later ↦ rest each (omega (arith, later)) (omega (arith, high)) passes
      | no here ↦ let same : from ≡ k = omega (arith, here, low) in absurd (true≢false (sym passes ∙ ap p (sym same) ∙ is))
    ]

-- what stands at a place of a list of which something holds of each
pub each-at : {A : Type 0} (P : A → Type 0) (xs : List A) (i : ℕ) (x : A) → Each P xs → slice_get xs i ≡ Some x → P x
each-at P [] i x each at = absurd (none-some x at)
each-at P (y ∷ xs) zero x each at = subst P (same_Some y x at) each.0
each-at P (y ∷ xs) (suc i) x each at = each-at P xs i x each.1 at

-- what stands at a place of a list
pub item-at : {A : Type 0} (P : A → Type 0) (xs : List A) (i : ℕ) → Each P xs → IfSome (slice_get xs i) P
item-at P [] i each = tt
item-at P (x ∷ xs) zero each = each.0
item-at P (x ∷ xs) (suc i) each = item-at P xs i each.1

pub item-if : {A : Type 0} (P : A → Type 0) (xs : List A) (place : Option ℕ) → Each P xs → IfSome (option_and_then (slice_get xs) place) P
item-if P xs None each = tt
item-if P xs (Some i) each = item-at P xs i each

-- what passes no test isn't kept
pub filter-none : {A : Type 0} (p : A → Bool) (xs : List A) → Each (λ x. p x ≡ false) xs → filter p xs ≡ []
filter-none p [] each = refl
filter-none p (x ∷ xs) each = rw (each.0, filter-none p xs each.1) refl

pub Each-any : {A : Type 0} (P : A → Type 0) → ((x : A) → P x) → (xs : List A) → Each P xs
Each-any P all [] = tt
Each-any P all (x ∷ xs) = (all x, Each-any P all xs)

pub all-each : {A : Type 0} (P : A → Type 0) (xs : List A) → Each P xs → All P xs
all-each P [] each = All-nil P
all-each P (x ∷ xs) each = All-cons P x xs each.0 (all-each P xs each.1)

pub each-all : {A : Type 0} (P : A → Type 0) (xs : List A) → All P xs → Each P xs
each-all P [] all = tt
each-all P (x ∷ xs) all = (All-head P x xs all, each-all P xs (All-tail P x xs all))
