-- Lists of which something holds of each, and lists that start as functions of time.
use Rattle.std.proofs.Common.{◌≡◌, ◌<◌, ◌+◌, ℕ, zero, suc, List, [], ◌∷◌, map, length, Some, slice_get, refl, ap, sym, arith, add-zero}
use Rattle.std.specs.Prelude.{slice_index_or}
use Rattle.std.specs.List.{range_with_len}
use Rattle.std.proofs.lemmas.Option.{same_Some, none-some}
use Rattle.sync_text.specs.Each.{Each}
use Rattle.sync_ql.specs.Pasts.{past_of}

pub map-same : {A B : Type 0} (f g : A → B) (xs : List A) → Each (λ x. f x ≡ g x) xs → map f xs ≡ map g xs
map-same f g [] each = refl
map-same f g (x ∷ xs) each = rw (each.0, map-same f g xs each.1) refl

-- two functions of time that are the same before n have one past
pub past-same : {A : Type 0} (f g : ℕ → A) (n : ℕ) → ((t : ℕ) → t < n → f t ≡ g t) → past_of f n ≡ past_of g n
past-same f g zero same = refl
past-same f g (suc n) same = rw (same n (omega arith), past-same f g n (λ t early. same t (omega (arith, early)))) refl

pub map-at : {A B : Type 0} (f : A → B) (xs : List A) (i : ℕ) (x : A) (d : B) → slice_get xs i ≡ Some x → slice_index_or (map f xs) i d ≡ f x
map-at f [] i x d at = absurd (none-some x at)
map-at f (y ∷ xs) zero x d at = ap f (same_Some y x at)
map-at f (y ∷ xs) (suc i) x d at = map-at f xs i x d at

-- two lists, one made by places from a number on and one of what stands there, are the same where
-- they are so at each place
pub map-places : {A B : Type 0} (f : ℕ → B) (g : A → B) (from : ℕ) (xs : List A)
    → ((k i : ℕ) (x : A) → slice_get xs i ≡ Some x → k ≡ from + i → f k ≡ g x)
    → map f (range_with_len from (length xs)) ≡ map g xs
map-places f g from [] same = refl
map-places f g from (x ∷ xs) same =
    rw (same from 0 x refl (sym (add-zero from)), map-places f g (from + 1) xs (λ k i y at is. same k (suc i) y at (omega (arith, is)))) refl
