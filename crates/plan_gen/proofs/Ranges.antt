-- Lists made from the numbers of a range, in order.
use Rattle.std.proofs.Common.{◌≡◌, ℕ, ◌+◌, ◌-◌, ◌<◌, ◌≤◌, zero, suc, Bool, true, false, List, [], length, map, filter, get_or, Some, slice_get, refl, sym, ap, ◌∙◌, inl, inr, arith}
use Rattle.std.specs.Prelude.{◌≢◌}
use Rattle.std.specs.List.{list_all, list_any, range_with_len}
use Rattle.std.proofs.lemmas.Bool.{cases_Bool}
use Rattle.std.proofs.lemmas.List.FromFn.{length-map-range_with_len, get_or-map-range_with_len}
use Rattle.std.proofs.lemmas.Option.{same_Some, slice_get_within, slice_get-get_or}
use Rattle.sync_topo.specs.WellFormed.{AreDistinct}

-- what stands at a place is made from the number of that place
pub range_at : {A : Type 0} (f : ℕ → A) (n i : ℕ) → (x : A) → slice_get (map f (range_with_len 0 n)) i ≡ Some x → (i < n) × (f i ≡ x)
range_at f n i x at =
    let within : i < length (map f (range_with_len 0 n)) = slice_get_within _ i x at in
    let inside : i < n = omega (arith, within, length-map-range_with_len f 0 n) in
    let here : get_or (map f (range_with_len 0 n)) i x ≡ f i = get_or-map-range_with_len f 0 n i i x inside (omega arith) in
    (inside, sym here ∙ same_Some _ x (sym (slice_get-get_or _ i x within) ∙ at))

pub range_get : {A : Type 0} (f : ℕ → A) (n i : ℕ) → i < n → slice_get (map f (range_with_len 0 n)) i ≡ Some (f i)
range_get f n i inside =
    let within : i < length (map f (range_with_len 0 n)) = omega (arith, inside, length-map-range_with_len f 0 n) in
    let here : get_or (map f (range_with_len 0 n)) i (f i) ≡ f i = get_or-map-range_with_len f 0 n i i (f i) inside (omega arith) in
    slice_get-get_or _ i (f i) within ∙ ap Some here

-- a test that each number of a range passes, and one that none does
pub list_all-range : {A : Type 0} (p : A → Bool) (f : ℕ → A) (start n : ℕ) → ((i : ℕ) → i < start + n → p (f i) ≡ true) → list_all p (map f (range_with_len start n)) ≡ true
list_all-range p f start zero all = refl
list_all-range p f start (suc n) all =
    rw (all start (omega arith), list_all-range p f (start + 1) n (λ i h. all i (omega arith))) refl

pub list_any-range : {A : Type 0} (p : A → Bool) (f : ℕ → A) (start n : ℕ) → ((i : ℕ) → p (f i) ≡ false) → list_any p (map f (range_with_len start n)) ≡ false
list_any-range p f start zero none = refl
list_any-range p f start (suc n) none = rw (none start, list_any-range p f (start + 1) n none) refl

-- names made from different numbers are distinct
pub AreDistinct-range : (f : ℕ → List ℕ) (n : ℕ) → ((i j : ℕ) → i < j → j < n → f i ≢ f j) → AreDistinct (map f (range_with_len 0 n))
AreDistinct-range f n differ i j before within same =
    let size : length (map f (range_with_len 0 n)) ≡ n = length-map-range_with_len f 0 n in
    let at_j = slice_get-get_or (map f (range_with_len 0 n)) j [] within in
    let of_j = range_at f n j _ at_j in
    let of_i = range_at f n i _ (same ∙ at_j) in
    differ i j before of_j.0 (of_i.1 ∙ sym of_j.1)

-- a filter keeps no more numbers of a range than there are between bounds within which all that pass lie
pub filter_range-between : (p : ℕ → Bool) (low high start n : ℕ) → ((i : ℕ) → i < start + n → p i ≡ true → (low ≤ i) × (i < high))
    → (length (filter p (range_with_len start n)) ≤ high - low) × (length (filter p (range_with_len start n)) ≤ high - start)
filter_range-between p low high start zero between = (omega arith, omega arith)
filter_range-between p low high start (suc n) between =
    let rest = filter_range-between p low high (start + 1) n (λ i h. between i (omega arith)) in
    elim (cases_Bool (p start)) [
      | inl passes ↦
          let here = between start (omega arith) passes in
          rw passes (omega (arith, rest.0, rest.1, here.0, here.1), omega (arith, rest.0, rest.1, here.0, here.1))
      | inr fails ↦ rw fails (rest.0, omega (arith, rest.1))
    ]
