-- An element's count after a write and after a push.
use Rattle.std.proofs.Common.{◌≡◌, ◌≢◌, ℕ, ◌<◌, ◌≤◌, [], ◌∷◌, ◌++◌, length, Option, Some, None, refl, sym, ap, ◌∙◌, inl, inr, ◌⊎◌, slice_set}
use Rattle.std.proofs.Common.{get_or, true, false}
use Rattle.std.specs.Prelude.{is_some}
use Rattle.std.specs.Option.{option_flatten}
use Rattle.std.proofs.lemmas.Bool.{true≢false}
use Rattle.std.proofs.lemmas.Option.{slice_get_cases, slice_get_past, slice_get_read, none-some}
use Rattle.sync_topo.proofs.Lists.{slice_get-set_same, slice_get-set_other, slice_get-push_before, slice_get-push_last}
use Rattle.nominate.specs.HopCount.{Counts, count_at}

pub count-set_here : (counts : Counts) (element : ℕ) (count : Option ℕ) → element < length counts → count_at (slice_set counts element count) element ≡ count
count-set_here counts element count inside = ap (λ o. option_flatten o) (slice_get-set_same counts element count inside)

pub count-set_there : (counts : Counts) (element other : ℕ) (count : Option ℕ) → other ≢ element → count_at (slice_set counts element count) other ≡ count_at counts other
count-set_there counts element other count apart = ap (λ o. option_flatten o) (slice_get-set_other counts element other count (λ same. apart (sym same)))

pub count-push_before : (counts : Counts) (element : ℕ) (count : Option ℕ) → element < length counts → count_at (counts ++ count ∷ []) element ≡ count_at counts element
count-push_before counts element count inside = ap (λ o. option_flatten o) (slice_get-push_before counts count element inside)

pub count-push_last : (counts : Counts) (element : ℕ) (count : Option ℕ) → element ≡ length counts → count_at (counts ++ count ∷ []) element ≡ count
count-push_last counts element count last = ap (λ o. option_flatten o) (slice_get-push_last counts count element last)

-- past the end there is none
pub count-past : (counts : Counts) (element : ℕ) → length counts ≤ element → count_at counts element ≡ None
count-past counts element past = ap (λ o. option_flatten o) (slice_get_past counts element past)

-- an element with a count is in the list
pub count-within : (counts : Counts) (element hops : ℕ) → count_at counts element ≡ Some hops → element < length counts
count-within counts element hops is = elim (slice_get_cases counts element).1 [
  | inl there ↦ there.1
  | inr past ↦ absurd (none-some hops (sym (count-past counts element past.0) ∙ is))
]

-- what is read at a place is the count there
pub count-read : (counts : Counts) (n element : ℕ) (count : Option ℕ) → n ≡ length counts → element < n → count ≡ get_or counts element count → count_at counts element ≡ count
count-read counts n element count long inside read = ap (λ o. option_flatten o) (slice_get_read counts n element count long inside read)

pub none_is : (o : Option ℕ) → is_some o ≡ false → o ≡ None
none_is None is = refl
none_is (Some hops) is = absurd (true≢false is)

pub some_is : (o : Option ℕ) → is_some o ≡ true → (hops : ℕ) × (o ≡ Some hops)
some_is None is = absurd (true≢false (sym is))
some_is (Some hops) is = (hops, refl)
