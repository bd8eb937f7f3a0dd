-- One trace more is counted.
use Rattle.std.proofs.Common.{◌≡◌, ◌⊎◌, inl, inr, ◌≤◌, ◌<◌, ℕ, zero, suc, ◌+◌, true, false, List, [], ◌∷◌, ◌++◌, length, take, Option, Some, None, is_some, slice_get, refl, ap, sym, subst, ◌∙◌, arith}
use Rattle.std.specs.Prelude.{IfSome, slice_index_or, if◌then◌else◌}
use Rattle.std.specs.Option.{option_or}
use Rattle.std.specs.List.{count_by, position}
use Rattle.std.proofs.lemmas.Bool.{true≢false}
use Rattle.std.proofs.lemmas.Option.{same_Some, none-some}
use Rattle.std.proofs.lemmas.List.{take_more}
use Rattle.std.proofs.lemmas.List.Quantifiers.{position-Some}
use Rattle.sync_topo.proofs.Lists.{position-push}
use Rattle.sync_topo.specs.Topology.{Topology}
use Rattle.net_rules.specs.Settling.{IsGreatest}
use Rattle.net_rules.specs.Walks.{Taken}
use Rattle.closed_walks.specs.declared.traced.Ending.{Ending}
use Rattle.closed_walks.specs.declared.traced.End.TheVariants.{Loop}
use Rattle.timings.specs.declared.counted.Timing.{Timing}
use Rattle.timings.specs.Timing.{is_lost, has_ended, IsCounted, IsLengthIn, IsTiming}

-- the first that is lost, where none was
pub first-lost : (front : List Ending) (ending : Ending) (element : ℕ) (first : Option ℕ) → is_some first ≡ false → is_lost ending ≡ true → element ≡ length front
    → first ≡ position is_lost front → Some element ≡ position is_lost (front ++ ending ∷ [])
first-lost front ending element None none lost at same =
    sym (position-push is_lost front ending
    ∙ ap (λ o. option_or o (if is_lost ending then Some (length front) else None)) (sym same)
    ∙ ap (λ b. if b then Some (length front) else None) lost
    ∙ ap Some (sym at))
first-lost front ending element (Some first) none lost at same = absurd (true≢false none)

-- what stands in a list with one more item
of-push : {A : Type 0} (front : List A) (x : A) (k : ℕ) (y : A) → slice_get (front ++ x ∷ []) k ≡ Some y → (slice_get front k ≡ Some y) ⊎ (x ≡ y)
of-push [] x zero y at = inr (same_Some x y at)
of-push [] x (suc k) y at = absurd (none-some y at)
of-push (z ∷ front) x zero y at = inl at
of-push (z ∷ front) x (suc k) y at = of-push front x k y at

last-push : {A : Type 0} (front : List A) (x : A) → slice_get (front ++ x ∷ []) (length front) ≡ Some x
last-push [] x = refl
last-push (z ∷ front) x = last-push front x

kept-push : {A : Type 0} (front : List A) (x : A) (k : ℕ) (y : A) → slice_get front k ≡ Some y → slice_get (front ++ x ∷ []) k ≡ Some y
kept-push [] x k y at = absurd (none-some y at)
kept-push (z ∷ front) x zero y at = at
kept-push (z ∷ front) x (suc k) y at = kept-push front x k y at

-- a longer trace that ends is the longest
pub longest-more : (front : List Ending) (ending : Ending) (longest : ℕ) → has_ended ending.end ≡ true → longest < ending.lines
    → IsGreatest (IsLengthIn front) longest → IsGreatest (IsLengthIn (front ++ ending ∷ [])) ending.lines
longest-more front ending longest ended more is = record {
  most = λ n one. elim (of-push front ending one.element one.ending one.there) [
    | inl at ↦
        let before = is.most n (record { element = one.element; ending = one.ending; there = at; ended = one.ended; is = one.is }) in
        omega (arith, before, more)
    | inr same ↦ omega (arith, one.is, ap (λ (e : Ending). e.lines) same)
  ];
  reached = inr (record { element = length front; ending = ending; there = last-push front ending; ended = ended; is = refl });
}

-- one that isn't longer, or doesn't end, changes nothing
pub longest-same : (front : List Ending) (ending : Ending) (longest : ℕ) → (has_ended ending.end ≡ true → ending.lines ≤ longest)
    → IsGreatest (IsLengthIn front) longest → IsGreatest (IsLengthIn (front ++ ending ∷ [])) longest
longest-same front ending longest short is = record {
  most = λ n one. elim (of-push front ending one.element one.ending one.there) [
    | inl at ↦ is.most n (record { element = one.element; ending = one.ending; there = at; ended = one.ended; is = one.is })
    | inr same ↦
        let fits : ending.lines ≤ longest = short (subst (λ (e : Ending). has_ended e.end ≡ true) (sym same) one.ended) in
        omega (arith, fits, one.is, ap (λ (e : Ending). e.lines) same)
  ];
  reached = elim is.reached [
    | inl none ↦ inl none
    | inr one ↦ inr (record {
      element = one.element;
      ending = one.ending;
      there = kept-push front ending one.element one.ending one.there;
      ended = one.ended;
      is = one.is;
    })
  ];
}

-- so all of it is counted of one trace more
pub one-counted-more : (endings : List Ending) (i : ℕ) (ending : Ending) (timing : Timing) → i < length endings → slice_get endings i ≡ Some ending
    → timing.lost ≡ count_by is_lost (take i endings ++ ending ∷ [])
    → timing.first ≡ position is_lost (take i endings ++ ending ∷ [])
    → IsGreatest (IsLengthIn (take i endings ++ ending ∷ [])) timing.longest
    → IsCounted (take (i + 1) endings) timing
one-counted-more endings i ending timing within there lost first longest =
    subst (λ list. IsCounted list timing) (sym (take_more endings i ending within ∙ ap (λ e. take i endings ++ e ∷ []) (is-there endings i there)))
    (record { lost = lost; first = first; longest = longest })
  where
    is-there : (xs : List Ending) (k : ℕ) → slice_get xs k ≡ Some ending → slice_index_or xs k ending ≡ ending
    is-there [] k none = absurd (none-some ending none)
    is-there (x ∷ xs) zero here = same_Some x ending here
    is-there (x ∷ xs) (suc k) later = is-there xs k later

-- the first that is lost is an element of the plan
pub first-within : (plan : Topology) (taken : Taken) (timing : Timing) → IsTiming plan taken timing → IfSome timing.first (λ element. element < length plan.elements)
first-within plan taken timing is = by timing.first is.counted.first
  where
    by : (first : Option ℕ) → first ≡ position is_lost is.endings → IfSome first (λ element. element < length plan.elements)
    by None same = tt
    by (Some element) same =
        let there = position-Some is_lost is.endings element (record { lines = 0; end = Loop 0 }) (sym same) in
        omega (arith, there.0, is.are_endings.count)
