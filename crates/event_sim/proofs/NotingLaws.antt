-- What is noted of a step: the places that were looked at, one after another, and their rows.
use Rattle.std.proofs.Common.{◌≡◌, ◌≢◌, ◌<◌, ◌+◌, ◌⊎◌, inl, inr, ℕ, Bool, true, false, ◌||◌, List, [], ◌∷◌, ◌++◌, length, map, set, take, refl, ap, sym, subst, ◌∙◌, arith}
use Rattle.std.specs.Prelude.{nat_eq, slice_index, slice_index_or, if◌then◌else◌}
use Rattle.std.specs.List.{All, list_any, range_with_len, IsDistinct}
use Rattle.std.specs.List.Sorted.{IsPermutation, IsSorted}
use Rattle.std.specs.Ordering.{nat_cmp}
use Rattle.std.proofs.Math.Decide.{dec_lt}
use Rattle.std.proofs.Math.ListN.{get_or-eq_default}
use Rattle.std.proofs.lemmas.Bool.{true≢false}
use Rattle.std.proofs.lemmas.Bool.Decides.{eqb_tells}
use Rattle.std.proofs.lemmas.Cmp.{nat_eq_equiv}
use Rattle.std.proofs.lemmas.List.{get_or_default, get_or-set_same, get_or-set_other, length-set, append_assoc, map-append, take_more}
use Rattle.std.proofs.lemmas.List.Elements.{All-filter}
use Rattle.std.proofs.lemmas.List.FromFn.{length-range_with_len, get_or-range_with_len}
use Rattle.std.proofs.lemmas.List.Folds.{list_any-append}
use Rattle.std.proofs.lemmas.List.Sorted.{list_any-IsPermutation}
use Rattle.std.proofs.lemmas.Map.Keys.{IsDistinct-push, IsDistinct-IsPermutation, IsDistinct-from_apart}
use Rattle.agenda.proofs.SortedPlaces.{sorted-kept}
use Rattle.sync_element.specs.ElementState.{ElementState}
use Rattle.sync_topo.specs.Topology.{Topology}
use Rattle.sync_net.specs.NetState.{NetState}
use Rattle.event_sim.specs.declared.shown.Shown.{Shown}
use Rattle.event_sim.specs.declared.change.Change.{Change}
use Rattle.event_sim.specs.Rows.{shows_other, shown_after, row_of}
use Rattle.event_sim.specs.private.Showing.{Shows, kept_in, AreSeen, others_in}
use Rattle.event_sim.proofs.RowLaws.{other-same}

-- at first nothing was looked at
pub seen-none : (net : NetState) (was : List Shown) (listed : List ℕ) → listed ≡ [] → AreSeen net [] was was listed
seen-none net was listed none = record {
  renewed = record {
    count = refl;
    seen = λ place other within has. absurd (true≢false (sym has));
    left = λ place has. refl;
  };
  apart = subst (IsDistinct nat_eq) (sym none) (IsDistinct-from_apart nat_eq [] (λ i j d before within. absurd (omega (arith, within))));
  changed = λ place. ap (list_any (nat_eq place)) none ∙ sym (other-same (kept_in net.plan was place));
}

-- one more place was looked at
pub seen-more : (net : NetState) (done done_then : List ℕ) (was shown : List Shown) (listed listed_then : List ℕ) (place : ℕ) (old now : Shown)
    → ((e : ℕ) → list_any (nat_eq e) done_then ≡ (list_any (nat_eq e) done || nat_eq e place))
    → list_any (nat_eq place) done ≡ false → place < length shown
    → old ≡ slice_index_or shown place old
    → ((other : ElementState) → Shows net.plan place (slice_index_or net.elements place other) now)
    → listed_then ≡ (if shows_other old now then listed ++ place ∷ [] else listed)
    → AreSeen net done was shown listed → AreSeen net done_then was (set shown place now) listed_then
seen-more net done done_then was shown listed listed_then place old now more fresh within read shows lists seen = record {
  renewed = record {
    count = length-set shown place now ∙ seen.renewed.count;
    seen = λ e other inside has. elim (eqb_tells e place) [
      | inl same ↦
          let here : e ≡ place = same.1 in
          subst (λ k. Shows net.plan k (slice_index_or net.elements k other) (kept_in net.plan (set shown place now) k)) (sym here)
          (subst (Shows net.plan place (slice_index_or net.elements place other)) (sym kept-here) (shows other))
      | inr apart ↦
          let earlier : list_any (nat_eq e) done ≡ true = or-left (list_any (nat_eq e) done) (nat_eq e place) apart.0 (sym (more e) ∙ has) in
          subst (Shows net.plan e (slice_index_or net.elements e other)) (sym (kept-there e apart.1)) (seen.renewed.seen e other inside earlier)
    ];
    left = λ e none. elim (eqb_tells e place) [
      | inl same ↦ absurd (true≢false (sym (or-right (list_any (nat_eq e) done) (nat_eq e place) same.0) ∙ sym (more e) ∙ none))
      | inr apart ↦ kept-there e apart.1 ∙ seen.renewed.left e (or-none (list_any (nat_eq e) done) (nat_eq e place) (sym (more e) ∙ none))
    ];
  };
  apart = subst (IsDistinct nat_eq) (sym lists) (distinct (shows_other old now));
  changed = λ e. ap (list_any (nat_eq e)) lists ∙ listed-then e (eqb_tells e place);
}
  where
    kept-old : kept_in net.plan shown place ≡ old
    kept-old = get_or_default shown place (shown_after net.plan place []) old within ∙ sym read

    old-was : old ≡ kept_in net.plan was place
    old-was = sym kept-old ∙ seen.renewed.left place fresh

    kept-here : kept_in net.plan (set shown place now) place ≡ now
    kept-here = get_or-set_same shown place now (shown_after net.plan place []) within

    kept-there : (e : ℕ) → e ≢ place → kept_in net.plan (set shown place now) e ≡ kept_in net.plan shown e
    kept-there e apart = get_or-set_other shown place e now (shown_after net.plan e []) apart

    or-left : (a b : Bool) → b ≡ false → (a || b) ≡ true → a ≡ true
    or-left true b none is = refl
    or-left false b none is = absurd (true≢false (sym is ∙ none))

    or-right : (a b : Bool) → b ≡ true → (a || b) ≡ true
    or-right true b is = refl
    or-right false b is = is

    or-none : (a b : Bool) → (a || b) ≡ false → a ≡ false
    or-none true b is = is
    or-none false b is = refl

    or-false : (a b : Bool) → b ≡ false → (a || b) ≡ a
    or-false true b is = refl
    or-false false b is = is

    unlisted : list_any (nat_eq place) listed ≡ false
    unlisted = seen.changed place ∙ ap (shows_other (kept_in net.plan was place)) (seen.renewed.left place fresh) ∙ other-same (kept_in net.plan was place)

    distinct : (told : Bool) → IsDistinct nat_eq (if told then listed ++ place ∷ [] else listed)
    distinct true = IsDistinct-push nat_eq_equiv listed place seen.apart unlisted
    distinct false = seen.apart

    found : (e : ℕ) (told : Bool) → list_any (nat_eq e) (if told then listed ++ place ∷ [] else listed) ≡ (if told then list_any (nat_eq e) listed || (nat_eq e place || false) else list_any (nat_eq e) listed)
    found e true = list_any-append (nat_eq e) listed (place ∷ [])
    found e false = refl

    at-place : (told : Bool) → shows_other old now ≡ told → nat_eq place place ≡ true
        → (if told then list_any (nat_eq place) listed || (nat_eq place place || false) else list_any (nat_eq place) listed) ≡ told
    at-place true is same = or-right (list_any (nat_eq place) listed) (nat_eq place place || false) (ap (λ b. b || false) same)
    at-place false is same = unlisted

    elsewhere : (e : ℕ) (told : Bool) → nat_eq e place ≡ false
        → (if told then list_any (nat_eq e) listed || (nat_eq e place || false) else list_any (nat_eq e) listed) ≡ list_any (nat_eq e) listed
    elsewhere e true apart = or-false (list_any (nat_eq e) listed) (nat_eq e place || false) (ap (λ b. b || false) apart)
    elsewhere e false apart = refl

    listed-then : (e : ℕ) → ((nat_eq e place ≡ true) × (e ≡ place)) ⊎ ((nat_eq e place ≡ false) × (e ≢ place))
        → list_any (nat_eq e) (if shows_other old now then listed ++ place ∷ [] else listed)
        ≡ shows_other (kept_in net.plan was e) (kept_in net.plan (set shown place now) e)
    listed-then e (inl same) =
        let here : e ≡ place = same.1 in
        subst (λ k. list_any (nat_eq k) (if shows_other old now then listed ++ place ∷ [] else listed)
        ≡ shows_other (kept_in net.plan was k) (kept_in net.plan (set shown place now) k)) (sym here)
        (found place (shows_other old now)
        ∙ at-place (shows_other old now) refl (subst (λ k. nat_eq k place ≡ true) here same.0)
        ∙ ap (λ shown. shows_other shown now) old-was
        ∙ ap (shows_other (kept_in net.plan was place)) (sym kept-here))
    listed-then e (inr apart) =
        found e (shows_other old now) ∙ elsewhere e (shows_other old now) apart.0 ∙ seen.changed e
        ∙ ap (shows_other (kept_in net.plan was e)) (sym (kept-there e apart.1))

-- where all that a step evaluated was looked at, and what changed was sorted
pub seen-all : (net : NetState) (was now : List Shown) (listed sorted : List ℕ) → AreSeen net net.evaluated was now listed
    → length was ≡ length net.plan.elements → IsPermutation listed sorted → IsSorted nat_cmp sorted
    → sorted ≡ others_in net.plan was now
seen-all net was now listed sorted seen count moved in_order =
    sorted-kept (λ place. shows_other (kept_in net.plan was place) (kept_in net.plan now place)) (length net.plan.elements) sorted in_order
    (IsDistinct-IsPermutation nat_eq nat_eq_equiv.symm listed sorted moved seen.apart)
    (λ place. sym (list_any-IsPermutation (nat_eq place) listed sorted moved) ∙ seen.changed place)
    (λ place differs. elim (dec_lt place (length net.plan.elements)) [
      | yes inside ↦ inside
      | no beyond ↦
          let before : kept_in net.plan was place ≡ shown_after net.plan place [] = get_or-eq_default was (shown_after net.plan place []) (omega (arith, beyond, count)) in
          let after : kept_in net.plan now place ≡ shown_after net.plan place [] = get_or-eq_default now (shown_after net.plan place []) (omega (arith, beyond, count, seen.renewed.count)) in
          absurd (true≢false (sym differs ∙ ap (λ shown. shows_other shown (kept_in net.plan now place)) before
          ∙ ap (shows_other (shown_after net.plan place [])) after ∙ other-same (shown_after net.plan place [])))
    ])

-- the places that changed are places of the plan
pub others-within : (plan : Topology) (was now : List Shown) (n : ℕ) → length plan.elements ≡ n → All (λ place. place < n) (others_in plan was now)
others-within plan was now n same = All-filter (λ place. shows_other (kept_in plan was place) (kept_in plan now place)) (λ place. place < n) (range_with_len 0 (length plan.elements))
    (λ k d inside.
    let low : k < length plan.elements = omega (arith, inside, length-range_with_len 0 (length plan.elements)) in
    let at : slice_index_or (range_with_len 0 (length plan.elements)) k d ≡ 0 + k = get_or-range_with_len 0 (length plan.elements) k d low in
    omega (arith, at, low, same))

-- one more row
pub rows-more : (t : ℕ) (shown : List Shown) (other : ℕ → Shown) (changed : List ℕ) (i place : ℕ) (x : Shown) (before items after : List Change)
    → i < length changed → place ≡ slice_index changed i → place < length shown → x ≡ slice_index_or shown place x
    → items ≡ before ++ map (λ k. row_of t k (slice_index_or shown k (other k))) (take i changed)
    → after ≡ items ++ row_of t place x ∷ []
    → after ≡ before ++ map (λ k. row_of t k (slice_index_or shown k (other k))) (take (i + 1) changed)
rows-more t shown other changed i place x before items after inside at within read so_far added =
    let row : ℕ → Change = λ k. row_of t k (slice_index_or shown k (other k)) in
    let kept : x ≡ slice_index_or shown place (other place) = read ∙ get_or_default shown place x (other place) within in
    let last : row_of t place x ≡ row (slice_index changed i) = ap (row_of t place) kept ∙ ap row at in
    added ∙ ap (λ rows. rows ++ row_of t place x ∷ []) so_far
    ∙ append_assoc before (map row (take i changed)) (row_of t place x ∷ [])
    ∙ ap (λ rows. before ++ (map row (take i changed) ++ rows)) (ap (λ (one : Change). one ∷ []) last)
    ∙ ap (λ rows. before ++ rows) (sym (map-append row (take i changed) (slice_index changed i ∷ [])))
    ∙ ap (λ places. before ++ map row places) (sym (take_more changed i 0 inside))
