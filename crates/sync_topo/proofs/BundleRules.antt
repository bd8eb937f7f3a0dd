-- What makes a link's bundle bad.
use Rattle.std.proofs.Common.{◌≡◌, ℕ, ◌+◌, ◌<◌, zero, suc, Bool, true, false, not, ◌&&◌, ◌||◌, ◌==◌, List, [], ◌∷◌, ◌++◌, length, Option, Some, None, slice_get, refl, sym, ap, ◌∙◌, inl, inr, arith, length-append}
use Rattle.std.specs.List.{list_any}
use Rattle.std.proofs.Math.Bool.{or-true}
use Rattle.std.proofs.lemmas.Bool.{cases_Bool, cases_lt, or_parts, true≢false, not-false}
use Rattle.std.proofs.lemmas.Bool.Decides.{nat_tests}
use Rattle.std.proofs.lemmas.Option.{none-some, same_Some, slice_get_within}
use Rattle.std.proofs.lemmas.Slice.Eq.{bytes_eq-Decides}
use Rattle.sync_text.proofs.Ranges.{find_range-Some, find_range-None}
use Rattle.sync_topo.specs.declared.link.Link.{Link}
use Rattle.sync_topo.specs.Bundles.{is_same_bundle, join_same, BundlesJoin}
use Rattle.sync_topo.specs.private.Kept.{names_bundle, first_of_bundle}
use Rattle.sync_topo.specs.Names.{is_name}
use Rattle.sync_topo.specs.Rules.{is_bad_bundle_name, is_bad_bundle}
use Rattle.sync_topo.proofs.Lists.{slice_get-push_before, slice_get-push_last}
use Rattle.sync_topo.proofs.BundleLemmas.{same-None}
use Rattle.sync_topo.proofs.RuleLemmas.{slice_get-middle, slice_get-front}

-- ---- one item of a list passes, or none does

pub list_any-at : {A : Type 0} (p : A → Bool) (items : List A) (i : ℕ) (item : A) → slice_get items i ≡ Some item → p item ≡ true → list_any p items ≡ true
list_any-at p [] i item at passes = absurd (none-some item at)
list_any-at p (first ∷ items) zero item at passes =
    let here : p first ≡ true = ap p (same_Some first item at) ∙ passes in
    rw here refl
list_any-at p (first ∷ items) (suc i) item at passes = rw (list_any-at p items i item at passes) (or-true (p first))

pub list_any-none : {A : Type 0} (p : A → Bool) (items : List A) → ((i : ℕ) (item : A) → slice_get items i ≡ Some item → p item ≡ false) → list_any p items ≡ false
list_any-none p [] fails = refl
list_any-none p (first ∷ items) fails = rw (fails 0 first refl, list_any-none p items (λ i item at. fails (suc i) item at)) refl

pub none-passes : {A : Type 0} (p : A → Bool) (items : List A) → list_any p items ≡ false → (i : ℕ) (item : A) → slice_get items i ≡ Some item → p item ≡ false
none-passes p items none i item at = elim (cases_Bool (p item)) [
  | inl passes ↦ absurd (true≢false (sym (list_any-at p items i item at passes) ∙ none))
  | inr fails ↦ fails
]

-- ---- names of bundles and ends of links

pub same-is : (one other : Option (List ℕ)) → is_same_bundle one other ≡ true → one ≡ other
same-is None other same = absurd (true≢false (sym same))
same-is (Some one) None same = absurd (true≢false (sym same))
same-is (Some one) (Some other) same = ap Some ((bytes_eq-Decides one other).0 same)

pub same-sym : (one other : Option (List ℕ)) → is_same_bundle one other ≡ true → is_same_bundle other one ≡ true
same-sym None other same = absurd (true≢false (sym same))
same-sym (Some one) None same = absurd (true≢false (sym same))
same-sym (Some one) (Some other) same = (bytes_eq-Decides other one).1 (sym ((bytes_eq-Decides one other).0 same))

ends-sym : (a b c d : ℕ) → ((a == c && b == d) || (a == d && b == c)) ≡ true → ((c == a && d == b) || (c == b && d == a)) ≡ true
ends-sym a b c d same = grind (arith, nat_tests)

ends-trans : (a b c d e f : ℕ) → ((a == c && b == d) || (a == d && b == c)) ≡ true → ((c == e && d == f) || (c == f && d == e)) ≡ true
    → ((a == e && b == f) || (a == f && b == e)) ≡ true
ends-trans a b c d e f first second = grind (arith, nat_tests)

ends-same : (a b : ℕ) → ((a == a && b == b) || (a == b && b == a)) ≡ true
ends-same a b = grind (arith, nat_tests)

pub join-sym : (one other : Link) → join_same one other ≡ true → join_same other one ≡ true
join-sym one other same = ends-sym one.a one.b other.a other.b same

pub join-trans : (one other third : Link) → join_same one other ≡ true → join_same other third ≡ true → join_same one third ≡ true
join-trans one other third first second = ends-trans one.a one.b other.a other.b third.a third.b first second

pub join-itself : (link : Link) → join_same link link ≡ true
join-itself link = ends-same link.a link.b

-- ---- the rule for one more link

-- an earlier link names the bundle, and joins other elements
abbrev joins_others : Link → Link → Bool
joins_others link earlier = is_same_bundle earlier.bundle link.bundle && not (join_same earlier link)

pub bad-unnamed : (links : List Link) (link : Link) → link.bundle ≡ None → is_bad_bundle links link ≡ false
bad-unnamed links link unnamed =
    rw unnamed (list_any-none (λ (earlier : Link). is_same_bundle earlier.bundle None && not (join_same earlier link)) links
    (λ i earlier at. rw (same-None earlier.bundle) refl))

pub bad-named : (links : List Link) (link : Link) (name : List ℕ) → link.bundle ≡ Some name → is_name name ≡ false → is_bad_bundle links link ≡ true
bad-named links link name named bad = rw (named, bad) refl

-- no earlier link names the bundle
pub bad-new : (links : List Link) (link : Link) (name : List ℕ) → link.bundle ≡ Some name → is_name name ≡ true → first_of_bundle links name ≡ None
    → is_bad_bundle links link ≡ false
bad-new links link name named good none =
    rw (named, good) (list_any-none (λ (earlier : Link). is_same_bundle earlier.bundle (Some name) && not (join_same earlier link)) links
    (λ i earlier at.
    let other : names_bundle links name i ≡ false = find_range-None (names_bundle links name) 0 (length links) none i (omega arith) (omega (arith, slice_get_within links i earlier at)) in
    let differs : is_same_bundle earlier.bundle (Some name) ≡ false = rw at at other in
    rw differs refl))

-- the first link of the bundle tells for all earlier ones
pub bad-first : (links : List Link) (link first : Link) (name : List ℕ) (k : ℕ) → BundlesJoin links → link.bundle ≡ Some name → is_name name ≡ true
    → first_of_bundle links name ≡ Some k → slice_get links k ≡ Some first → is_bad_bundle links link ≡ not (join_same first link)
bad-first links link first name k join named good found at =
    let facts = find_range-Some (names_bundle links name) 0 (length links) k found in
    let of_it : is_same_bundle first.bundle (Some name) ≡ true = rw at at facts.0 in
    rw (named, good) (elim (cases_Bool (join_same first link)) [
      | inl same ↦ rw same (list_any-none (λ (earlier : Link). is_same_bundle earlier.bundle (Some name) && not (join_same earlier link)) links
          (λ i earlier here. elim (cases_Bool (is_same_bundle earlier.bundle (Some name))) [
            | inr other ↦ rw other refl
            | inl too ↦
                let both : is_same_bundle earlier.bundle first.bundle ≡ true = rw (same-is first.bundle (Some name) of_it) too in
                rw (too, join-trans earlier first link (join i k earlier first here at both) same) refl
          ]))
      | inr other ↦ rw other (list_any-at (λ (earlier : Link). is_same_bundle earlier.bundle (Some name) && not (join_same earlier link)) links k first at (rw (of_it, other) refl))
    ])

-- a link that keeps the rule leaves the bundles joined
pub BundlesJoin-push : (links : List Link) (link : Link) → BundlesJoin links → is_bad_bundle links link ≡ false → BundlesJoin (links ++ link ∷ [])
BundlesJoin-push links link join fits i j one other at_i at_j same =
    let size : length (links ++ link ∷ []) ≡ length links + 1 = length-append links (link ∷ []) in
    let i_within : i < length links + 1 = omega (arith, slice_get_within (links ++ link ∷ []) i one at_i, size) in
    let j_within : j < length links + 1 = omega (arith, slice_get_within (links ++ link ∷ []) j other at_j, size) in
    elim (cases_lt i (length links)) [
      | inl i_before ↦ elim (cases_lt j (length links)) [
        | inl j_before ↦ join i j one other (before i one i_before at_i) (before j other j_before at_j) same
        | inr j_end ↦
            let is : link ≡ other = last j other (omega arith) at_j in
            rw (← is) (with_last i one (before i one i_before at_i) (rw is same))
      ]
      | inr i_end ↦
          let one_is : link ≡ one = last i one (omega arith) at_i in
          elim (cases_lt j (length links)) [
            | inl j_before ↦
                rw (← one_is) (join-sym other link (with_last j other (before j other j_before at_j) (same-sym link.bundle other.bundle (rw one_is same))))
            | inr j_end ↦
                let other_is : link ≡ other = last j other (omega arith) at_j in
                rw (← one_is, ← other_is) (join-itself link)
          ]
    ]
  where
    before : (k : ℕ) (there : Link) → k < length links → slice_get (links ++ link ∷ []) k ≡ Some there → slice_get links k ≡ Some there
    before k there inside at = sym (slice_get-push_before links link k inside) ∙ at

    last : (k : ℕ) (there : Link) → k ≡ length links → slice_get (links ++ link ∷ []) k ≡ Some there → link ≡ there
    last k there end at = same_Some link there (sym (slice_get-push_last links link k end) ∙ at)

    with_last : (k : ℕ) (earlier : Link) → slice_get links k ≡ Some earlier → is_same_bundle earlier.bundle link.bundle ≡ true → join_same earlier link ≡ true
    with_last k earlier at same_too =
        let none = (or_parts (is_bad_bundle_name link.bundle) (list_any (joins_others link) links) fits).1 in
        let kept : joins_others link earlier ≡ false = none-passes (joins_others link) links none k earlier at in
        not-false (join_same earlier link) (rw same_too at kept)

-- the name of a link that keeps the rule is good
pub good-name : (links : List Link) (link : Link) → is_bad_bundle links link ≡ false → is_bad_bundle_name link.bundle ≡ false
good-name links link fits = (or_parts (is_bad_bundle_name link.bundle) (list_any (joins_others link) links) fits).0

-- a link of a plan whose bundles join keeps the rule after those before it
pub fits-before : (front : List Link) (link : Link) (rest : List Link) → BundlesJoin (front ++ link ∷ rest) → is_bad_bundle_name link.bundle ≡ false
    → is_bad_bundle front link ≡ false
fits-before front link rest join good =
    rw good (list_any-none (joins_others link) front (λ i earlier at. elim (cases_Bool (is_same_bundle earlier.bundle link.bundle)) [
      | inr other ↦ rw other refl
      | inl same ↦
          let there : slice_get (front ++ link ∷ rest) i ≡ Some earlier = slice_get-front front (link ∷ rest) i (slice_get_within front i earlier at) ∙ at in
          rw (same, join i (length front) earlier link there (slice_get-middle front link rest) same) refl
    ]))

pub twice-not : (b : Bool) → b ≡ not (not b)
twice-not true = refl
twice-not false = refl
