-- The bundles of some links when one more comes.
use Rattle.std.proofs.Common.{◌≡◌, ℕ, ◌+◌, ◌<◌, ◌≤◌, Bool, true, false, List, [], ◌∷◌, ◌++◌, length, Option, Some, None, slice_get, find, refl, ap, sym, ◌∙◌, inl, inr, arith, length-append}
use Rattle.std.specs.Prelude.{option_and_then, unwrap_or, Result, Ok, Err, OnOk}
use Rattle.std.specs.List.{range_with_len}
use Rattle.std.specs.Option.{option_or}
use Rattle.std.specs.Str.{bytes_eq}
use Rattle.std.proofs.lemmas.Bool.{cases_Bool, cases_lt, eq-eqb, ne_eqb, true≢false}
use Rattle.std.proofs.lemmas.Option.{slice_get_within}
use Rattle.std.proofs.lemmas.Slice.Eq.{bytes_eq-Decides}
use Rattle.sync_text.proofs.Ranges.{find_range-Some, find_range-None, find_range-first, find_range-none}
use Rattle.sync_topo.specs.declared.link.Link.{Link}
use Rattle.sync_topo.specs.Bundles.{is_same_bundle, bundle_name, are_of_one_bundle, lowest_of_bundle}
use Rattle.sync_topo.specs.private.Kept.{names_bundle, first_of_bundle, first_beside, AreBundlesOf}
use Rattle.sync_topo.specs.Names.{is_named, place_of}
use Rattle.sync_topo.proofs.LineNames.{not_same}
use Rattle.sync_topo.proofs.Lists.{slice_get-push_before, slice_get-push_last, position-push, place_of-fresh, place_of-names}

named-before : (links : List Link) (link : Link) (k : ℕ) → k < length links → bundle_name (links ++ link ∷ []) k ≡ bundle_name links k
named-before links link k within = rw (slice_get-push_before links link k within) refl

named-last : (links : List Link) (link : Link) → bundle_name (links ++ link ∷ []) (length links) ≡ link.bundle
named-last links link = rw (slice_get-push_last links link (length links) refl) refl

names-before : (links : List Link) (link : Link) (name : List ℕ) (k : ℕ) → k < length links
    → names_bundle (links ++ link ∷ []) name k ≡ names_bundle links name k
names-before links link name k within = ap (λ (b : Option (List ℕ)). is_same_bundle b (Some name)) (named-before links link k within)

-- the first link of a bundle stays the first
first-kept : (links : List Link) (link : Link) (name : List ℕ) (k : ℕ) → first_of_bundle links name ≡ Some k → first_of_bundle (links ++ link ∷ []) name ≡ Some k
first-kept links link name k found =
    let facts = find_range-Some (names_bundle links name) 0 (length links) k found in
    let size : length (links ++ link ∷ []) ≡ length links + 1 = length-append links (link ∷ []) in
    let within : k < length links = omega (arith, facts.3) in
    find_range-first (names_bundle (links ++ link ∷ []) name) 0 (length (links ++ link ∷ [])) k (omega arith) (omega (arith, size))
    (names-before links link name k within ∙ facts.0)
    (λ i low before. names-before links link name i (omega arith) ∙ facts.1 i low before)

none-before : (links : List Link) (link : Link) (name : List ℕ) → first_of_bundle links name ≡ None
    → (i : ℕ) → i < length links → names_bundle (links ++ link ∷ []) name i ≡ false
none-before links link name none i before =
    names-before links link name i before ∙ find_range-None (names_bundle links name) 0 (length links) none i (omega arith) (omega arith)

-- the last link is the first of a bundle that none before it names
first-last : (links : List Link) (link : Link) (name : List ℕ) → first_of_bundle links name ≡ None → is_same_bundle link.bundle (Some name) ≡ true
    → first_of_bundle (links ++ link ∷ []) name ≡ Some (length links)
first-last links link name none same =
    let size : length (links ++ link ∷ []) ≡ length links + 1 = length-append links (link ∷ []) in
    find_range-first (names_bundle (links ++ link ∷ []) name) 0 (length (links ++ link ∷ [])) (length links) (omega arith) (omega (arith, size))
    (ap (λ (b : Option (List ℕ)). is_same_bundle b (Some name)) (named-last links link) ∙ same)
    (λ i low before. none-before links link name none i before)

-- and no link names a bundle that neither those before it nor it name
first-none : (links : List Link) (link : Link) (name : List ℕ) → first_of_bundle links name ≡ None → is_same_bundle link.bundle (Some name) ≡ false
    → first_of_bundle (links ++ link ∷ []) name ≡ None
first-none links link name none other =
    let size : length (links ++ link ∷ []) ≡ length links + 1 = length-append links (link ∷ []) in
    find_range-none (names_bundle (links ++ link ∷ []) name) 0 (length (links ++ link ∷ [])) (λ i low high.
    elim (cases_lt i (length links)) [
      | inl before ↦ none-before links link name none i before
      | inr end ↦
          let last : i ≡ length links = omega (arith, size) in
          rw last (ap (λ (b : Option (List ℕ)). is_same_bundle b (Some name)) (named-last links link) ∙ other)
    ])

-- a bundle that the last link does not name has the first link that it had
first-other : (links : List Link) (link : Link) (name : List ℕ) → is_same_bundle link.bundle (Some name) ≡ false
    → first_of_bundle (links ++ link ∷ []) name ≡ first_of_bundle links name
first-other links link name other = cases (first_of_bundle links name) refl
  where
    cases : (first : Option ℕ) → first_of_bundle links name ≡ first → first_of_bundle (links ++ link ∷ []) name ≡ first_of_bundle links name
    cases None e = first-none links link name e other ∙ sym e
    cases (Some k) e = first-kept links link name k e ∙ sym e

-- ---- the number of a link's bundle

pub lowest-is : (links : List Link) (link k : ℕ) → k < length links → are_of_one_bundle links k link ≡ true
    → ((i : ℕ) → i < k → are_of_one_bundle links i link ≡ false) → lowest_of_bundle links link ≡ k
unfolding lowest_of_bundle
lowest-is links link k within here before =
    let found : find (λ other. are_of_one_bundle links other link) (range_with_len 0 (length links)) ≡ Some k
    = find_range-first (λ other. are_of_one_bundle links other link) 0 (length links) k (omega arith) (omega arith) here (λ i low high. before i high) in
    ap (λ (x : Option ℕ). unwrap_or x link) found

-- a link's bundle has a lowest link, which is of it
pub record IsLowest (links : List Link) (link k : ℕ) : Type 0 where
  pub within : k < length links
  pub at_most : k ≤ link
  pub same : are_of_one_bundle links k link ≡ true
  pub lowest : (i : ℕ) → i < k → are_of_one_bundle links i link ≡ false

pub lowest-there : (links : List Link) (link : ℕ) → link < length links → IsLowest links link (lowest_of_bundle links link)
unfolding lowest_of_bundle
lowest-there links link within = cases (find test (range_with_len 0 (length links))) refl
  where
    test : ℕ → Bool
    test other = are_of_one_bundle links other link

    own : are_of_one_bundle links link link ≡ true
    own = rw (eq-eqb link link refl) refl

    cases : (found : Option ℕ) → find (λ other. are_of_one_bundle links other link) (range_with_len 0 (length links)) ≡ found
        → IsLowest links link (unwrap_or found link)
    cases None e =
        let never = find_range-None (λ other. are_of_one_bundle links other link) 0 (length links) e link (omega arith) (omega arith) in
        absurd (true≢false (sym own ∙ never))
    cases (Some k) e =
        let facts = find_range-Some (λ other. are_of_one_bundle links other link) 0 (length links) k e in
        record {
          within = omega (arith, facts.3);
          at_most = elim (cases_lt link k) [
            | inl past ↦ absurd (true≢false (sym own ∙ facts.1 link (omega arith) past))
            | inr up_to ↦ up_to
          ];
          same = facts.0;
          lowest = λ i before. facts.1 i (omega arith) before;
        }

-- an earlier link's bundle keeps its number
lowest-kept : (links : List Link) (link : Link) (k : ℕ) → k < length links → lowest_of_bundle (links ++ link ∷ []) k ≡ lowest_of_bundle links k
lowest-kept links link k within =
    let low = lowest-there links k within in
    let lowest : ℕ = lowest_of_bundle links k in
    let size : length (links ++ link ∷ []) ≡ length links + 1 = length-append links (link ∷ []) in
    lowest-is (links ++ link ∷ []) k lowest (omega (arith, low.within, size)) (as_before lowest low.within ∙ low.same)
    (λ i before. as_before i (omega (arith, low.within)) ∙ low.lowest i before)
  where
    as_before : (i : ℕ) → i < length links → are_of_one_bundle (links ++ link ∷ []) i k ≡ are_of_one_bundle links i k
    as_before i inside = rw (slice_get-push_before links link i inside, slice_get-push_before links link k within) refl

-- ---- one more link

-- the number that is kept for it
numbers-more : (links : List Link) (link : Link) (numbers : List ℕ) (last : ℕ) → length numbers ≡ length links
    → ((k : ℕ) → k < length links → slice_get numbers k ≡ Some (lowest_of_bundle links k)) → lowest_of_bundle (links ++ link ∷ []) (length links) ≡ last
    → (k : ℕ) → k < length (links ++ link ∷ []) → slice_get (numbers ++ last ∷ []) k ≡ Some (lowest_of_bundle (links ++ link ∷ []) k)
numbers-more links link numbers last counted kept is k within =
    elim (cases_lt k (length links)) [
      | inl before ↦ slice_get-push_before numbers last k (omega (arith, counted)) ∙ kept k before ∙ ap Some (sym (lowest-kept links link k before))
      | inr end ↦
          let at : k ≡ length links = omega (arith, length-append links (link ∷ [])) in
          slice_get-push_last numbers last k (omega (arith, counted)) ∙ ap Some (sym is ∙ ap (lowest_of_bundle (links ++ link ∷ [])) (sym at))
    ]

counted-more : {A B : Type 0} (xs : List A) (ys : List B) (x : A) (y : B) → length xs ≡ length ys → length (xs ++ x ∷ []) ≡ length (ys ++ y ∷ [])
counted-more xs ys x y same = omega (arith, same, length-append xs (x ∷ []), length-append ys (y ∷ []))

-- whether an earlier link is of the last one's bundle
of_last : (links : List Link) (link : Link) (i : ℕ) → i < length links
    → are_of_one_bundle (links ++ link ∷ []) i (length links) ≡ is_same_bundle (bundle_name links i) link.bundle
of_last links link i before =
    rw (ne_eqb i (length links) (omega arith), slice_get-push_before links link i before, slice_get-push_last links link (length links) refl) refl

last_of_last : (links : List Link) (link : Link) → are_of_one_bundle (links ++ link ∷ []) (length links) (length links) ≡ true
last_of_last links link = rw (eq-eqb (length links) (length links) refl) refl

-- it is the lowest of its bundle where no earlier link is of it
lowest-new : (links : List Link) (link : Link) → ((i : ℕ) → i < length links → is_same_bundle (bundle_name links i) link.bundle ≡ false)
    → lowest_of_bundle (links ++ link ∷ []) (length links) ≡ length links
lowest-new links link none =
    lowest-is (links ++ link ∷ []) (length links) (length links) (omega (arith, length-append links (link ∷ []))) (last_of_last links link)
    (λ i before. of_last links link i before ∙ none i before)

pub same-None : (one : Option (List ℕ)) → is_same_bundle one None ≡ false
same-None None = refl
same-None (Some one) = refl

-- a link that names no bundle is one of its own
pub more-unnamed : (names : List (List ℕ)) (firsts numbers : List ℕ) (links : List Link) (link : Link) → AreBundlesOf names firsts numbers links → link.bundle ≡ None
    → AreBundlesOf names firsts (numbers ++ length links ∷ []) (links ++ link ∷ [])
more-unnamed names firsts numbers links link are unnamed = record {
  paired = are.paired;
  found = λ name. are.found name ∙ sym (first-other links link name (ap (λ (b : Option (List ℕ)). is_same_bundle b (Some name)) unnamed));
  counted = counted-more numbers links (length links) link are.counted;
  kept = numbers-more links link numbers (length links) are.counted are.kept (lowest-new links link (λ i before. rw unnamed (same-None (bundle_name links i))));
}

-- one that names a bundle which has a first link is of that
pub more-named : (names : List (List ℕ)) (firsts numbers : List ℕ) (links : List Link) (link : Link) (name : List ℕ) (first : ℕ)
    → AreBundlesOf names firsts numbers links → link.bundle ≡ Some name → first_beside names firsts name ≡ Some first
    → AreBundlesOf names firsts (numbers ++ first ∷ []) (links ++ link ∷ [])
more-named names firsts numbers links link name first are named beside =
    let found : first_of_bundle links name ≡ Some first = sym (are.found name) ∙ beside in
    let facts = find_range-Some (names_bundle links name) 0 (length links) first found in
    let within : first < length links = omega (arith, facts.3) in
    record {
      paired = are.paired;
      found = λ other. are.found other ∙ elim (cases_Bool (bytes_eq name other)) [
        | inl same ↦
            let is : name ≡ other = (bytes_eq-Decides name other).0 same in
            rw (← is) (found ∙ sym (first-kept links link name first found))
        | inr apart ↦ sym (first-other links link other (rw (named) apart))
      ];
      counted = counted-more numbers links first link are.counted;
      kept = numbers-more links link numbers first are.counted are.kept
          (lowest-is (links ++ link ∷ []) (length links) first (omega (arith, length-append links (link ∷ []), within))
          (of_last links link first within ∙ (rw named facts.0))
          (λ i before. of_last links link i (omega (arith, within)) ∙ (rw named (facts.1 i (omega arith) before))));
    }

or_none : (place : Option ℕ) → option_or place None ≡ place
or_none None = refl
or_none (Some k) = refl

beside-before : (names : List (List ℕ)) (firsts : List ℕ) (last : ℕ) (other : List ℕ) (place : Option ℕ) → length firsts ≡ length names → place_of names other ≡ place
    → option_and_then (slice_get (firsts ++ last ∷ [])) place ≡ option_and_then (slice_get firsts) place
beside-before names firsts last other None paired e = refl
beside-before names firsts last other (Some k) paired e =
    let at = place_of-names names other (Some k) (sym e) in
    slice_get-push_before firsts last k (omega (arith, slice_get_within names k other at, paired))

-- and one that names a new bundle is its first link
pub more-new : (names : List (List ℕ)) (firsts numbers : List ℕ) (links : List Link) (link : Link) (name : List ℕ)
    → AreBundlesOf names firsts numbers links → link.bundle ≡ Some name → is_named names name ≡ false
    → AreBundlesOf (names ++ name ∷ []) (firsts ++ length links ∷ []) (numbers ++ length links ∷ []) (links ++ link ∷ [])
more-new names firsts numbers links link name are named fresh =
    let nowhere : place_of names name ≡ None = place_of-fresh names name fresh in
    let none : first_of_bundle links name ≡ None = sym (are.found name) ∙ ap (option_and_then (slice_get firsts)) nowhere in
    record {
      paired = counted-more firsts names (length links) name are.paired;
      found = λ other. elim (cases_Bool (bytes_eq other name)) [
        | inl same ↦
            let is : other ≡ name = (bytes_eq-Decides other name).0 same in
            let place : place_of (names ++ name ∷ []) name ≡ Some (length names)
            = position-push (bytes_eq name) names name ∙ (rw (nowhere, (bytes_eq-Decides name name).1 refl) refl) in
            let here : first_beside (names ++ name ∷ []) (firsts ++ length links ∷ []) name ≡ Some (length links)
            = ap (option_and_then (slice_get (firsts ++ length links ∷ []))) place ∙ slice_get-push_last firsts (length links) (length names) (sym are.paired) in
            rw is (here ∙ sym (first-last links link name none (rw named ((bytes_eq-Decides name name).1 refl))))
        | inr apart ↦
            let differs : bytes_eq name other ≡ false = not_same name other (λ e. true≢false (sym ((bytes_eq-Decides other name).1 (sym e)) ∙ apart)) in
            let place : place_of (names ++ name ∷ []) other ≡ place_of names other = position-push (bytes_eq other) names name ∙ (rw apart (or_none (place_of names other))) in
            ap (option_and_then (slice_get (firsts ++ length links ∷ []))) place ∙ beside-before names firsts (length links) other (place_of names other) are.paired refl
            ∙ are.found other ∙ sym (first-other links link other (rw named differs))
      ];
      counted = counted-more numbers links (length links) link are.counted;
      kept = numbers-more links link numbers (length links) are.counted are.kept
          (lowest-new links link (λ i before. rw named (find_range-None (names_bundle links name) 0 (length links) none i (omega arith) (omega arith))));
    }

-- what an answer tells of its value
pub on-Ok : {A E : Type 0} (P Q : Type 0) (answer : Result A E) → (P → Q) → OnOk answer P → OnOk answer Q
on-Ok P Q (Ok value) give told = give told
on-Ok P Q (Err error) give told = tt

pub kept-as : (names names_now : List (List ℕ)) (firsts firsts_now numbers numbers_now : List ℕ) (links : List Link)
    → names_now ≡ names → firsts_now ≡ firsts → numbers_now ≡ numbers → AreBundlesOf names firsts numbers links → AreBundlesOf names_now firsts_now numbers_now links
kept-as names names_now firsts firsts_now numbers numbers_now links same_names same_firsts same_numbers are = rw (same_names, same_firsts, same_numbers) are
