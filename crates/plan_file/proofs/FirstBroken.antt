-- The first refusal of a document is the rule that is broken at the first place.
use Rattle.std.proofs.Common.{◌≡◌, ℕ, zero, suc, ◌+◌, ◌<◌, List, [], ◌∷◌, Option, Some, None, option_and_then, slice_get, refl, sym, ◌∙◌, arith, inl, inr}
use Rattle.std.specs.Option.{option_or}
use Rattle.std.proofs.lemmas.Bool.{cases_lt}
use Rattle.toml.specs.Data.{Data, table, Members}
use Rattle.sync_topo.specs.declared.place.Section.{Section}
use Rattle.sync_topo.specs.declared.place.Section.TheVariants.{Head, Elements, Links, Sources}
use Rattle.sync_topo.specs.declared.place.Place.{Place}
use Rattle.plan_rows.specs.declared.error.PlanFileErr.{PlanFileErr}
use Rattle.plan_rows.specs.Format.{version_of}
use Rattle.plan_rows.specs.declared.version.Version.{Version}
use Rattle.plan_rows.specs.Rules.{refusal_of, entries_of, refusal_at, order_of, IsBefore, IsFirstBroken, KeepsRules}
use Rattle.plan_rows.specs.Rows.{first_from, first_in}
use Rattle.plan_rows.specs.private.Rows.{first_refusal}

abbrev pub at : Section → ℕ → Place
at section row = record { section = section; row = row }

-- the rule that is broken at a row of a section with these entries, counted from 0
abbrev pub in_section : Version → Section → ℕ → List Data → ℕ → Option PlanFileErr
in_section version section n entries i = option_and_then (refusal_of version (at section (n + i))) (slice_get entries i)

-- where no entry is refused, no rule is broken in the section
pub clear : (version : Version) (section : Section) (n : ℕ) (entries : List Data) → first_from version section n entries ≡ None → (i : ℕ) → in_section version section n entries i ≡ None
clear version section n [] none i = refl
clear version section n (entry ∷ entries) none i = by (refusal_of version (at section n) entry) refl none (clear version section (n + 1) entries) i
  where
    by : (here : Option PlanFileErr) → refusal_of version (at section n) entry ≡ here → option_or here (first_from version section (n + 1) entries) ≡ None
        → (first_from version section (n + 1) entries ≡ None → (j : ℕ) → in_section version section (n + 1) entries j ≡ None)
        → (i : ℕ) → in_section version section n (entry ∷ entries) i ≡ None
    by None is none others zero = let same : n + 0 ≡ n = omega arith in rw (same, is) refl
    by None is none others (suc i) = let same : n + suc i ≡ (n + 1) + i = omega arith in rw same (others none i)
    by (Some refusal) is none others i = absurd (cc)

-- this rule is broken at a row of the section, and none at an earlier row
pub record IsFirstRow (version : Version) (section : Section) (n : ℕ) (entries : List Data) (refusal : PlanFileErr) (i : ℕ) : Type 0 where
  pub broken : in_section version section n entries i ≡ Some refusal
  pub earlier : (j : ℕ) → j < i → in_section version section n entries j ≡ None

-- one entry more in front, which is not refused
one_more : (version : Version) (section : Section) (n : ℕ) (entry : Data) (entries : List Data) (refusal : PlanFileErr) (i : ℕ)
    → refusal_of version (at section n) entry ≡ None → IsFirstRow version section (n + 1) entries refusal i → IsFirstRow version section n (entry ∷ entries) refusal (suc i)
one_more version section n entry entries refusal i is first = record {
  broken = let same : n + suc i ≡ (n + 1) + i = omega arith in rw same first.broken;
  earlier = before;
}
  where
    before : (j : ℕ) → j < suc i → in_section version section n (entry ∷ entries) j ≡ None
    before zero less = let same : n + 0 ≡ n = omega arith in rw (same, is) refl
    before (suc j) less = let same : n + suc j ≡ (n + 1) + j = omega arith in let within : j < i = omega (arith, less) in rw same (first.earlier j within)

pub first_row : (version : Version) (section : Section) (n : ℕ) (entries : List Data) (refusal : PlanFileErr) → first_from version section n entries ≡ Some refusal → (i : ℕ) × IsFirstRow version section n entries refusal i
first_row version section n [] refusal some = absurd (cc)
first_row version section n (entry ∷ entries) refusal some = by (refusal_of version (at section n) entry) refl some (first_row version section (n + 1) entries refusal)
  where
    by : (here : Option PlanFileErr) → refusal_of version (at section n) entry ≡ here → option_or here (first_from version section (n + 1) entries) ≡ Some refusal
        → (first_from version section (n + 1) entries ≡ Some refusal → (i : ℕ) × IsFirstRow version section (n + 1) entries refusal i)
        → (i : ℕ) × IsFirstRow version section n (entry ∷ entries) refusal i
    by (Some own) is some others = (0, record { broken = let same : n + 0 ≡ n = omega arith in rw (same, is) some; earlier = λ j before. absurd (omega (arith, before)) })
    by None is some others = let (i, first) = others some in (suc i, one_more version section n entry entries refusal i is first)

-- the rule that is broken at a row of a section of the document
abbrev pub in_document : Members → Section → ℕ → Option PlanFileErr
in_document document section i = in_section (version_of document) section 1 (entries_of section document) i

-- where one of two has none, neither has one
none_first : {A : Type 0} (a b : Option A) → option_or a b ≡ None → a ≡ None
none_first None b none = refl
none_first (Some x) b none = none

none_second : {A : Type 0} (a b : Option A) → option_or a b ≡ None → b ≡ None
none_second None b none = none
none_second (Some x) b none = absurd (cc)

after_head : (document : Members) → first_refusal document ≡ None → option_or (first_in (version_of document) document Elements) (option_or (first_in (version_of document) document Links) (first_in (version_of document) document Sources)) ≡ None
after_head document none = none_second (refusal_of (version_of document) (at Head 0) (table document)) _ none

elements_none : (document : Members) → first_refusal document ≡ None → first_in (version_of document) document Elements ≡ None
elements_none document none = none_first (first_in (version_of document) document Elements) _ (after_head document none)

after_elements : (document : Members) → first_refusal document ≡ None → option_or (first_in (version_of document) document Links) (first_in (version_of document) document Sources) ≡ None
after_elements document none = none_second (first_in (version_of document) document Elements) _ (after_head document none)

links_none : (document : Members) → first_refusal document ≡ None → first_in (version_of document) document Links ≡ None
links_none document none = none_first (first_in (version_of document) document Links) _ (after_elements document none)

sources_none : (document : Members) → first_refusal document ≡ None → first_in (version_of document) document Sources ≡ None
sources_none document none = none_second (first_in (version_of document) document Links) _ (after_elements document none)

-- the places of a section, by their rows from 0 on
element_row_is : (document : Members) (i : ℕ) → refusal_at document (at Elements (suc i)) ≡ in_document document Elements i
element_row_is document i = let same : 1 + i ≡ suc i = omega arith in rw same refl

link_row_is : (document : Members) (i : ℕ) → refusal_at document (at Links (suc i)) ≡ in_document document Links i
link_row_is document i = let same : 1 + i ≡ suc i = omega arith in rw same refl

source_row_is : (document : Members) (i : ℕ) → refusal_at document (at Sources (suc i)) ≡ in_document document Sources i
source_row_is document i = let same : 1 + i ≡ suc i = omega arith in rw same refl

-- where no part of the document is refused, no rule is broken
pub keeps : (document : Members) → first_refusal document ≡ None → KeepsRules document
keeps document none = λ place. by place.section place.row
  where
    head_none : refusal_of (version_of document) (at Head 0) (table document) ≡ None
    head_none = none_first (refusal_of (version_of document) (at Head 0) (table document)) _ none

    by : (section : Section) (row : ℕ) → refusal_at document (at section row) ≡ None
    by Head zero = head_none
    by Head (suc row) = refl
    by Elements zero = refl
    by Elements (suc row) = element_row_is document row ∙ clear (version_of document) Elements 1 (entries_of Elements document) (elements_none document none) row
    by Links zero = refl
    by Links (suc row) = link_row_is document row ∙ clear (version_of document) Links 1 (entries_of Links document) (links_none document none) row
    by Sources zero = refl
    by Sources (suc row) = source_row_is document row ∙ clear (version_of document) Sources 1 (entries_of Sources document) (sources_none document none) row

-- the first refusal is in the head, or else it is the first row at fault of the first section that has one
head_first : (document : Members) (refusal : PlanFileErr) → refusal_of (version_of document) (at Head 0) (table document) ≡ Some refusal → IsFirstBroken document (at Head 0) refusal
head_first document refusal is = record { broken = is; first = λ earlier. by earlier.section earlier.row }
  where
    by : (section : Section) (row : ℕ) → IsBefore (at section row) (at Head 0) → refusal_at document (at section row) ≡ None
    by section row (inl less) = absurd (omega (arith, less))
    by section row (inr (same, less)) = absurd (omega (arith, less))

element_first : (document : Members) (refusal : PlanFileErr) (i : ℕ) → refusal_of (version_of document) (at Head 0) (table document) ≡ None
    → IsFirstRow (version_of document) Elements 1 (entries_of Elements document) refusal i → IsFirstBroken document (at Elements (suc i)) refusal
element_first document refusal i head found =
    record { broken = element_row_is document i ∙ found.broken; first = λ earlier. by earlier.section earlier.row }
  where
    by : (section : Section) (row : ℕ) → IsBefore (at section row) (at Elements (suc i)) → refusal_at document (at section row) ≡ None
    by Head zero before = head
    by Head (suc row) before = refl
    by Elements zero before = refl
    by Elements (suc row) (inl less) = absurd (omega (arith, less))
    by Elements (suc row) (inr (same, less)) = let within : row < i = omega (arith, less) in element_row_is document row ∙ found.earlier row within
    by Links row (inl less) = absurd (omega (arith, less))
    by Links row (inr (same, less)) = absurd (cc)
    by Sources row (inl less) = absurd (omega (arith, less))
    by Sources row (inr (same, less)) = absurd (cc)

link_first : (document : Members) (refusal : PlanFileErr) (i : ℕ) → refusal_of (version_of document) (at Head 0) (table document) ≡ None → first_in (version_of document) document Elements ≡ None
    → IsFirstRow (version_of document) Links 1 (entries_of Links document) refusal i → IsFirstBroken document (at Links (suc i)) refusal
link_first document refusal i head elements found =
    record { broken = link_row_is document i ∙ found.broken; first = λ earlier. by earlier.section earlier.row }
  where
    by : (section : Section) (row : ℕ) → IsBefore (at section row) (at Links (suc i)) → refusal_at document (at section row) ≡ None
    by Head zero before = head
    by Head (suc row) before = refl
    by Elements zero before = refl
    by Elements (suc row) before = element_row_is document row ∙ clear (version_of document) Elements 1 (entries_of Elements document) elements row
    by Links zero before = refl
    by Links (suc row) (inl less) = absurd (omega (arith, less))
    by Links (suc row) (inr (same, less)) = let within : row < i = omega (arith, less) in link_row_is document row ∙ found.earlier row within
    by Sources row (inl less) = absurd (omega (arith, less))
    by Sources row (inr (same, less)) = absurd (cc)

source_first : (document : Members) (refusal : PlanFileErr) (i : ℕ) → refusal_of (version_of document) (at Head 0) (table document) ≡ None
    → first_in (version_of document) document Elements ≡ None → first_in (version_of document) document Links ≡ None
    → IsFirstRow (version_of document) Sources 1 (entries_of Sources document) refusal i → IsFirstBroken document (at Sources (suc i)) refusal
source_first document refusal i head elements links found =
    record { broken = source_row_is document i ∙ found.broken; first = λ earlier. by earlier.section earlier.row }
  where
    by : (section : Section) (row : ℕ) → IsBefore (at section row) (at Sources (suc i)) → refusal_at document (at section row) ≡ None
    by Head zero before = head
    by Head (suc row) before = refl
    by Elements zero before = refl
    by Elements (suc row) before = element_row_is document row ∙ clear (version_of document) Elements 1 (entries_of Elements document) elements row
    by Links zero before = refl
    by Links (suc row) before = link_row_is document row ∙ clear (version_of document) Links 1 (entries_of Links document) links row
    by Sources zero before = refl
    by Sources (suc row) (inl less) = absurd (omega (arith, less))
    by Sources (suc row) (inr (same, less)) = let within : row < i = omega (arith, less) in source_row_is document row ∙ found.earlier row within

-- the first refusal of a document is the rule that is broken at the first place
pub some_at : (document : Members) (refusal : PlanFileErr) → first_refusal document ≡ Some refusal → (place : Place) × IsFirstBroken document place refusal
some_at document refusal some = of_head (refusal_of (version_of document) (at Head 0) (table document)) refl some
  where
    of_sources : refusal_of (version_of document) (at Head 0) (table document) ≡ None → first_in (version_of document) document Elements ≡ None → first_in (version_of document) document Links ≡ None
        → first_in (version_of document) document Sources ≡ Some refusal → (place : Place) × IsFirstBroken document place refusal
    of_sources head elements links sources =
        let (i, found) = first_row (version_of document) Sources 1 (entries_of Sources document) refusal sources in
        (at Sources (suc i), source_first document refusal i head elements links found)

    of_links : (links : Option PlanFileErr) → refusal_of (version_of document) (at Head 0) (table document) ≡ None → first_in (version_of document) document Elements ≡ None → first_in (version_of document) document Links ≡ links
        → option_or links (first_in (version_of document) document Sources) ≡ Some refusal → (place : Place) × IsFirstBroken document place refusal
    of_links None head elements links some = of_sources head elements links some
    of_links (Some own) head elements links some =
        let (i, found) = first_row (version_of document) Links 1 (entries_of Links document) refusal (links ∙ some) in
        (at Links (suc i), link_first document refusal i head elements found)

    of_elements : (elements : Option PlanFileErr) → refusal_of (version_of document) (at Head 0) (table document) ≡ None → first_in (version_of document) document Elements ≡ elements
        → option_or elements (option_or (first_in (version_of document) document Links) (first_in (version_of document) document Sources)) ≡ Some refusal → (place : Place) × IsFirstBroken document place refusal
    of_elements None head elements some = of_links (first_in (version_of document) document Links) head elements refl some
    of_elements (Some own) head elements some =
        let (i, found) = first_row (version_of document) Elements 1 (entries_of Elements document) refusal (elements ∙ some) in
        (at Elements (suc i), element_first document refusal i head found)

    of_head : (head : Option PlanFileErr) → refusal_of (version_of document) (at Head 0) (table document) ≡ head
        → option_or head (option_or (first_in (version_of document) document Elements) (option_or (first_in (version_of document) document Links) (first_in (version_of document) document Sources))) ≡ Some refusal
        → (place : Place) × IsFirstBroken document place refusal
    of_head None head some = of_elements (first_in (version_of document) document Elements) head refl some
    of_head (Some own) head some = (at Head 0, head_first document refusal (head ∙ some))

-- sections in the same place of their order are one
one_section : (section other : Section) → order_of section ≡ order_of other → section ≡ other
one_section Head Head same = refl
one_section Elements Elements same = refl
one_section Links Links same = refl
one_section Sources Sources same = refl
one_section section other same = absurd (omega (arith, same))

same_place : (section other : Section) (row second : ℕ) → section ≡ other → row ≡ second → at section row ≡ at other second
same_place section other row second same rows = rw (same, rows) refl

-- the first place at which a rule is broken is one
one_place : (document : Members) (place other : Place) (refusal second : PlanFileErr)
    → IsFirstBroken document place refusal → IsFirstBroken document other second → place ≡ other
one_place document place other refusal second here there =
    elim (cases_lt (order_of place.section) (order_of other.section)) as (λ _. place ≡ other) [
      | inl less ↦ absurd (let none = there.first place (inl less) in let some = here.broken in cc)
      | inr more ↦ elim (cases_lt (order_of other.section) (order_of place.section)) as (λ _. place ≡ other) [
        | inl less ↦ absurd (let none = here.first other (inl less) in let some = there.broken in cc)
        | inr most ↦ in_one (one_section place.section other.section (omega (arith, more, most)))
      ]
    ]
  where
    in_one : place.section ≡ other.section → place ≡ other
    in_one same = elim (cases_lt place.row other.row) as (λ _. place ≡ other) [
      | inl less ↦ absurd (let none = there.first place (inr (same, less)) in let some = here.broken in cc)
      | inr more ↦ elim (cases_lt other.row place.row) as (λ _. place ≡ other) [
        | inl less ↦ absurd (let none = here.first other (inr (sym same, less)) in let some = there.broken in cc)
        | inr most ↦ same_place place.section other.section place.row other.row same (omega (arith, more, most))
      ]
    ]

-- the rule that is broken at the first place is the first refusal
pub is_first : (document : Members) (place : Place) (refusal : PlanFileErr) → IsFirstBroken document place refusal → first_refusal document ≡ Some refusal
is_first document place refusal here = by (first_refusal document) refl
  where
    by : (first : Option PlanFileErr) → first_refusal document ≡ first → first_refusal document ≡ Some refusal
    by None is = absurd (let none = keeps document is place in let some = here.broken in cc)
    by (Some other) is =
        let (at_other, there) = some_at document other is in
        let same = one_place document place at_other refusal other here there in
        let mine = here.broken in let its = there.broken in cc
