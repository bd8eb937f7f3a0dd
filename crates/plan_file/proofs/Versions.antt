-- A document that names no bundle says the same in both versions.
use Rattle.std.proofs.Common.{◌≡◌, ℕ, ◌+◌, suc, false, List, [], ◌∷◌, map, codes, Option, Some, None, slice_get, Ordering, Less, Equal, Greater, refl, sym, inl, inr}
use Rattle.std.specs.Ordering.{match_ordering, nat_cmp}
use Rattle.std.specs.Cmp.Lexicographic.{slice_cmp}
use Rattle.std.specs.Str.{bytes_eq}
use Rattle.std.proofs.lemmas.Bool.{cases_Bool}
use Rattle.std.proofs.lemmas.Option.{none-some}
use Rattle.std.proofs.lemmas.Slice.Eq.{bytes_eq-Decides}
use Rattle.toml.specs.Data.{Data, string, integer, float, boolean, datetime, array, table, Members, no_members, member, get, get_member}
use Rattle.sync_topo.specs.declared.place.Section.TheVariants.{Head, Elements, Links, Sources}
use Rattle.plan_rows.specs.declared.version.Version.TheVariants.{One, Two}
use Rattle.plan_rows.specs.Format.{keys_of}
use Rattle.plan_rows.specs.Rules.{has_only, refusal_of, entries_of}
use Rattle.plan_rows.specs.Rows.{link_row, first_from, NamesNoBundle, rows_in}
use Rattle.plan_rows.proofs.RowsSoFar.{refusal-same, first_from-same}
use Rattle.plan_file.proofs.WrittenPlan.{map-pointwise}

-- a table without a member of a name has none of that name first, and none among the others
others_none : (order : Ordering) (value : Data) (others : Option Data) → match_ordering order others (Some value) others ≡ None → others ≡ None
others_none Less value others none = none
others_none Equal value others none = absurd (none-some value (sym none))
others_none Greater value others none = none

first_other : (name : List ℕ) (value : Data) (rest : Members) → get_member (codes "bundle") (member name value rest) ≡ None → bytes_eq (codes "bundle") name ≡ false
first_other name value rest none = elim (cases_Bool (bytes_eq (codes "bundle") name)) [
  | inr other ↦ other
  | inl same ↦
      let is : codes "bundle" ≡ name = (bytes_eq-Decides (codes "bundle") name).0 same in
      let there : Some value ≡ None = rw (← is) at none in
      absurd (none-some value (sym there))
]

only_same : (fields : Members) → get_member (codes "bundle") fields ≡ None → has_only (keys_of Two Links) fields ≡ has_only (keys_of One Links) fields
only_same no_members none = refl
only_same (member name value rest) none =
    let later : get_member (codes "bundle") rest ≡ None = others_none (slice_cmp nat_cmp (codes "bundle") name) value (get_member (codes "bundle") rest) none in
    rw (first_other name value rest none, only_same rest later) refl

entry_refusal : (n : ℕ) (entry : Data) → get (codes "bundle") entry ≡ None
    → refusal_of Two (record { section = Links; row = n }) entry ≡ refusal_of One (record { section = Links; row = n }) entry
unfolding refusal_of
entry_refusal n (table fields) none = rw (only_same fields none, none) refl
entry_refusal n (string s) none = refl
entry_refusal n (integer z) none = refl
entry_refusal n (float x) none = refl
entry_refusal n (boolean b) none = refl
entry_refusal n (datetime d) none = refl
entry_refusal n (array ds) none = refl

links_refusal : (n : ℕ) (entries : List Data) → ((i : ℕ) (entry : Data) → slice_get entries i ≡ Some entry → get (codes "bundle") entry ≡ None)
    → first_from Two Links n entries ≡ first_from One Links n entries
links_refusal n [] none = refl
links_refusal n (entry ∷ entries) none =
    rw (entry_refusal n entry (none 0 entry refl), links_refusal (n + 1) entries (λ i other at. none (suc i) other at)) refl

entry_row : (entry : Data) → get (codes "bundle") entry ≡ None → link_row Two entry ≡ link_row One entry
unfolding link_row
entry_row entry none = rw none refl

pub both_versions : (document : Members) → NamesNoBundle document → rows_in Two document ≡ rows_in One document
both_versions document none =
    let links : map (link_row Two) (entries_of Links document) ≡ map (link_row One) (entries_of Links document)
    = map-pointwise (link_row Two) (link_row One) (entries_of Links document) (λ i entry at. entry_row entry (none i entry at)) in
    rw (
      refusal-same Two One (record { section = Head; row = 0 }) (table document) refl,
      first_from-same Two One Elements 1 (entries_of Elements document) refl,
      links_refusal 1 (entries_of Links document) none,
      first_from-same Two One Sources 1 (entries_of Sources document) refl,
      links,
    ) refl
