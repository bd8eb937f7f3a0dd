-- What is written for a plan is read as that plan.
use Rattle.std.proofs.Common.{◌≡◌, ℕ, ◌+◌, ◌≤◌, suc, slice_get, true, List, [], ◌∷◌, map, Option, Some, None, refl, ap, ◌∙◌, arith, Ok}
use Rattle.std.specs.Prelude.{Bool, false, codes, is_some}
use Rattle.std.proofs.lemmas.Bool.{true≢false}
use Rattle.std.specs.Str.{IsUtf8}
use Rattle.std.proofs.lemmas.Str.{is_utf8-from_IsUtf8}
use Rattle.std.proofs.lemmas.Simd.{map-map}
use Rattle.plan_rows.proofs.ValueFacts.{data_of_items}
use Rattle.toml.specs.Data.{Data, string, array, table, Items, Members, member, depth, items_depth, members_depth, has_valid_dates, items_have_valid_dates, members_have_valid_dates}
use Rattle.toml.specs.View.{items_of}
use Rattle.toml.specs.Parse.{parse_document}
use Rattle.sync_ql.specs.declared.levels.NetOption.{NetOption}
use Rattle.sync_ql.specs.declared.levels.NetOption.TheVariants.{I, II}
use Rattle.sync_ql.specs.declared.levels.Level.{Level}
use Rattle.sync_topo.specs.declared.element.Element.{Element}
use Rattle.sync_topo.specs.declared.link.Link.{Link}
use Rattle.sync_topo.specs.declared.source.Source.{Source}
use Rattle.sync_topo.specs.declared.place.Section.{Section}
use Rattle.sync_topo.specs.declared.place.Section.TheVariants.{Head, Elements, Links, Sources}
use Rattle.sync_topo.specs.Topology.{Topology}
use Rattle.sync_topo.specs.WellFormed.{IsWellFormed}
use Rattle.sync_topo.specs.RowsOfPlan.{row_of_element, row_of_link, row_of_source, rows_of_plan}
use Rattle.sync_topo.proofs.BundleRules.{none-passes}
use Rattle.sync_topo.specs.declared.sizes.Size.{Size}
use Rattle.sync_topo.specs.declared.sizes.Size.TheVariants.{Standard, Large}
use Rattle.sync_topo.specs.Sizes.{is_within}
use Rattle.sync_topo.proofs.SizedPlans.{sized-again, well-within}
use Rattle.plan_rows.specs.declared.version.Version.{Version}
use Rattle.plan_rows.specs.declared.version.Version.TheVariants.{One, Two}
use Rattle.plan_rows.specs.Rules.{refusal_of}
use Rattle.plan_rows.specs.Rows.{element_row, link_row, source_row, network_option, said_rows, first_from, rows_of_document}
use Rattle.plan_rows.specs.private.Rows.{first_refusal}
use Rattle.plan_file.specs.PlanText.{of_rows, plan_of_size}
use Rattle.sync_topo.specs.declared.rows.PlanRows.{PlanRows}
use Rattle.sync_topo.specs.PlanRows.{plan_of_sized}
use Rattle.plan_file.specs.IsPlanText.{IsPlanText}
use Rattle.plan_file.specs.Writing.{option_name, element_table, link_table, source_table, names_bundle, with_version}
use Rattle.plan_file.specs.private.Writing.{elements_data, links_data, sources_data, plan_document}

-- ---- lists

pub map-pointwise : {A B : Type 0} (f g : A → B) (items : List A) → ((i : ℕ) (item : A) → slice_get items i ≡ Some item → f item ≡ g item) → map f items ≡ map g items
map-pointwise f g [] same = refl
map-pointwise f g (item ∷ items) same = rw (same 0 item refl, map-pointwise f g items (λ i other at. same (suc i) other at)) refl

none_from : {A : Type 0} (version : Version) (f : A → Data) (section : Section) (items : List A) (n : ℕ)
    → ((i : ℕ) (item : A) (row : ℕ) → slice_get items i ≡ Some item → refusal_of version (record { section = section; row = row }) (f item) ≡ None)
    → first_from version section n (map f items) ≡ None
none_from version f section [] n kept = refl
none_from version f section (item ∷ items) n kept =
    rw (kept 0 item n refl, none_from version f section items (n + 1) (λ i other row at. kept (suc i) other row at)) refl

flat_items : {A : Type 0} (f : A → Data) (items : List A) → ((item : A) → depth (f item) ≤ 1) → items_depth (items_of (map f items)) ≤ 1
flat_items f [] flat = omega arith
flat_items f (item ∷ items) flat = omega (arith, flat item, flat_items f items flat)

dated_items : {A : Type 0} (f : A → Data) (items : List A) → ((item : A) → has_valid_dates (f item) ≡ true) → items_have_valid_dates (items_of (map f items)) ≡ true
dated_items f [] dated = refl
dated_items f (item ∷ items) dated = rw (dated item, dated_items f items dated) refl

-- ---- tables

element_kept : (version : Version) (element : Element) (row : ℕ) → refusal_of version (record { section = Elements; row = row }) (table (element_table element)) ≡ None
unfolding refusal_of
element_kept version element row = kept element.floor
  where
    kept : (floor : Option Level) → refusal_of version (record { section = Elements; row = row }) (table (element_table (record element { floor = floor }))) ≡ None
    kept None = refl
    kept (Some floor) = refl

element_said : (element : Element) → element_row (table (element_table element)) ≡ row_of_element element
unfolding element_row
element_said element = said element.floor
  where
    said : (floor : Option Level) → element_row (table (element_table (record element { floor = floor }))) ≡ row_of_element (record element { floor = floor })
    said None = refl
    said (Some floor) = refl

element_flat : (element : Element) → depth (table (element_table element)) ≤ 1
element_flat element = flat element.floor
  where
    flat : (floor : Option Level) → depth (table (element_table (record element { floor = floor }))) ≤ 1
    flat None = omega arith
    flat (Some floor) = omega arith

element_dated : (element : Element) → has_valid_dates (table (element_table element)) ≡ true
element_dated element = dated element.floor
  where
    dated : (floor : Option Level) → has_valid_dates (table (element_table (record element { floor = floor }))) ≡ true
    dated None = refl
    dated (Some floor) = refl

-- the table of a link that may name a bundle is one of the second version, and that of one that does not is one of both
link_kept_two : (plan : Topology) (link : Link) (row : ℕ) → refusal_of Two (record { section = Links; row = row }) (table (link_table plan link)) ≡ None
unfolding refusal_of
link_kept_two plan link row = kept link.bundle
  where
    kept : (bundle : Option (List ℕ)) → refusal_of Two (record { section = Links; row = row }) (table (link_table plan (record link { bundle = bundle }))) ≡ None
    kept None = refl
    kept (Some bundle) = refl

link_kept_one : (plan : Topology) (link : Link) (row : ℕ) → link.bundle ≡ None → refusal_of One (record { section = Links; row = row }) (table (link_table plan link)) ≡ None
unfolding refusal_of
link_kept_one plan link row unnamed = rw unnamed refl

link_said_two : (plan : Topology) (link : Link) → link_row Two (table (link_table plan link)) ≡ row_of_link plan link
unfolding link_row
link_said_two plan link = said link.bundle
  where
    said : (bundle : Option (List ℕ)) → link_row Two (table (link_table plan (record link { bundle = bundle }))) ≡ row_of_link plan (record link { bundle = bundle })
    said None = refl
    said (Some bundle) = refl

link_said_one : (plan : Topology) (link : Link) → link.bundle ≡ None → link_row One (table (link_table plan link)) ≡ row_of_link plan link
unfolding link_row
link_said_one plan link unnamed = rw unnamed refl

link_flat : (plan : Topology) (link : Link) → depth (table (link_table plan link)) ≤ 1
link_flat plan link = flat link.bundle
  where
    flat : (bundle : Option (List ℕ)) → depth (table (link_table plan (record link { bundle = bundle }))) ≤ 1
    flat None = omega arith
    flat (Some bundle) = omega arith

link_dated : (plan : Topology) (link : Link) → has_valid_dates (table (link_table plan link)) ≡ true
link_dated plan link = dated link.bundle
  where
    dated : (bundle : Option (List ℕ)) → has_valid_dates (table (link_table plan (record link { bundle = bundle }))) ≡ true
    dated None = refl
    dated (Some bundle) = refl

-- in a plan of which no link names a bundle
unnamed_at : (plan : Topology) → names_bundle plan ≡ false → (i : ℕ) (link : Link) → slice_get plan.links i ≡ Some link → link.bundle ≡ None
unnamed_at plan none i link at = unnamed link.bundle (none-passes (λ (l : Link). is_some l.bundle) plan.links none i link at)
  where
    unnamed : (bundle : Option (List ℕ)) → is_some bundle ≡ false → bundle ≡ None
    unnamed None e = refl
    unnamed (Some name) e = absurd (true≢false e)

source_kept : (version : Version) (plan : Topology) (source : Source) (row : ℕ) → refusal_of version (record { section = Sources; row = row }) (table (source_table plan source)) ≡ None
unfolding refusal_of
source_kept version plan source row = refl

source_said : (plan : Topology) (source : Source) → source_row (table (source_table plan source)) ≡ row_of_source plan source
unfolding source_row
source_said plan source = refl

source_flat : (plan : Topology) (source : Source) → depth (table (source_table plan source)) ≤ 1
source_flat plan source = omega arith

head_of : NetOption → Items → Items → Items → Bool → Members
head_of option elements links sources second =
    member (codes "element") (array elements) (member (codes "link") (array links) (member (codes "option") (string (option_name option)) (member (codes "source") (array sources) (with_version second))))

head_kept : (version : Version) (option : NetOption) (elements links sources : Items) (second : Bool)
    → refusal_of version (record { section = Head; row = 0 }) (table (head_of option elements links sources second)) ≡ None
unfolding refusal_of head_of
head_kept version I elements links sources true = refl
head_kept version I elements links sources false = refl
head_kept version II elements links sources true = refl
head_kept version II elements links sources false = refl

option_said : (option : NetOption) (elements links sources : Items) (second : Bool) → network_option (head_of option elements links sources second) ≡ option
unfolding head_of
option_said I elements links sources second = refl
option_said II elements links sources second = refl

version_flat : (second : Bool) → members_depth (with_version second) ≤ 1
version_flat true = omega arith
version_flat false = omega arith

version_dated : (second : Bool) → members_have_valid_dates (with_version second) ≡ true
version_dated true = refl
version_dated false = refl

-- ---- the document

-- the document is no deeper than tables in arrays
pub document_depth : (plan : Topology) → members_depth (plan_document plan) ≤ 80
document_depth plan =
    omega (
      arith,
      flat_items (λ element. table (element_table element)) plan.elements element_flat,
      flat_items (λ link. table (link_table plan link)) plan.links (link_flat plan),
      flat_items (λ source. table (source_table plan source)) plan.sources (source_flat plan),
      version_flat (names_bundle plan),
    )

-- the document has no date that no text can write
pub document_dated : (plan : Topology) → members_have_valid_dates (plan_document plan) ≡ true
document_dated plan =
    rw (
      dated_items (λ element. table (element_table element)) plan.elements element_dated,
      dated_items (λ link. table (link_table plan link)) plan.links (link_dated plan),
      dated_items (λ source. table (source_table plan source)) plan.sources (λ source. refl),
      version_dated (names_bundle plan),
    ) refl

none_refused_two : (plan : Topology) → names_bundle plan ≡ true → first_refusal (head_of plan.option (items_of (elements_data plan)) (items_of (links_data plan)) (items_of (sources_data plan)) true) ≡ None
unfolding head_of
none_refused_two plan second =
    let elements : first_from Two Elements 1 (elements_data plan) ≡ None
    = none_from Two (λ element. table (element_table element)) Elements plan.elements 1 (λ i element row at. element_kept Two element row) in
    let links : first_from Two Links 1 (links_data plan) ≡ None
    = none_from Two (λ link. table (link_table plan link)) Links plan.links 1 (λ i link row at. link_kept_two plan link row) in
    let sources : first_from Two Sources 1 (sources_data plan) ≡ None
    = none_from Two (λ source. table (source_table plan source)) Sources plan.sources 1 (λ i source row at. source_kept Two plan source row) in
    let head = head_kept Two plan.option (items_of (elements_data plan)) (items_of (links_data plan)) (items_of (sources_data plan)) true in
    rw (head, data_of_items (elements_data plan), elements, data_of_items (links_data plan), links, data_of_items (sources_data plan), sources) refl

rows_said_two : (plan : Topology) → names_bundle plan ≡ true
    → said_rows (head_of plan.option (items_of (elements_data plan)) (items_of (links_data plan)) (items_of (sources_data plan)) true) ≡ rows_of_plan plan
unfolding head_of
rows_said_two plan second =
    let elements : map element_row (elements_data plan) ≡ map row_of_element plan.elements
    = map-map element_row (λ element. table (element_table element)) plan.elements ∙ map-pointwise _ row_of_element plan.elements (λ i element at. element_said element) in
    let links : map (link_row Two) (links_data plan) ≡ map (row_of_link plan) plan.links
    = map-map (link_row Two) (λ link. table (link_table plan link)) plan.links ∙ map-pointwise _ (row_of_link plan) plan.links (λ i link at. link_said_two plan link) in
    let sources : map source_row (sources_data plan) ≡ map (row_of_source plan) plan.sources
    = map-map source_row (λ source. table (source_table plan source)) plan.sources ∙ map-pointwise _ (row_of_source plan) plan.sources (λ i source at. source_said plan source) in
    let option = option_said plan.option (items_of (elements_data plan)) (items_of (links_data plan)) (items_of (sources_data plan)) true in
    rw (option, data_of_items (elements_data plan), elements, data_of_items (links_data plan), links, data_of_items (sources_data plan), sources) refl

none_refused_one : (plan : Topology) → names_bundle plan ≡ false → first_refusal (head_of plan.option (items_of (elements_data plan)) (items_of (links_data plan)) (items_of (sources_data plan)) false) ≡ None
unfolding head_of
none_refused_one plan second =
    let elements : first_from One Elements 1 (elements_data plan) ≡ None
    = none_from One (λ element. table (element_table element)) Elements plan.elements 1 (λ i element row at. element_kept One element row) in
    let links : first_from One Links 1 (links_data plan) ≡ None
    = none_from One (λ link. table (link_table plan link)) Links plan.links 1 (λ i link row at. link_kept_one plan link row (unnamed_at plan second i link at)) in
    let sources : first_from One Sources 1 (sources_data plan) ≡ None
    = none_from One (λ source. table (source_table plan source)) Sources plan.sources 1 (λ i source row at. source_kept One plan source row) in
    let head = head_kept One plan.option (items_of (elements_data plan)) (items_of (links_data plan)) (items_of (sources_data plan)) false in
    rw (head, data_of_items (elements_data plan), elements, data_of_items (links_data plan), links, data_of_items (sources_data plan), sources) refl

rows_said_one : (plan : Topology) → names_bundle plan ≡ false
    → said_rows (head_of plan.option (items_of (elements_data plan)) (items_of (links_data plan)) (items_of (sources_data plan)) false) ≡ rows_of_plan plan
unfolding head_of
rows_said_one plan second =
    let elements : map element_row (elements_data plan) ≡ map row_of_element plan.elements
    = map-map element_row (λ element. table (element_table element)) plan.elements ∙ map-pointwise _ row_of_element plan.elements (λ i element at. element_said element) in
    let links : map (link_row One) (links_data plan) ≡ map (row_of_link plan) plan.links
    = map-map (link_row One) (λ link. table (link_table plan link)) plan.links ∙ map-pointwise _ (row_of_link plan) plan.links (λ i link at. link_said_one plan link (unnamed_at plan second i link at)) in
    let sources : map source_row (sources_data plan) ≡ map (row_of_source plan) plan.sources
    = map-map source_row (λ source. table (source_table plan source)) plan.sources ∙ map-pointwise _ (row_of_source plan) plan.sources (λ i source at. source_said plan source) in
    let option = option_said plan.option (items_of (elements_data plan)) (items_of (links_data plan)) (items_of (sources_data plan)) false in
    rw (option, data_of_items (elements_data plan), elements, data_of_items (links_data plan), links, data_of_items (sources_data plan), sources) refl

none_refused : (plan : Topology) → first_refusal (plan_document plan) ≡ None
unfolding head_of
none_refused plan = by (names_bundle plan) refl
  where
    by : (second : Bool) → names_bundle plan ≡ second
        → first_refusal (head_of plan.option (items_of (elements_data plan)) (items_of (links_data plan)) (items_of (sources_data plan)) second) ≡ None
    by true e = none_refused_two plan e
    by false e = none_refused_one plan e

rows_said : (plan : Topology) → said_rows (plan_document plan) ≡ rows_of_plan plan
unfolding head_of
rows_said plan = by (names_bundle plan) refl
  where
    by : (second : Bool) → names_bundle plan ≡ second
        → said_rows (head_of plan.option (items_of (elements_data plan)) (items_of (links_data plan)) (items_of (sources_data plan)) second) ≡ rows_of_plan plan
    by true e = rows_said_two plan e
    by false e = rows_said_one plan e

-- in each size that has room for it the text of the document gives the plan
written-in : (size : Size) (plan : Topology) (text : List ℕ) → IsWellFormed plan → is_within size plan ≡ true → IsUtf8 text → parse_document text ≡ Some (plan_document plan)
    → plan_of_size size text ≡ Ok plan
unfolding plan_of_size rows_of_document
written-in size plan text well within utf8 parsed =
    rw (is_utf8-from_IsUtf8 text utf8, parsed, none_refused plan)
    (ap (λ (rows : PlanRows). of_rows (plan_of_sized size rows)) (rows_said plan) ∙ ap of_rows (sized-again size plan well within))

-- a text of the document is one of the plan
pub IsPlanText-written : (plan : Topology) (text : List ℕ) → IsWellFormed plan → IsUtf8 text → parse_document text ≡ Some (plan_document plan) → IsPlanText plan text
IsPlanText-written plan text well utf8 parsed = record {
  large = written-in Large plan text well (well-within plan well) utf8 parsed;
  standard = λ standard. written-in Standard plan text well standard utf8 parsed;
}
