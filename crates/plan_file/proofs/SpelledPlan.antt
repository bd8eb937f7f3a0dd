-- The text of a plan is the one that `toml` writes for the plan's document, it is read as the plan, and a file may be as long.
use Rattle.std.proofs.Common.{◌≡◌, ℕ, ◌/◌, ◌<◌, ◌≤◌, ◌^◌, zero, suc, Bool, true, false, List, [], ◌∷◌, ◌++◌, length, map, codes, Option, Some, None, slice_get, option_map, refl, sym, ap, ◌∙◌, lit<, subst, arith, append-nil, length-append}
use Rattle.std.proofs.lemmas.Bool.{and_parts, not-false}
use Rattle.std.specs.List.{list_all}
use Rattle.std.proofs.lemmas.Option.{none-some, same_Some, slice_get-map}
use Rattle.std.specs.Str.{IsAscii}
use Rattle.std.proofs.lemmas.Str.{IsAscii-append, IsUtf8-from_ascii}
use Rattle.sync_topo.proofs.Lists.{item_at}
use Rattle.toml.specs.Data.{string, array, table, Members, member, is_before, items_are_sorted, members_are_sorted}
use Rattle.toml.specs.View.{items_of}
use Rattle.toml.specs.Tables.{Expression, key_value}
use Rattle.toml.specs.Text.{IsLinesText, IsDocumentText, expressions, pairs, sections, elements}
use Rattle.toml.proofs.ReadBack.{parse_document-printed}
use Rattle.sync_ql.specs.declared.levels.Level.{Level}
use Rattle.sync_topo.specs.declared.element.Element.{Element}
use Rattle.sync_topo.specs.declared.link.Link.{Link}
use Rattle.sync_topo.specs.declared.source.Source.{Source}
use Rattle.sync_topo.specs.Topology.{Topology}
use Rattle.sync_topo.specs.Lines.{element_name}
use Rattle.sync_topo.specs.Names.{is_name, element_names, link_names, source_names}
use Rattle.sync_topo.specs.Rules.{is_bad_bundle_name}
use Rattle.sync_topo.specs.WellFormed.{IsWellFormed}
use Rattle.plan_file.specs.IsPlanText.{IsPlanText}
use Rattle.plan_file.specs.Writing.{option_name, with_floor, element_table, with_bundle, link_table, source_table, names_bundle, with_version}
use Rattle.plan_file.specs.private.Writing.{elements_data, links_data, sources_data, plan_document}
use Rattle.plan_file.specs.Spelling.{fields_text, rows_text, with_none, head_fields, plan_text, plan_size}
use Rattle.plan_file.proofs.NameText.{level_is_named, option_is_named}
use Rattle.plan_file.proofs.SpelledLines.{ArePlain, RowsArePlain, count_of, field_lines, more_lines, lines_after, row_lines, pairs_with, section_with, with_none_plain, fields_ascii, rows_ascii, fields_short, rows_short, with_none_few}
use Rattle.plan_file.proofs.WrittenPlan.{document_depth, document_dated, IsPlanText-written}

-- ---- what a plan that keeps every rule holds is named

named_at : (names : List (List ℕ)) (i : ℕ) (name : List ℕ) → list_all is_name names ≡ true → slice_get names i ≡ Some name → is_name name ≡ true
named_at [] i name all at = absurd (none-some name at)
named_at (first ∷ names) zero name all at = rw (← same_Some first name at) (and_parts (is_name first) (list_all is_name names) all).0
named_at (first ∷ names) (suc i) name all at = named_at names i name (and_parts (is_name first) (list_all is_name names) all).1 at

element_is_named : (plan : Topology) (e : ℕ) (element : Element) → IsWellFormed plan → slice_get plan.elements e ≡ Some element → is_name element.name ≡ true
element_is_named plan e element well at =
    named_at (element_names plan.elements) e element.name well.elements_named (slice_get-map (λ (x : Element). x.name) plan.elements e ∙ ap (option_map (λ (x : Element). x.name)) at)

link_is_named : (plan : Topology) (k : ℕ) (link : Link) → IsWellFormed plan → slice_get plan.links k ≡ Some link → is_name link.name ≡ true
link_is_named plan k link well at =
    named_at (link_names plan.links) k link.name well.links_named (slice_get-map (λ (x : Link). x.name) plan.links k ∙ ap (option_map (λ (x : Link). x.name)) at)

source_is_named : (plan : Topology) (j : ℕ) (source : Source) → IsWellFormed plan → slice_get plan.sources j ≡ Some source → is_name source.name ≡ true
source_is_named plan j source well at =
    named_at (source_names plan.sources) j source.name well.sources_named (slice_get-map (λ (x : Source). x.name) plan.sources j ∙ ap (option_map (λ (x : Source). x.name)) at)

-- ---- the tables of a plan are plain

end_is_named : (plan : Topology) (e : ℕ) → IsWellFormed plan → e < length plan.elements → is_name (element_name plan e) ≡ true
end_is_named plan e well within =
    let (element, at) = item_at plan.elements e within in
    rw at (element_is_named plan e element well at)

floor_plain : (floor : Option Level) (fields : Members) → ArePlain fields → ArePlain (with_floor floor fields)
floor_plain None fields plain = plain
floor_plain (Some floor) fields plain = (refl, (level_is_named floor, plain))

pub elements_plain : (plan : Topology) → IsWellFormed plan → RowsArePlain element_table plan.elements
elements_plain plan well = λ e element at.
    let fits = well.elements_fit e element at in
    let (minutes, few, whole) = fits.whole_minutes in
    let holdoff : element.holdoff < 2 ^ 32 = omega (arith, fits.greatest_holdoff) in
    let wtr : element.wtr / 60000 < 2 ^ 32 = omega (arith, few, whole) in
    floor_plain element.floor _
    (refl, (holdoff, (refl, (element_is_named plan e element well at, (refl, (level_is_named element.own, (refl, (wtr, tt))))))))

bundle_plain : (bundle : Option (List ℕ)) (fields : Members) → is_bad_bundle_name bundle ≡ false → ArePlain fields → ArePlain (with_bundle bundle fields)
bundle_plain None fields good plain = plain
bundle_plain (Some name) fields good plain = (refl, (not-false (is_name name) good, plain))

pub links_plain : (plan : Topology) → IsWellFormed plan → RowsArePlain (link_table plan) plan.links
links_plain plan well = λ k link at.
    let joins = well.links_join k link at in
    let delay_a : link.delay_a < 2 ^ 32 = omega (arith, joins.greatest_delay_a) in
    let delay_b : link.delay_b < 2 ^ 32 = omega (arith, joins.greatest_delay_b) in
    let priority_a : link.priority_a < 2 ^ 32 = omega (arith, joins.priority_a_fits) in
    let priority_b : link.priority_b < 2 ^ 32 = omega (arith, joins.priority_b_fits) in (
      refl,
      (
        end_is_named plan link.a well joins.a_is_element,
        (
          refl,
          (
            end_is_named plan link.b well joins.b_is_element,
            bundle_plain link.bundle _ (well.bundles_named k link at)
                (refl, (delay_a, (refl, (delay_b, (refl, (link_is_named plan k link well at, (refl, (priority_a, (refl, (priority_b, tt)))))))))),
          ),
        ),
      ),
    )

pub sources_plain : (plan : Topology) → IsWellFormed plan → RowsArePlain (source_table plan) plan.sources
sources_plain plan well = λ j source at.
    let fits = well.sources_fit j source at in
    let priority : source.priority < 2 ^ 32 = omega (arith, fits.priority_fits) in
    (refl, (end_is_named plan source.at well fits.at_is_element, (refl, (level_is_named source.level, (refl, (source_is_named plan j source well at, (refl, (priority, tt))))))))

version_plain : (second : Bool) → ArePlain (with_version second)
version_plain true = (refl, (lit< tt, tt))
version_plain false = tt

head_plain : (plan : Topology) → ArePlain (head_fields plan)
head_plain plan =
    with_none_plain (codes "element") plan.elements _ refl
    (with_none_plain (codes "link") plan.links _ refl
    (refl, (option_is_named plan.option, with_none_plain (codes "source") plan.sources _ refl (version_plain (names_bundle plan)))))

-- ---- the text is that of the document

head_is_some : {A B : Type 0} (xs : List A) (ys : List B) (option : List ℕ) (rest : Members)
    → 0 < length (pairs (with_none (codes "element") xs (with_none (codes "link") ys (member (codes "option") (string option) rest))))
head_is_some [] ys option rest = omega arith
head_is_some (x ∷ xs) [] option rest = omega arith
head_is_some (x ∷ xs) (y ∷ ys) option rest = omega arith

-- the lines of each section
elements_of_plan : Topology → List Expression
elements_of_plan plan = elements ([], codes "element") (items_of (elements_data plan))

links_of_plan : Topology → List Expression
links_of_plan plan = elements ([], codes "link") (items_of (links_data plan))

sources_of_plan : Topology → List Expression
sources_of_plan plan = elements ([], codes "source") (items_of (sources_data plan))

no_version_section : (second : Bool) → sections [] (with_version second) ≡ []
no_version_section true = refl
no_version_section false = refl

module _ (plan : Topology) where
  version : Members
  version = with_version (names_bundle plan)

  source_end : Members
  source_end = member (codes "source") (array (items_of (sources_data plan))) version

  option_end : Members
  option_end = member (codes "option") (string (option_name plan.option)) source_end

  link_end : Members
  link_end = member (codes "link") (array (items_of (links_data plan))) option_end

  source_head : Members
  source_head = with_none (codes "source") plan.sources version

  option_head : Members
  option_head = member (codes "option") (string (option_name plan.option)) source_head

  head_pairs : pairs (plan_document plan) ≡ pairs (head_fields plan)
  unfolding link_end option_end source_end version option_head source_head
  head_pairs =
      let sources : pairs source_end ≡ pairs source_head = pairs_with (codes "source") (source_table plan) plan.sources version version refl in
      let option : pairs option_end ≡ pairs option_head = ap (λ es. (([], codes "option"), key_value (string (option_name plan.option))) ∷ es) sources in
      let links : pairs link_end ≡ pairs (with_none (codes "link") plan.links option_head) = pairs_with (codes "link") (link_table plan) plan.links option_end option_head option in
      pairs_with (codes "element") element_table plan.elements link_end (with_none (codes "link") plan.links option_head) links

  all_sections : sections [] (plan_document plan) ≡ elements_of_plan plan ++ (links_of_plan plan ++ sources_of_plan plan)
  unfolding link_end option_end source_end version elements_of_plan links_of_plan sources_of_plan
  all_sections =
      let sources : sections [] source_end ≡ sources_of_plan plan
      = section_with (codes "source") (source_table plan) plan.sources version [] (no_version_section (names_bundle plan)) ∙ append-nil (sources_of_plan plan) in
      let links = section_with (codes "link") (link_table plan) plan.links option_end (sources_of_plan plan) sources in
      section_with (codes "element") element_table plan.elements link_end (links_of_plan plan ++ sources_of_plan plan) links

  all_lines : expressions (plan_document plan) ≡ pairs (head_fields plan) ++ (elements_of_plan plan ++ (links_of_plan plan ++ sources_of_plan plan))
  all_lines = ap (λ es. es ++ sections [] (plan_document plan)) head_pairs ∙ ap (λ es. pairs (head_fields plan) ++ es) all_sections

  module _ (well : IsWellFormed plan) where
    pub spelled : IsDocumentText false (plan_document plan) (plan_text plan)
    unfolding plan_text elements_of_plan links_of_plan sources_of_plan
    spelled =
        let element_text = rows_text (codes "element") element_table plan.elements in
        let link_text = rows_text (codes "link") (link_table plan) plan.links in
        let source_text = rows_text (codes "source") (source_table plan) plan.sources in
        let elements_lines = row_lines (codes "element") element_table plan.elements refl (elements_plain plan well) in
        let links_lines = row_lines (codes "link") (link_table plan) plan.links refl (links_plain plan well) in
        let sources_lines = row_lines (codes "source") (source_table plan) plan.sources refl (sources_plain plan well) in
        subst (λ es. IsLinesText false false es (plan_text plan)) (sym all_lines)
        (lines_after (pairs (head_fields plan)) (elements_of_plan plan ++ (links_of_plan plan ++ sources_of_plan plan)) (fields_text (head_fields plan)) (element_text ++ (link_text ++ source_text))
        (head_is_some plan.elements plan.links (option_name plan.option) _)
        (field_lines false (head_fields plan) (head_plain plan))
        (more_lines (elements_of_plan plan) (links_of_plan plan ++ sources_of_plan plan) element_text (link_text ++ source_text) elements_lines
        (more_lines (links_of_plan plan) (sources_of_plan plan) link_text source_text links_lines sources_lines)))

-- ---- and read as the plan

sorted_items : {A : Type 0} (fields : A → Members) (items : List A) → ((item : A) → members_are_sorted (fields item) ≡ true) → items_are_sorted (items_of (map (λ x. table (fields x)) items)) ≡ true
sorted_items fields [] sorted = refl
sorted_items fields (x ∷ xs) sorted = rw (sorted x, sorted_items fields xs sorted) refl

element_sorted : (element : Element) → members_are_sorted (element_table element) ≡ true
element_sorted element = sorted element.floor
  where
    sorted : (floor : Option Level) → members_are_sorted (element_table (record element { floor = floor })) ≡ true
    sorted None = refl
    sorted (Some floor) = refl

link_sorted : (plan : Topology) (link : Link) → members_are_sorted (link_table plan link) ≡ true
link_sorted plan link = sorted link.bundle
  where
    sorted : (bundle : Option (List ℕ)) → members_are_sorted (link_table plan (record link { bundle = bundle })) ≡ true
    sorted None = refl
    sorted (Some bundle) = refl

version_sorted : (second : Bool) → members_are_sorted (with_version second) ≡ true
version_sorted true = refl
version_sorted false = refl

source_before : (second : Bool) → is_before (codes "source") (with_version second) ≡ true
source_before true = refl
source_before false = refl

document_sorted : (plan : Topology) → members_are_sorted (plan_document plan) ≡ true
document_sorted plan =
    rw (
      sorted_items element_table plan.elements element_sorted,
      sorted_items (link_table plan) plan.links (link_sorted plan),
      sorted_items (source_table plan) plan.sources (λ source. refl),
      source_before (names_bundle plan),
      version_sorted (names_bundle plan),
    ) refl

plan_ascii : (plan : Topology) → IsWellFormed plan → IsAscii (plan_text plan)
unfolding plan_text
plan_ascii plan well =
    let head = fields_ascii (head_fields plan) (head_plain plan) in
    let element_rows = rows_ascii (codes "element") element_table plan.elements refl (elements_plain plan well) in
    let link_rows = rows_ascii (codes "link") (link_table plan) plan.links refl (links_plain plan well) in
    let source_rows = rows_ascii (codes "source") (source_table plan) plan.sources refl (sources_plain plan well) in
    let link_text = rows_text (codes "link") (link_table plan) plan.links in
    let source_text = rows_text (codes "source") (source_table plan) plan.sources in
    IsAscii-append (fields_text (head_fields plan)) _ head
    (IsAscii-append (rows_text (codes "element") element_table plan.elements) (link_text ++ source_text) element_rows (IsAscii-append link_text source_text link_rows source_rows))

pub plan_text-read : (plan : Topology) → IsWellFormed plan → IsPlanText plan (plan_text plan)
plan_text-read plan well =
    IsPlanText-written plan (plan_text plan) well (IsUtf8-from_ascii (plan_text plan) (plan_ascii plan well))
    (parse_document-printed false (plan_document plan) (plan_text plan) (spelled plan well) (document_depth plan) (document_dated plan) (document_sorted plan))

-- ---- and no longer than a file may be

element_few : (element : Element) → count_of (element_table element) ≤ 5
element_few element = few element.floor
  where
    few : (floor : Option Level) → count_of (element_table (record element { floor = floor })) ≤ 5
    few None = omega arith
    few (Some floor) = omega arith

link_few : (plan : Topology) (link : Link) → count_of (link_table plan link) ≤ 8
link_few plan link = few link.bundle
  where
    few : (bundle : Option (List ℕ)) → count_of (link_table plan (record link { bundle = bundle })) ≤ 8
    few None = omega arith
    few (Some bundle) = omega arith

version_few : (second : Bool) → count_of (with_version second) ≤ 1
version_few true = omega arith
version_few false = omega arith

head_few : (plan : Topology) → count_of (head_fields plan) ≤ 5
head_few plan =
    let source_head = with_none (codes "source") plan.sources (with_version (names_bundle plan)) in
    let option_head = member (codes "option") (string (option_name plan.option)) source_head in
    let link_head = with_none (codes "link") plan.links option_head in
    omega (
      arith,
      with_none_few (codes "element") plan.elements link_head,
      with_none_few (codes "link") plan.links option_head,
      with_none_few (codes "source") plan.sources (with_version (names_bundle plan)),
      version_few (names_bundle plan),
    )

pub plan_text-short : (plan : Topology) → IsWellFormed plan → length (plan_text plan) ≤ plan_size plan
unfolding plan_text
plan_text-short plan well =
    let element_text = rows_text (codes "element") element_table plan.elements in
    let link_text = rows_text (codes "link") (link_table plan) plan.links in
    let source_text = rows_text (codes "source") (source_table plan) plan.sources in
    let head = fields_short (head_fields plan) (head_plain plan) in
    let element_rows = rows_short (codes "element") element_table plan.elements 5 refl (elements_plain plan well) element_few in
    let link_rows = rows_short (codes "link") (link_table plan) plan.links 8 refl (links_plain plan well) (link_few plan) in
    let source_rows = rows_short (codes "source") (source_table plan) plan.sources 4 refl (sources_plain plan well) (λ source. omega arith) in
    omega (
      arith,
      head,
      head_few plan,
      element_rows,
      link_rows,
      source_rows,
      length-append (fields_text (head_fields plan)) (element_text ++ (link_text ++ source_text)),
      length-append element_text (link_text ++ source_text),
      length-append link_text source_text,
    )
