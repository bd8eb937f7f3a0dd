-- Rows that say a plan which keeps every rule, with numbers and names that fit, break none themselves.
use Rattle.std.proofs.Common.{◌≡◌, ℕ, ◌+◌, ◌*◌, ◌/◌, ◌≤◌, true, false, ◌&&◌, ◌||◌, ◌==◌, List, [], ◌∷◌, ◌++◌, length, map, Some, None, slice_get, refl, sym, ap, subst, ◌∙◌, inl, inr, arith, append_assoc, length-append}
use Rattle.std.specs.Prelude.{nat_lt, Ok, is_none}
use Rattle.std.specs.List.{AllByRecursion}
use Rattle.std.specs.Str.{bytes_eq}
use Rattle.std.proofs.lemmas.Bool.{cases_Bool, le-leb, le-ltb}
use Rattle.std.proofs.lemmas.List.{length-map, map-append, append-nil}
use Rattle.std.proofs.lemmas.Slice.Eq.{bytes_eq-Decides}
use Rattle.sync_ql.specs.declared.levels.NetOption.{NetOption}
use Rattle.sync_ql.specs.Level.{level_of_name}
use Rattle.sync_topo.specs.declared.element.Element.{Element}
use Rattle.sync_topo.specs.declared.link.Link.{Link}
use Rattle.sync_topo.specs.declared.source.Source.{Source}
use Rattle.sync_topo.specs.declared.input.InputId.TheVariants as input
use Rattle.sync_topo.specs.declared.rows.ElementRow.{ElementRow}
use Rattle.sync_topo.specs.declared.rows.LinkRow.{LinkRow}
use Rattle.sync_topo.specs.declared.rows.SourceRow.{SourceRow}
use Rattle.sync_topo.specs.declared.rows.PlanRows.{PlanRows}
use Rattle.sync_topo.specs.Topology.{Topology}
use Rattle.sync_topo.specs.Lines.{link_of, is_nominated, receiver_of, source_priority, element_of_source, lines_into, sources_at, line_input, inputs_of}
use Rattle.sync_topo.specs.Limits.{element_limit, link_limit, source_limit, input_limit, least_holdoff, greatest_holdoff, greatest_wtr, least_delay, greatest_delay, greatest_priority}
use Rattle.sync_topo.specs.Names.{is_name, is_named, element_names, link_names, source_names}
use Rattle.sync_topo.specs.RowValues.{element_of_name, element_from, link_from, source_from, plan_from}
use Rattle.sync_topo.specs.Rules.{is_outside, is_no_clock_level, is_bad_bundle, has_room}
use Rattle.sync_topo.specs.PlanRows.{element_row_rules, link_row_rules, source_row_rules, each_row, rules_of, first_broken, plan_of_rows}
use Rattle.sync_topo.specs.Bundles.{BundlesJoin}
use Rattle.sync_topo.specs.WellFormed.{AreDistinct, JoinsTwo, IsWellFormed}
use Rattle.sync_topo.proofs.BundleRules.{fits-before}
use Rattle.sync_topo.proofs.RuleLemmas.{first_broken-append, each_row-kept, slice_get-middle, slice_get-front, AreDistinct-fresh, list_all-middle, filter_range-fewer}

-- the numbers of an element row are within their limits, and its level names are names of levels that clocks have
pub record ElementRowFits (option : NetOption) (row : ElementRow) : Type 0 where
  pub times : (is_outside least_holdoff greatest_holdoff row.holdoff || is_outside 0 greatest_wtr row.wtr) ≡ false
  pub levels : (is_no_clock_level option row.own || is_no_clock_level option row.floor) ≡ false

-- the ends of a link row are elements, and its numbers are within their limits
pub record LinkRowFits (elements : List Element) (row : LinkRow) : Type 0 where
  pub end_a : is_named (element_names elements) row.a ≡ true
  pub end_b : is_named (element_names elements) row.b ≡ true
  pub numbers : (is_outside 0 greatest_priority row.priority_a || is_outside 0 greatest_priority row.priority_b
      || is_outside least_delay greatest_delay row.delay_a || is_outside least_delay greatest_delay row.delay_b) ≡ false

-- a source row is at an element, its priority is within its limits, and its level is one of the option
pub record SourceRowFits (option : NetOption) (elements : List Element) (row : SourceRow) : Type 0 where
  pub at : is_named (element_names elements) row.at ≡ true
  pub priority : is_outside 0 greatest_priority row.priority ≡ false
  pub level : is_none (level_of_name option row.level) ≡ false

-- every row fits
pub record RowsFit (rows : PlanRows) : Type 0 where
  pub elements : AllByRecursion (ElementRowFits rows.option) rows.elements
  pub links : AllByRecursion (LinkRowFits (plan_from rows).elements) rows.links
  pub sources : AllByRecursion (SourceRowFits rows.option (plan_from rows).elements) rows.sources

-- what holds of each item holds of the one in the middle
all-middle : {A : Type 0} (P : A → Type 0) (front : List A) (item : A) (rest : List A) → AllByRecursion P (front ++ item ∷ rest) → P item
all-middle P [] item rest all = all.0
all-middle P (first ∷ front) item rest all = all-middle P front item rest all.1

-- ---- fewer links and sources give fewer inputs

lines_fewer : (plan whole : Topology) (element : ℕ) (links : List Link) → whole.links ≡ plan.links ++ links
    → length (lines_into plan element) ≤ length (lines_into whole element)
lines_fewer plan whole element links more =
    let size : length (plan.links ++ links) ≡ length plan.links + length links = length-append plan.links links in
    let all : length whole.links ≡ length plan.links + length links = rw more size in
    filter_range-fewer (λ line. is_nominated plan line && receiver_of plan line == element) (λ line. is_nominated whole line && receiver_of whole line == element)
    0 (2 * length plan.links) (2 * length whole.links) (omega (arith, all))
    (λ line low high.
    let same : link_of plan line ≡ link_of whole line = rw more (sym (slice_get-front plan.links links (line / 2) (omega arith))) in
    rw same refl)

sources_fewer : (plan whole : Topology) (element : ℕ) (sources : List Source) → whole.sources ≡ plan.sources ++ sources
    → length (sources_at plan element) ≤ length (sources_at whole element)
sources_fewer plan whole element sources more =
    let size : length (plan.sources ++ sources) ≡ length plan.sources + length sources = length-append plan.sources sources in
    let all : length whole.sources ≡ length plan.sources + length sources = rw more size in
    filter_range-fewer (λ source. nat_lt 0 (source_priority plan source) && element_of_source plan source == element)
    (λ source. nat_lt 0 (source_priority whole source) && element_of_source whole source == element)
    0 (length plan.sources) (length whole.sources) (omega (arith, all))
    (λ source low high.
    let same : slice_get plan.sources source ≡ slice_get whole.sources source = rw more (sym (slice_get-front plan.sources sources source (omega arith))) in
    rw same refl)

pub inputs_counted : (plan : Topology) (element : ℕ) → length (inputs_of plan element) ≡ length (lines_into plan element) + length (sources_at plan element)
inputs_counted plan element =
    rw (length-append (map line_input (lines_into plan element)) (map input.Source (sources_at plan element)), length-map (lines_into plan element) line_input, length-map (sources_at plan element) input.Source) refl

-- a plan with fewer links and sources than one that keeps the limit keeps it too
few_inputs : (plan whole : Topology) (element : ℕ) (links : List Link) (sources : List Source) → whole.links ≡ plan.links ++ links → whole.sources ≡ plan.sources ++ sources
    → length (inputs_of whole element) ≤ input_limit → has_room plan element ≡ true
few_inputs plan whole element links sources more_links more_sources few =
    le-leb (length (inputs_of plan element)) input_limit
    (omega (arith, inputs_counted plan element, inputs_counted whole element, lines_fewer plan whole element links more_links, sources_fewer plan whole element sources more_sources, few))

-- ---- element rows

element_kept : (rows : PlanRows) → IsWellFormed (plan_from rows) → RowsFit rows → (front : List ElementRow) (row : ElementRow) (rest : List ElementRow)
    → rows.elements ≡ front ++ row ∷ rest → first_broken (element_row_rules rows front row) ≡ None
element_kept rows well fit front row rest split =
    let make : ElementRow → Element = element_from rows.option in
    let names : element_names (map make rows.elements) ≡ element_names (map make front) ++ row.name ∷ element_names (map make rest)
    = rw (split, map-append make front (row ∷ rest), map-append (λ (e : Element). e.name) (map make front) (map make (row ∷ rest))) refl in
    let named : is_name row.name ≡ true = list_all-middle (element_names (map make front)) row.name (element_names (map make rest)) (rw names at well.elements_named) in
    let fresh : is_named (element_names (map make front)) row.name ≡ false = AreDistinct-fresh _ row.name _ (subst AreDistinct names well.elements_distinct) in
    let fits : ElementRowFits rows.option row = all-middle (ElementRowFits rows.option) front row rest (subst (AllByRecursion (ElementRowFits rows.option)) split fit.elements) in
    rw (named, fresh, fits.times, fits.levels) refl

-- ---- link rows

-- two names of different elements differ
apart : (elements : List Element) (a b : List ℕ) → ¬ (element_of_name elements a ≡ element_of_name elements b) → bytes_eq a b ≡ false
apart elements a b other =
    elim (cases_Bool (bytes_eq a b)) [
      | inl same ↦ absurd (other (ap (element_of_name elements) ((bytes_eq-Decides a b).0 same)))
      | inr differ ↦ differ
    ]

link_kept : (rows : PlanRows) → IsWellFormed (plan_from rows) → RowsFit rows → (front : List LinkRow) (row : LinkRow) (rest : List LinkRow)
    → rows.links ≡ front ++ row ∷ rest → first_broken (link_row_rules rows front row) ≡ None
link_kept rows well fit front row rest split =
    let plan : Topology = plan_from rows in
    let make : LinkRow → Link = link_from plan.elements in
    let longer : Topology = record { option = rows.option; elements = plan.elements; links = map make front ++ make row ∷ []; sources = [] } in
    let links : plan.links ≡ map make front ++ make row ∷ map make rest = rw (split, map-append make front (row ∷ rest)) refl in
    let more : plan.links ≡ longer.links ++ map make rest = links ∙ sym (append_assoc (map make front) (make row ∷ []) (map make rest)) in
    let names : link_names plan.links ≡ link_names (map make front) ++ row.name ∷ link_names (map make rest)
    = rw (links, map-append (λ (link : Link). link.name) (map make front) (make row ∷ map make rest)) refl in
    let named : is_name row.name ≡ true = list_all-middle (link_names (map make front)) row.name (link_names (map make rest)) (rw names at well.links_named) in
    let fresh : is_named (link_names (map make front)) row.name ≡ false
    = AreDistinct-fresh _ row.name _ (subst AreDistinct names well.links_distinct) in
    let fits : LinkRowFits plan.elements row = all-middle (LinkRowFits plan.elements) front row rest (subst (AllByRecursion (LinkRowFits plan.elements)) split fit.links) in
    let at : slice_get plan.links (length (map make front)) ≡ Some (make row) = rw links (slice_get-middle (map make front) (make row) (map make rest)) in
    let joins : JoinsTwo (length plan.elements) (make row) = well.links_join (length (map make front)) (make row) at in
    let differ : bytes_eq row.a row.b ≡ false = apart plan.elements row.a row.b joins.apart in
    let room_a : has_room longer (make row).a ≡ true
    = few_inputs longer plan (make row).a (map make rest) plan.sources more refl (well.few_inputs (make row).a) in
    let room_b : has_room longer (make row).b ≡ true
    = few_inputs longer plan (make row).b (map make rest) plan.sources more refl (well.few_inputs (make row).b) in
    let bundle : is_bad_bundle (map make front) (make row) ≡ false
    = fits-before (map make front) (make row) (map make rest) (subst BundlesJoin links well.bundles_join) (well.bundles_named (length (map make front)) (make row) at) in
    rw (named, fresh, fits.end_a, fits.end_b, differ, fits.numbers, bundle, room_a, room_b) refl

-- ---- source rows

source_kept : (rows : PlanRows) → IsWellFormed (plan_from rows) → RowsFit rows → (front : List SourceRow) (row : SourceRow) (rest : List SourceRow)
    → rows.sources ≡ front ++ row ∷ rest → first_broken (source_row_rules rows front row) ≡ None
source_kept rows well fit front row rest split =
    let plan : Topology = plan_from rows in
    let make : SourceRow → Source = source_from rows.option plan.elements in
    let longer : Topology = record { option = rows.option; elements = plan.elements; links = plan.links; sources = map make front ++ make row ∷ [] } in
    let sources : plan.sources ≡ map make front ++ make row ∷ map make rest = rw (split, map-append make front (row ∷ rest)) refl in
    let more : plan.sources ≡ longer.sources ++ map make rest = sources ∙ sym (append_assoc (map make front) (make row ∷ []) (map make rest)) in
    let own : source_names plan.sources ≡ source_names (map make front) ++ row.name ∷ source_names (map make rest)
    = rw (sources, map-append (λ (source : Source). source.name) (map make front) (make row ∷ map make rest)) refl in
    let named : is_name row.name ≡ true = list_all-middle (source_names (map make front)) row.name (source_names (map make rest)) (rw own at well.sources_named) in
    let fresh : is_named (source_names (map make front)) row.name ≡ false
    = AreDistinct-fresh (source_names (map make front)) row.name (source_names (map make rest)) (subst AreDistinct own well.sources_distinct) in
    let at : slice_get plan.sources (length (map make front)) ≡ Some (make row) = rw sources (slice_get-middle (map make front) (make row) (map make rest)) in
    let no_link : is_named (link_names plan.links) row.name ≡ false = well.sources_are_no_links (length (map make front)) (make row) at in
    let fits : SourceRowFits rows.option plan.elements row = all-middle (SourceRowFits rows.option plan.elements) front row rest (subst (AllByRecursion (SourceRowFits rows.option plan.elements)) split fit.sources) in
    let room : has_room longer (make row).at ≡ true
    = few_inputs longer plan (make row).at [] (map make rest) (sym (append-nil plan.links)) more (well.few_inputs (make row).at) in
    rw (named, no_link, fresh, fits.at, fits.priority, fits.level, room) refl

-- ---- all rows

pub plan_of_rows-kept : (rows : PlanRows) → IsWellFormed (plan_from rows) → RowsFit rows → plan_of_rows rows ≡ Ok (plan_from rows)
unfolding plan_of_rows
plan_of_rows-kept rows well fit =
    let few_elements : nat_lt element_limit (length rows.elements) ≡ false = le-ltb element_limit (length rows.elements) (omega (arith, length-map rows.elements (element_from rows.option), well.few_elements)) in
    let few_links : nat_lt link_limit (length rows.links) ≡ false = le-ltb link_limit (length rows.links) (omega (arith, length-map rows.links (link_from (plan_from rows).elements), well.few_links)) in
    let few_sources : nat_lt source_limit (length rows.sources) ≡ false = le-ltb source_limit (length rows.sources) (omega (arith, length-map rows.sources (source_from rows.option (plan_from rows).elements), well.few_sources)) in
    let elements = each_row-kept (element_row_rules rows) rows.elements (element_kept rows well fit) in
    let links = each_row-kept (link_row_rules rows) rows.links (link_kept rows well fit) in
    let sources = each_row-kept (source_row_rules rows) rows.sources (source_kept rows well fit) in
    let front = first_broken-append (each_row (element_row_rules rows) rows.elements) (each_row (link_row_rules rows) rows.links) elements links in
    let rest = first_broken-append (each_row (element_row_rules rows) rows.elements ++ each_row (link_row_rules rows) rows.links)
    (each_row (source_row_rules rows) rows.sources) front sources in
    let none : first_broken (rules_of rows) ≡ None = rw (few_elements, few_links, few_sources) rest in
    rw none refl
