-- The plan of a plan's own rows is the plan.
use Rattle.std.proofs.Common.{◌≡◌, ℕ, ◌*◌, ◌/◌, ◌<◌, ◌≤◌, zero, suc, true, false, ◌&&◌, List, [], ◌∷◌, length, map, get_or, Option, Some, None, slice_get, refl, sym, ap, subst, ◌∙◌, inl, inr, arith}
use Rattle.std.specs.Prelude.{Ok, option_map, option_and_then, is_some, is_none, IfSome, pos}
use Rattle.std.specs.List.{AllByRecursion}
use Rattle.std.specs.Option.{option_map_or}
use Rattle.std.specs.Str.{bytes_eq}
use Rattle.std.proofs.lemmas.Bool.{cases_Bool, le-leb, lt-ltb}
use Rattle.std.proofs.lemmas.List.Sums.{position_or_len_is}
use Rattle.std.proofs.lemmas.Slice.Eq.{bytes_eq-Decides}
use Rattle.std.proofs.lemmas.Option.{slice_get_within, get_or_from_slice_get, slice_get-get_or}
use Rattle.sync_ql.specs.declared.levels.NetOption.{NetOption}
use Rattle.sync_ql.specs.declared.levels.Level.{Level}
use Rattle.sync_ql.specs.Level.{name_of, level_of_name}
use Rattle.sync_ql.proofs.Tables.{level_of_name-name_of}
use Rattle.sync_topo.specs.declared.element.Element.{Element}
use Rattle.sync_topo.specs.declared.link.Link.{Link}
use Rattle.sync_topo.specs.declared.source.Source.{Source}
use Rattle.sync_topo.specs.Topology.{Topology}
use Rattle.sync_topo.specs.Lines.{element_name}
use Rattle.sync_topo.specs.Names.{is_named, place_of, element_names}
use Rattle.sync_topo.specs.RowValues.{clock_level, element_of_name, element_from, link_from, source_from, plan_from}
use Rattle.sync_topo.specs.Rules.{is_outside}
use Rattle.sync_topo.specs.PlanRows.{plan_of_rows}
use Rattle.sync_topo.specs.WellFormed.{AreDistinct, IsClockLevel, IsElementOf, JoinsTwo, IsSourceOf, IsWellFormed}
use Rattle.sync_topo.specs.RowsOfPlan.{row_of_element, row_of_link, row_of_source, rows_of_plan}
use Rattle.sync_topo.proofs.RuleLemmas.{is_named-at}
use Rattle.sync_topo.proofs.KeptRules.{ElementRowFits, LinkRowFits, SourceRowFits, RowsFit, plan_of_rows-kept}

-- what a function leaves as it is, item by item
pub map-same : {A : Type 0} (f : A → A) (items : List A) → ((i : ℕ) (item : A) → slice_get items i ≡ Some item → f item ≡ item) → map f items ≡ items
map-same f [] same = refl
map-same f (item ∷ items) same = rw (same 0 item refl, map-same f items (λ i other at. same (suc i) other at)) refl

pub map-map : {A B C : Type 0} (f : B → C) (g : A → B) (items : List A) → map f (map g items) ≡ map (λ item. f (g item)) items
map-map f g [] = refl
map-map f g (item ∷ items) = ap (λ rest. f (g item) ∷ rest) (map-map f g items)

-- what a function makes of each item fits, where it fits what it makes of the item at each place
pub all-map : {A B : Type 0} (P : B → Type 0) (f : A → B) (items : List A) → ((i : ℕ) (item : A) → slice_get items i ≡ Some item → P (f item)) → AllByRecursion P (map f items)
all-map P f [] fits = tt
all-map P f (item ∷ items) fits = (fits 0 item refl, all-map P f items (λ i other at. fits (suc i) other at))

-- where no name stands twice, a name is found at its place
pub place_of-distinct : (names : List (List ℕ)) (name : List ℕ) (i : ℕ) → AreDistinct names → slice_get names i ≡ Some name → place_of names name ≡ Some i
place_of-distinct names name i distinct at =
    let within : i < length names = slice_get_within names i name at in
    let here : bytes_eq name (get_or names i []) ≡ true = (bytes_eq-Decides name (get_or names i [])).1 (sym (get_or_from_slice_get names i name [] at)) in
    rw (position_or_len_is (bytes_eq name) names i [] (omega (arith, within)) (λ k before. earlier k before within) (λ _. here), lt-ltb i (length names) within) refl
  where
    earlier : (k : ℕ) → k < i → i < length names → bytes_eq name (get_or names k []) ≡ false
    earlier k before within =
        elim (cases_Bool (bytes_eq name (get_or names k []))) [
          | inr other ↦ other
          | inl same ↦
              let stands : slice_get names k ≡ Some name = slice_get-get_or names k [] (omega (arith, within)) ∙ ap Some (sym ((bytes_eq-Decides name (get_or names k [])).0 same)) in
              absurd (distinct k i before within (stands ∙ sym at))
        ]

-- the name of an element stands at its place
pub name_stands : (plan : Topology) (e : ℕ) → e < length plan.elements → slice_get (element_names plan.elements) e ≡ Some (element_name plan e)
name_stands plan e within = at plan.elements e within
  where
    at : (elements : List Element) (e : ℕ) → e < length elements → slice_get (element_names elements) e ≡ Some (option_map_or (λ (element : Element). element.name) (slice_get elements e) [])
    at [] e within = absurd (omega arith)
    at (element ∷ elements) zero within = refl
    at (element ∷ elements) (suc e) within = at elements e (omega arith)

-- an element is found by its name
element_found : (plan : Topology) (e : ℕ) → IsWellFormed plan → e < length plan.elements → element_of_name plan.elements (element_name plan e) ≡ e
element_found plan e well within =
    rw (place_of-distinct (element_names plan.elements) (element_name plan e) e well.elements_distinct (name_stands plan e within)) refl

element_named : (plan : Topology) (e : ℕ) → e < length plan.elements → is_named (element_names plan.elements) (element_name plan e) ≡ true
element_named plan e within = is_named-at (element_names plan.elements) (element_name plan e) e (name_stands plan e within)

-- ---- elements

-- a level is found by its name
level_found : (option : NetOption) (level : Level) → level.option ≡ option → level_of_name option (name_of level) ≡ Some level
level_found option level of_option = rw (← of_option) (level_of_name-name_of level)

clock_level_found : (option : NetOption) (level : Level) → IsClockLevel option level → clock_level option (name_of level) ≡ Some level
clock_level_found option level is_clock = rw (level_found option level is_clock.of_option, lt-ltb _ _ is_clock.above_do_not_use) refl

floor_found : (option : NetOption) (floor : Option Level) → IfSome floor (IsClockLevel option) → option_and_then (clock_level option) (option_map name_of floor) ≡ floor
floor_found option None is_clock = refl
floor_found option (Some level) is_clock = clock_level_found option level is_clock

minutes_back : (wtr minutes : ℕ) → wtr ≡ 60000 * minutes → 60000 * (wtr / 60000) ≡ wtr
minutes_back wtr minutes whole = omega arith

-- a number within its limits is not outside them
within_limits : (low high n : ℕ) → low ≤ n → n ≤ high → is_outside low high (Some (pos n)) ≡ false
within_limits low high n least greatest = rw (le-leb low n least, le-leb n high greatest) refl

element_back : (option : NetOption) (element : Element) → IsElementOf option element → element_from option (row_of_element element) ≡ element
element_back option element fits =
    rw (
      clock_level_found option element.own fits.own_is_clock_level,
      floor_found option element.floor fits.floor_is_clock_level,
      minutes_back element.wtr fits.whole_minutes.0 fits.whole_minutes.2,
    ) refl

floor_fits : (option : NetOption) (floor : Option Level) → IfSome floor (IsClockLevel option)
    → (is_some (option_map name_of floor) && is_none (option_and_then (clock_level option) (option_map name_of floor))) ≡ false
floor_fits option None is_clock = refl
floor_fits option (Some level) is_clock = rw (clock_level_found option level is_clock) refl

element_fits : (option : NetOption) (element : Element) → IsElementOf option element → ElementRowFits option (row_of_element element)
element_fits option element fits =
    let few : element.wtr / 60000 ≤ 12 = omega (arith, fits.whole_minutes.1, fits.whole_minutes.2) in
    record {
      times = rw (within_limits 300 1800 element.holdoff fits.least_holdoff fits.greatest_holdoff, within_limits 0 12 (element.wtr / 60000) (omega arith) few) refl;
      levels = rw (clock_level_found option element.own fits.own_is_clock_level) (floor_fits option element.floor fits.floor_is_clock_level);
    }

-- ---- links and sources

link_back : (plan : Topology) (link : Link) → IsWellFormed plan → JoinsTwo (length plan.elements) link → link_from plan.elements (row_of_link plan link) ≡ link
link_back plan link well joins =
    rw (element_found plan link.a well joins.a_is_element, element_found plan link.b well joins.b_is_element) refl

link_fits : (plan : Topology) (link : Link) → JoinsTwo (length plan.elements) link → LinkRowFits plan.elements (row_of_link plan link)
link_fits plan link joins = record {
  end_a = element_named plan link.a joins.a_is_element;
  end_b = element_named plan link.b joins.b_is_element;
  numbers = rw (
    within_limits 0 255 link.priority_a (omega arith) joins.priority_a_fits,
    within_limits 0 255 link.priority_b (omega arith) joins.priority_b_fits,
    within_limits 1 2000 link.delay_a joins.least_delay_a joins.greatest_delay_a,
    within_limits 1 2000 link.delay_b joins.least_delay_b joins.greatest_delay_b,
  ) refl;
}

source_back : (plan : Topology) (source : Source) → IsWellFormed plan → IsSourceOf plan.option (length plan.elements) source → source_from plan.option plan.elements (row_of_source plan source) ≡ source
source_back plan source well fits =
    rw (element_found plan source.at well fits.at_is_element, level_found plan.option source.level fits.of_option) refl

source_fits : (plan : Topology) (source : Source) → IsSourceOf plan.option (length plan.elements) source → SourceRowFits plan.option plan.elements (row_of_source plan source)
source_fits plan source fits = record {
  at = element_named plan source.at fits.at_is_element;
  priority = within_limits 0 255 source.priority (omega arith) fits.priority_fits;
  level = rw (level_found plan.option source.level fits.of_option) refl;
}

-- ---- the plan

elements_back : (plan : Topology) → IsWellFormed plan → map (element_from plan.option) (map row_of_element plan.elements) ≡ plan.elements
elements_back plan well =
    map-map (element_from plan.option) row_of_element plan.elements
    ∙ map-same (λ element. element_from plan.option (row_of_element element)) plan.elements (λ e element at. element_back plan.option element (well.elements_fit e element at))

-- what a plan's rows say is the plan
pub plan_from-rows_of_plan : (plan : Topology) → IsWellFormed plan → plan_from (rows_of_plan plan) ≡ plan
plan_from-rows_of_plan plan well =
    let links : map (link_from plan.elements) (map (row_of_link plan) plan.links) ≡ plan.links
    = map-map (link_from plan.elements) (row_of_link plan) plan.links
    ∙ map-same (λ link. link_from plan.elements (row_of_link plan link)) plan.links (λ k link at. link_back plan link well (well.links_join k link at)) in
    let sources : map (source_from plan.option plan.elements) (map (row_of_source plan) plan.sources) ≡ plan.sources
    = map-map (source_from plan.option plan.elements) (row_of_source plan) plan.sources
    ∙ map-same (λ source. source_from plan.option plan.elements (row_of_source plan source)) plan.sources (λ j source at. source_back plan source well (well.sources_fit j source at)) in
    rw (elements_back plan well, links, sources) refl

rows_fit : (plan : Topology) → IsWellFormed plan → RowsFit (rows_of_plan plan)
rows_fit plan well = record {
  elements = all-map (ElementRowFits plan.option) row_of_element plan.elements (λ e element at. element_fits plan.option element (well.elements_fit e element at));
  links = rw (elements_back plan well)
      (all-map (LinkRowFits plan.elements) (row_of_link plan) plan.links (λ k link at. link_fits plan link (well.links_join k link at)));
  sources = rw (elements_back plan well)
      (all-map (SourceRowFits plan.option plan.elements) (row_of_source plan) plan.sources (λ j source at. source_fits plan source (well.sources_fit j source at)));
}

-- the rows of a plan that keeps every rule give that plan
pub plan_of_rows-rows_of_plan : (plan : Topology) → IsWellFormed plan → plan_of_rows (rows_of_plan plan) ≡ Ok plan
plan_of_rows-rows_of_plan plan well =
    let back = plan_from-rows_of_plan plan well in
    plan_of_rows-kept (rows_of_plan plan) (subst IsWellFormed (sym back) well) (rows_fit plan well) ∙ ap Ok back
