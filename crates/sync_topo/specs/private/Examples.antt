-- Lines, inputs, hops and refusals at plans and rows written by hand.
use Rattle.std.specs.Prelude.{◌≡◌, ℕ, true, false, [], ◌∷◌, codes, List, Some, None, Ok, Err, pos, unwrap_or, refl}
use native.Mathlib.Decide.{dec_lt}
use Rattle.sync_ql.specs.declared.levels.NetOption.TheVariants.{I, II}
use Rattle.sync_ql.specs.Level.{name_of, level_of_name, do_not_use_of}
use Rattle.sync_topo.specs.declared.place.Section.{Section}
use Rattle.sync_topo.specs.declared.place.Section.TheVariants.{Elements, Links, Sources}
use Rattle.sync_topo.specs.declared.place.Place.{Place}
use Rattle.sync_topo.specs.declared.error.PlanErr.TheVariants.{Name, Twice, SelfLink, Range, Bundle, LevelName}
use Rattle.sync_topo.specs.declared.element.Element.{Element}
use Rattle.sync_topo.specs.declared.link.Link.{Link}
use Rattle.sync_topo.specs.declared.input.InputId.TheVariants as input
use Rattle.sync_topo.specs.declared.rows.ElementRow.{ElementRow}
use Rattle.sync_topo.specs.declared.rows.LinkRow.{LinkRow}
use Rattle.sync_topo.specs.declared.rows.SourceRow.{SourceRow}
use Rattle.sync_topo.specs.declared.rows.PlanRows.{PlanRows}
use Rattle.sync_topo.specs.Topology.{Topology}
use Rattle.sync_topo.specs.Lines.{priority_of, delay_of, line_name, line_of_name, line_input, input_number, input_of_name, inputs_of}
use Rattle.sync_topo.specs.Bundles.{lowest_of_bundle, bundle_of}
use Rattle.sync_topo.specs.Hops.{hops, is_last_resort, bears_on}
use Rattle.sync_topo.specs.RowValues.{default_own, element_from}
use Rattle.sync_topo.specs.PlanRows.{plan_of_rows}

-- an element with the defaults of option I
abbrev pub element : List ℕ → Element
element name = element_from I (record { name = name; own = None; floor = None; holdoff = None; wtr = None })

-- a link from A to B that is nominated at both ends
abbrev pub link : List ℕ → Link
link name = record { name = name; a = 0; b = 1; priority_a = 1; priority_b = 1; delay_a = 10; delay_b = 10; bundle = None }

-- two elements with two links between them, and a source at B
abbrev pub twin : Topology
twin = record {
  option = I;
  elements = element (codes "A") ∷ element (codes "B") ∷ [];
  links = link (codes "L1") ∷ link (codes "L2") ∷ [];
  sources = record { name = codes "S"; at = 1; level = do_not_use_of I; priority = 1 } ∷ [];
}

pub even_line_ends_at_b : line_name twin 0 ≡ codes "L1>B"
even_line_ends_at_b = refl

pub odd_line_ends_at_a : line_name twin 1 ≡ codes "L1>A"
odd_line_ends_at_a = refl

pub return_over_its_own_link_is_no_hop : hops twin 0 1 ≡ false
unfolding lowest_of_bundle
return_over_its_own_link_is_no_hop = refl

pub return_over_a_parallel_link_is_a_hop : hops twin 0 3 ≡ true
unfolding lowest_of_bundle
return_over_a_parallel_link_is_a_hop = refl

-- the two links in one bundle, the second with its ends swapped, and a third beside them
abbrev pub bundled : Topology
bundled = record twin {
  links = record (link (codes "L1")) { bundle = Some (codes "T") } ∷ record (link (codes "L2")) { a = 1; b = 0; bundle = Some (codes "T") } ∷ link (codes "L3") ∷ [];
}

pub bundle_goes_by_its_lowest_link : bundle_of bundled 1 ≡ 0
unfolding lowest_of_bundle
bundle_goes_by_its_lowest_link = refl

pub link_beside_a_bundle_is_one_of_its_own : bundle_of bundled 2 ≡ 2
unfolding lowest_of_bundle
link_beside_a_bundle_is_one_of_its_own = refl

pub return_over_a_link_of_the_bundle_is_no_hop : hops bundled 0 2 ≡ false
unfolding lowest_of_bundle
return_over_a_link_of_the_bundle_is_no_hop = refl

pub return_over_a_link_beside_the_bundle_is_a_hop : hops bundled 0 5 ≡ true
unfolding lowest_of_bundle
return_over_a_link_beside_the_bundle_is_a_hop = refl

pub line_is_found_by_its_name : line_of_name twin (codes "L2>A") ≡ Some 3
line_is_found_by_its_name = refl

pub line_into_no_element_is_not_found : line_of_name twin (codes "L1>C") ≡ None
line_into_no_element_is_not_found = refl

pub source_is_an_input_of_its_name : input_of_name twin (codes "S") ≡ Some (input.Source 0)
source_is_an_input_of_its_name = refl

pub inputs_are_lines_and_then_sources : inputs_of twin 1 ≡ line_input 0 ∷ line_input 2 ∷ input.Source 0 ∷ []
inputs_are_lines_and_then_sources = refl

pub numbers_of_sources_come_after_all_lines : input_number twin (input.Source 0) ≡ 4
numbers_of_sources_come_after_all_lines = refl

-- a link whose two lines differ in priority and delay
abbrev pub uneven : Topology
uneven = record twin { links = record (link (codes "L1")) { priority_a = 1; priority_b = 2; delay_a = 7; delay_b = 9 } ∷ [] }

pub line_into_b_has_priority_b : priority_of uneven 0 ≡ 2
line_into_b_has_priority_b = refl

pub line_into_a_has_priority_a : priority_of uneven 1 ≡ 1
line_into_a_has_priority_a = refl

pub line_into_b_has_delay_b : delay_of uneven 0 ≡ 9
line_into_b_has_delay_b = refl

pub line_into_a_has_delay_a : delay_of uneven 1 ≡ 7
line_into_a_has_delay_a = refl

pub own_clock_is_sec_in_option_I : name_of (default_own I) ≡ codes "QL-SEC"
unfolding dec_lt
own_clock_is_sec_in_option_I = refl

pub own_clock_is_st3_in_option_II : name_of (default_own II) ≡ codes "QL-ST3"
unfolding dec_lt
own_clock_is_st3_in_option_II = refl

pub minutes_are_kept_in_milliseconds : (element (codes "A")).wtr ≡ 300000
minutes_are_kept_in_milliseconds = refl

-- rows that give only what they must
abbrev pub element_row : List ℕ → ElementRow
element_row name = record { name = name; own = None; floor = None; holdoff = None; wtr = None }

abbrev pub link_row : List ℕ → List ℕ → List ℕ → LinkRow
link_row name a b = record { name = name; a = a; b = b; priority_a = None; priority_b = Some (pos 1); delay_a = None; delay_b = None; bundle = None }

abbrev pub source_row : List ℕ → List ℕ → List ℕ → SourceRow
source_row name at level = record { name = name; at = at; level = level; priority = None }

-- rows of two elements in option I
abbrev pub two_elements : List LinkRow → List SourceRow → PlanRows
two_elements links sources = record {
  option = I;
  elements = element_row (codes "A") ∷ element_row (codes "B") ∷ [];
  links = links;
  sources = sources;
}

abbrev pub at : Section → ℕ → Place
at section row = record { section = section; row = row }

pub name_twice_comes_before_an_end_that_is_no_element
    : plan_of_rows (two_elements (link_row (codes "L1") (codes "A") (codes "B") ∷ link_row (codes "L1") (codes "A") (codes "C") ∷ []) [])
    ≡ Err (Twice (at Links 2))
unfolding plan_of_rows
name_twice_comes_before_an_end_that_is_no_element = refl

pub self_link_comes_before_a_delay_out_of_range
    : plan_of_rows (two_elements (record (link_row (codes "L1") (codes "A") (codes "A")) { delay_a = Some (pos 0) } ∷ []) [])
    ≡ Err (SelfLink (at Links 1))
unfolding plan_of_rows
self_link_comes_before_a_delay_out_of_range = refl

-- a row of a link in a bundle
abbrev pub row_in : List ℕ → List ℕ → List ℕ → List ℕ → LinkRow
row_in name a b bundle = record (link_row name a b) { bundle = Some bundle }

pub bundle_joins_the_same_two_elements
    : plan_of_rows (record (two_elements (row_in (codes "L1") (codes "A") (codes "B") (codes "T") ∷ row_in (codes "L2") (codes "B") (codes "A") (codes "T") ∷ row_in (codes "L3") (codes "A") (codes "C") (codes "T") ∷ []) [])
    { elements = element_row (codes "A") ∷ element_row (codes "B") ∷ element_row (codes "C") ∷ [] })
    ≡ Err (Bundle (at Links 3))
unfolding plan_of_rows
bundle_joins_the_same_two_elements = refl

pub number_out_of_range_comes_before_a_bad_name_of_a_bundle
    : plan_of_rows (two_elements (record (row_in (codes "L1") (codes "A") (codes "B") (codes "T>")) { delay_b = Some (pos 2001) } ∷ []) []) ≡ Err (Range (at Links 1))
unfolding plan_of_rows
number_out_of_range_comes_before_a_bad_name_of_a_bundle = refl

pub bad_name_of_a_bundle_is_refused : plan_of_rows (two_elements (row_in (codes "L1") (codes "A") (codes "B") (codes "T>") ∷ []) []) ≡ Err (Bundle (at Links 1))
unfolding plan_of_rows
bad_name_of_a_bundle_is_refused = refl

pub bad_name_of_an_element_comes_before_any_link_row : plan_of_rows (record {
  option = I;
  elements = element_row (codes "A") ∷ element_row (codes "B>") ∷ [];
  links = link_row (codes "L1") (codes "A") (codes "A") ∷ [];
  sources = [];
}) ≡ Err (Name (at Elements 2))
unfolding plan_of_rows
bad_name_of_an_element_comes_before_any_link_row = refl

pub do_not_use_is_no_floor : plan_of_rows (record {
  option = II;
  elements = record (element_row (codes "A")) { floor = Some (codes "QL-DUS") } ∷ [];
  links = [];
  sources = [];
}) ≡ Err (LevelName (at Elements 1))
unfolding plan_of_rows dec_lt
do_not_use_is_no_floor = refl

pub source_may_not_have_a_links_name
    : plan_of_rows (two_elements (link_row (codes "L1") (codes "A") (codes "B") ∷ []) (source_row (codes "L1") (codes "X") (codes "QL-PRC") ∷ []))
    ≡ Err (Twice (at Sources 1))
unfolding plan_of_rows
source_may_not_have_a_links_name = refl

pub source_may_have_an_elements_name_and_do_not_use
    : plan_of_rows (two_elements [] (source_row (codes "A") (codes "A") (codes "QL-DNU") ∷ []))
    ≡ Ok (record {
      option = I;
      elements = element (codes "A") ∷ element (codes "B") ∷ [];
      links = [];
      sources = record { name = codes "A"; at = 0; level = unwrap_or (level_of_name I (codes "QL-DNU")) (default_own I); priority = 1 } ∷ [];
    })
unfolding plan_of_rows dec_lt
source_may_have_an_elements_name_and_do_not_use = refl

-- a link that is nominated at both ends, at each after the source there
abbrev pub backed : ℕ → Topology
backed number = record twin {
  links = record (link (codes "L")) { priority_a = number; priority_b = number } ∷ [];
  sources =
      record { name = codes "S"; at = 0; level = do_not_use_of I; priority = 2 }
      ∷ record { name = codes "T"; at = 1; level = do_not_use_of I; priority = 2 }
      ∷ [];
}

pub line_after_the_source_is_a_last_resort : is_last_resort (backed 3) 0 ≡ true
unfolding lowest_of_bundle
line_after_the_source_is_a_last_resort = refl

pub line_with_the_number_of_the_source_is_none : is_last_resort (backed 2) 0 ≡ false
unfolding lowest_of_bundle
line_with_the_number_of_the_source_is_none = refl

pub way_back_from_a_last_resort_bears_on_nothing : bears_on (backed 3) 0 1 ≡ false
unfolding lowest_of_bundle
way_back_from_a_last_resort_bears_on_nothing = refl

pub way_back_before_the_source_bears : bears_on (backed 1) 0 1 ≡ true
unfolding lowest_of_bundle
way_back_before_the_source_bears = refl

-- lines of one bundle come from one element: none of them is another way
pub lines_of_one_bundle_are_one_last_resort : is_last_resort bundled 0 ≡ false
unfolding lowest_of_bundle
lines_of_one_bundle_are_one_last_resort = refl
