-- What holds of every plan.
use Rattle.std.specs.Prelude.{◌≡◌, ◌≢◌, ℕ, ◌*◌, ◌<◌, ◌≤◌, false, IsTrue, List, length, slice_get, Some, IfSome}
use Rattle.std.specs.List.{list_all}
use Rattle.sync_ql.specs.declared.levels.NetOption.{NetOption}
use Rattle.sync_ql.specs.declared.levels.Level.{Level}
use Rattle.sync_ql.specs.Level.{place_of as level_place, do_not_use_of}
use Rattle.sync_topo.specs.declared.element.Element.{Element}
use Rattle.sync_topo.specs.declared.link.Link.{Link}
use Rattle.sync_topo.specs.declared.source.Source.{Source}
use Rattle.sync_topo.specs.Topology.{Topology}
use Rattle.sync_topo.specs.Bundles.{BundlesJoin}
use Rattle.sync_topo.specs.Lines.{inputs_of}
use Rattle.sync_topo.specs.Rules.{is_bad_bundle_name}
use Rattle.sync_topo.specs.Names.{is_name, is_named, element_names, link_names, source_names}
use Rattle.sync_topo.specs.Limits.{element_limit, link_limit, source_limit, input_limit, least_holdoff, greatest_holdoff, greatest_wtr, least_delay, greatest_delay, greatest_priority}

-- no name stands twice
abbrev pub AreDistinct : List (List ℕ) → Type 0
AreDistinct names = (i j : ℕ) → i < j → j < length names → slice_get names i ≢ slice_get names j

-- a level of the option, and not do-not-use
pub record IsClockLevel (option : NetOption) (level : Level) : Type 0 where
  pub of_option : level.option ≡ option
  pub above_do_not_use : level_place level < level_place (do_not_use_of option)

-- the element's levels are the option's, and its times fit
pub record IsElementOf (option : NetOption) (element : Element) : Type 0 where
  pub own_is_clock_level : IsClockLevel option element.own
  pub floor_is_clock_level : IfSome element.floor (IsClockLevel option)
  pub least_holdoff : least_holdoff ≤ element.holdoff
  pub greatest_holdoff : element.holdoff ≤ greatest_holdoff
  pub whole_minutes : (minutes : ℕ) × (minutes ≤ greatest_wtr) × (element.wtr ≡ 60000 * minutes)

-- the link joins two of the n elements, with priorities and delays that fit
pub record JoinsTwo (n : ℕ) (link : Link) : Type 0 where
  pub a_is_element : link.a < n
  pub b_is_element : link.b < n
  pub apart : link.a ≢ link.b
  pub priority_a_fits : link.priority_a ≤ greatest_priority
  pub priority_b_fits : link.priority_b ≤ greatest_priority
  pub least_delay_a : least_delay ≤ link.delay_a
  pub greatest_delay_a : link.delay_a ≤ greatest_delay
  pub least_delay_b : least_delay ≤ link.delay_b
  pub greatest_delay_b : link.delay_b ≤ greatest_delay

-- the source is at one of the n elements, with a level of the option and a priority that fits
pub record IsSourceOf (option : NetOption) (n : ℕ) (source : Source) : Type 0 where
  pub at_is_element : source.at < n
  pub of_option : source.level.option ≡ option
  pub priority_fits : source.priority ≤ greatest_priority

-- every rule for plans holds
pub record IsWellFormed (plan : Topology) : Type 0 where
  pub few_elements : length plan.elements ≤ element_limit
  pub few_links : length plan.links ≤ link_limit
  pub few_sources : length plan.sources ≤ source_limit
  pub elements_named : IsTrue (list_all is_name (element_names plan.elements))
  pub elements_distinct : AreDistinct (element_names plan.elements)
  pub elements_fit : (e : ℕ) (element : Element) → slice_get plan.elements e ≡ Some element → IsElementOf plan.option element
  pub links_named : IsTrue (list_all is_name (link_names plan.links))
  pub links_distinct : AreDistinct (link_names plan.links)
  pub links_join : (k : ℕ) (link : Link) → slice_get plan.links k ≡ Some link → JoinsTwo (length plan.elements) link
  -- a bundle's name keeps the rule for names, and links that name the same bundle join the same two elements
  pub bundles_named : (k : ℕ) (link : Link) → slice_get plan.links k ≡ Some link → is_bad_bundle_name link.bundle ≡ false
  pub bundles_join : BundlesJoin plan.links
  pub sources_named : IsTrue (list_all is_name (source_names plan.sources))
  pub sources_distinct : AreDistinct (source_names plan.sources)
  -- links and sources share one space of names
  pub sources_are_no_links : (j : ℕ) (source : Source) → slice_get plan.sources j ≡ Some source → is_named (link_names plan.links) source.name ≡ false
  pub sources_fit : (j : ℕ) (source : Source) → slice_get plan.sources j ≡ Some source → IsSourceOf plan.option (length plan.elements) source
  pub few_inputs : (element : ℕ) → length (inputs_of plan element) ≤ input_limit
