-- The size of a plan, and what goes by it. This project's own.
use Rattle.std.specs.Prelude.{ℕ, Bool, ◌&&◌, nat_le, if◌then◌else◌, length}
use Rattle.sync_topo.specs.declared.sizes.Size.{Size}
use Rattle.sync_topo.specs.declared.sizes.Size.TheVariants.{Standard, Large}
use Rattle.sync_topo.specs.declared.sizes.TheConstants.{STANDARD_ELEMENTS, STANDARD_LINKS, STANDARD_SOURCES, STANDARD_ROWS, LARGE_ROWS, STANDARD_EVENTS, LARGE_EVENTS}
use Rattle.sync_topo.specs.Limits.{element_limit, link_limit, source_limit}
use Rattle.sync_topo.specs.Topology.{Topology}

-- the most elements of a plan of this size
abbrev pub most_elements : Size → ℕ
most_elements Standard = STANDARD_ELEMENTS
most_elements Large = element_limit

-- the most links of a plan of this size
abbrev pub most_links : Size → ℕ
most_links Standard = STANDARD_LINKS
most_links Large = link_limit

-- the most sources of a plan of this size
abbrev pub most_sources : Size → ℕ
most_sources Standard = STANDARD_SOURCES
most_sources Large = source_limit

-- the plan has no more elements, links and sources than a plan of this size may have
abbrev pub is_within : Size → Topology → Bool
is_within size plan =
    nat_le (length plan.elements) (most_elements size)
    && nat_le (length plan.links) (most_links size)
    && nat_le (length plan.sources) (most_sources size)

-- the plan is of standard size
abbrev pub is_standard : Topology → Bool
is_standard plan = is_within Standard plan

-- the size that a plan has
unfoldable pub size_of : Topology → Size
size_of plan = if is_standard plan then Standard else Large

-- the most rows that a report may have, and the most frames of an element, for a plan of this size
abbrev pub rows_of_size : Size → ℕ
rows_of_size Standard = STANDARD_ROWS
rows_of_size Large = LARGE_ROWS

-- the most rows that a report on the plan may have, and the most frames of one of its elements
unfoldable pub most_rows : Topology → ℕ
most_rows plan = rows_of_size (size_of plan)

-- the most rows of a file of events, or of cases, for a plan of this size
abbrev pub events_of_size : Size → ℕ
events_of_size Standard = STANDARD_EVENTS
events_of_size Large = LARGE_EVENTS

-- the most rows of a file of events for the plan, or of cases
unfoldable pub event_limit : Topology → ℕ
event_limit plan = events_of_size (size_of plan)
