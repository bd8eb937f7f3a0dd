-- How much a plan may hold. This project's own, but for the hold-off and wait-to-restore times, which are after G.781.
use Rattle.std.specs.Prelude.{ℕ}
use Rattle.sync_topo.specs.declared.sizes.TheConstants.{MOST_ELEMENTS, MOST_LINKS, MOST_SOURCES}
use Rattle.sync_ql.specs.declared.limits.TheConstants.{MOST_INPUTS, LEAST_HOLDOFF, GREATEST_HOLDOFF, GREATEST_WTR_MINUTES, LEAST_DELAY, GREATEST_DELAY}

-- the most elements, links and sources that any plan may have: those of a large one
abbrev pub element_limit : ℕ
element_limit = MOST_ELEMENTS

abbrev pub link_limit : ℕ
link_limit = MOST_LINKS

abbrev pub source_limit : ℕ
source_limit = MOST_SOURCES

-- the most nominated inputs that an element may have
abbrev pub input_limit : ℕ
input_limit = MOST_INPUTS

-- hold-off times, in milliseconds
abbrev pub least_holdoff : ℕ
least_holdoff = LEAST_HOLDOFF

abbrev pub greatest_holdoff : ℕ
greatest_holdoff = GREATEST_HOLDOFF

-- wait-to-restore times, in minutes
abbrev pub greatest_wtr : ℕ
greatest_wtr = GREATEST_WTR_MINUTES

-- delays, in milliseconds
abbrev pub least_delay : ℕ
least_delay = LEAST_DELAY

abbrev pub greatest_delay : ℕ
greatest_delay = GREATEST_DELAY

abbrev pub greatest_priority : ℕ
greatest_priority = 255
