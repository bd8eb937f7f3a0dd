-- What rows say, with the default for what they leave out. What is said of a row that breaks a rule means nothing.
use Rattle.std.specs.Prelude.{ℕ, ◌*◌, nat_lt, if◌then◌else◌, List, map, codes, Option, Some, None, unwrap_or, option_and_then, ℤ, pos, negsuc}
use Rattle.sync_ql.specs.declared.levels.NetOption.{NetOption}
use Rattle.sync_ql.specs.declared.levels.NetOption.TheVariants.{I, II}
use Rattle.sync_ql.specs.declared.levels.Level.{Level}
use Rattle.sync_ql.specs.Level.{place_of as level_place, level_of_name, do_not_use_of}
use Rattle.sync_topo.specs.declared.element.Element.{Element}
use Rattle.sync_topo.specs.declared.link.Link.{Link}
use Rattle.sync_topo.specs.declared.source.Source.{Source}
use Rattle.sync_topo.specs.declared.rows.ElementRow.{ElementRow}
use Rattle.sync_topo.specs.declared.rows.LinkRow.{LinkRow}
use Rattle.sync_topo.specs.declared.rows.SourceRow.{SourceRow}
use Rattle.sync_topo.specs.declared.rows.PlanRows.{PlanRows}
use Rattle.sync_topo.specs.Topology.{Topology}
use Rattle.sync_topo.specs.Names.{element_names, place_of}

-- the number that a row gives, and the default where it gives none
abbrev pub number_or : ℕ → Option ℤ → ℕ
number_or default None = default
number_or default (Some (pos n)) = n
number_or default (Some (negsuc n)) = default

-- the level, if it is better than do-not-use: one that a clock or a floor may have
abbrev pub if_clock_level : NetOption → Option Level → Option Level
if_clock_level option None = None
if_clock_level option (Some level) = if nat_lt (level_place level) (level_place (do_not_use_of option)) then Some level else None

-- the level of a name that a clock or a floor may have: every level of the option but do-not-use
abbrev pub clock_level : NetOption → List ℕ → Option Level
clock_level option name = if_clock_level option (level_of_name option name)

-- the level of the clock of an element that names none. This project's own
abbrev pub default_own_name : NetOption → List ℕ
default_own_name I = codes "QL-SEC"
default_own_name II = codes "QL-ST3"

abbrev pub default_own : NetOption → Level
default_own option = unwrap_or (level_of_name option (default_own_name option)) (do_not_use_of option)

-- the element of a row: hold-off 300 milliseconds and wait-to-restore 5 minutes where it says nothing
abbrev pub element_from : NetOption → ElementRow → Element
element_from option row = record {
  name = row.name;
  own = unwrap_or (option_and_then (clock_level option) row.own) (default_own option);
  floor = option_and_then (clock_level option) row.floor;
  holdoff = number_or 300 row.holdoff;
  wtr = 60000 * number_or 5 row.wtr;
}

-- the number of the element of a name
abbrev pub element_of_name : List Element → List ℕ → ℕ
element_of_name elements name = unwrap_or (place_of (element_names elements) name) 0

-- the link of a row between these elements: not nominated, with a delay of 1 millisecond, where it says nothing
abbrev pub link_from : List Element → LinkRow → Link
link_from elements row = record {
  name = row.name;
  a = element_of_name elements row.a;
  b = element_of_name elements row.b;
  priority_a = number_or 0 row.priority_a;
  priority_b = number_or 0 row.priority_b;
  delay_a = number_or 1 row.delay_a;
  delay_b = number_or 1 row.delay_b;
  bundle = row.bundle;
}

-- the source of a row at one of these elements: of priority 1 where it says nothing
abbrev pub source_from : NetOption → List Element → SourceRow → Source
source_from option elements row = record {
  name = row.name;
  at = element_of_name elements row.at;
  level = unwrap_or (level_of_name option row.level) (do_not_use_of option);
  priority = number_or 1 row.priority;
}

-- the plan that rows say, each element, link and source in the order of its rows
abbrev pub plan_from : PlanRows → Topology
plan_from rows =
    let elements : List Element = map (element_from rows.option) rows.elements in
    record {
      option = rows.option;
      elements = elements;
      links = map (link_from elements) rows.links;
      sources = map (source_from rows.option elements) rows.sources;
    }
