-- The rows that say a plan, with every key given.
use Rattle.std.specs.Prelude.{◌/◌, map, Some, option_map, pos}
use Rattle.sync_ql.specs.Level.{name_of}
use Rattle.sync_topo.specs.declared.element.Element.{Element}
use Rattle.sync_topo.specs.declared.link.Link.{Link}
use Rattle.sync_topo.specs.declared.source.Source.{Source}
use Rattle.sync_topo.specs.declared.rows.ElementRow.{ElementRow}
use Rattle.sync_topo.specs.declared.rows.LinkRow.{LinkRow}
use Rattle.sync_topo.specs.declared.rows.SourceRow.{SourceRow}
use Rattle.sync_topo.specs.declared.rows.PlanRows.{PlanRows}
use Rattle.sync_topo.specs.Topology.{Topology}
use Rattle.sync_topo.specs.Lines.{element_name}

-- the row of an element: its wait-to-restore time in minutes
abbrev pub row_of_element : Element → ElementRow
row_of_element element = record {
  name = element.name;
  own = Some (name_of element.own);
  floor = option_map name_of element.floor;
  holdoff = Some (pos element.holdoff);
  wtr = Some (pos (element.wtr / 60000));
}

-- the row of a link: its ends by their names
abbrev pub row_of_link : Topology → Link → LinkRow
row_of_link plan link = record {
  name = link.name;
  a = element_name plan link.a;
  b = element_name plan link.b;
  priority_a = Some (pos link.priority_a);
  priority_b = Some (pos link.priority_b);
  delay_a = Some (pos link.delay_a);
  delay_b = Some (pos link.delay_b);
  bundle = link.bundle;
}

-- the row of a source
abbrev pub row_of_source : Topology → Source → SourceRow
row_of_source plan source = record {
  name = source.name;
  at = element_name plan source.at;
  level = name_of source.level;
  priority = Some (pos source.priority);
}

-- the rows of a plan, each section in the plan's order
abbrev pub rows_of_plan : Topology → PlanRows
rows_of_plan plan = record {
  option = plan.option;
  elements = map row_of_element plan.elements;
  links = map (row_of_link plan) plan.links;
  sources = map (row_of_source plan) plan.sources;
}
