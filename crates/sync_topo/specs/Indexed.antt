-- How a plan keeps its topology: what only private clauses cite.
use Rattle.sync_topo.specs.declared.parts.PlanTables.{PlanTables}
use Rattle.sync_topo.specs.Topology.{Topology}

abbrev pub topology : PlanTables → Topology
topology parts = record {
  option = parts.option;
  elements = parts.elements.items;
  links = parts.links.items;
  sources = parts.sources.items;
}
