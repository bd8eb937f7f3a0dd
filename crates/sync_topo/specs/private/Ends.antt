-- Private: what a row says by itself, before the links and sources that stand already are looked at.
use Rattle.std.specs.Prelude.{List, take}
use Rattle.sync_topo.specs.declared.element.Element.{Element}
use Rattle.sync_topo.specs.declared.link.Link.{Link}
use Rattle.sync_topo.specs.declared.source.Source.{Source}
use Rattle.sync_topo.specs.declared.rows.ElementRow.{ElementRow}
use Rattle.sync_topo.specs.declared.rows.LinkRow.{LinkRow}
use Rattle.sync_topo.specs.declared.rows.SourceRow.{SourceRow}
use Rattle.sync_topo.specs.declared.parts.elements.ElementValues.{ElementValues}
use Rattle.sync_topo.specs.declared.parts.links.LinkEnds.{LinkEnds}
use Rattle.sync_topo.specs.declared.parts.sources.SourceEnd.{SourceEnd}
use Rattle.sync_topo.specs.Rules.{Rule}

-- of the rules for a link row or a source row those for its name, its ends and its values: the first five
abbrev pub end_rules : List Rule → List Rule
end_rules rules = take 5 rules

-- the element of a row that has these values
abbrev pub element_with : ElementValues → ElementRow → Element
element_with values row = record {
  name = row.name;
  own = values.own;
  floor = values.floor;
  holdoff = values.holdoff;
  wtr = values.wtr;
}

-- the link of a row that has these ends
abbrev pub link_with : LinkEnds → LinkRow → Link
link_with ends row = record {
  name = row.name;
  a = ends.a;
  b = ends.b;
  priority_a = ends.numbers.priority_a;
  priority_b = ends.numbers.priority_b;
  delay_a = ends.numbers.delay_a;
  delay_b = ends.numbers.delay_b;
  bundle = row.bundle;
}

-- the source of a row that has this end
abbrev pub source_with : SourceEnd → SourceRow → Source
source_with end row = record {
  name = row.name;
  at = end.at;
  level = end.level;
  priority = end.priority;
}
