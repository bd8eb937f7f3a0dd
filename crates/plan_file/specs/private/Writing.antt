-- Beside specs/Writing.antt, under no public clause: the document that is written for a plan: its tables, and the keys
-- of each in the order of the alphabet.
use Rattle.std.specs.Prelude.{List, map, codes}
use Rattle.toml.specs.Data.{Data, string, array, table, Members, member}
use Rattle.toml.specs.View.{items_of}
use Rattle.sync_topo.specs.Topology.{Topology}
use Rattle.plan_file.specs.Writing.{option_name, element_table, link_table, source_table, names_bundle, with_version}

-- the tables of each section
abbrev pub elements_data : Topology → List Data
elements_data plan = map (λ element. table (element_table element)) plan.elements

abbrev pub links_data : Topology → List Data
links_data plan = map (λ link. table (link_table plan link)) plan.links

abbrev pub sources_data : Topology → List Data
sources_data plan = map (λ source. table (source_table plan source)) plan.sources

-- the document
abbrev pub plan_document : Topology → Members
plan_document plan =
    member (codes "element") (array (items_of (elements_data plan)))
    (member (codes "link") (array (items_of (links_data plan)))
    (member (codes "option") (string (option_name plan.option))
    (member (codes "source") (array (items_of (sources_data plan))) (with_version (names_bundle plan)))))
