-- Beside specs/Indexed.antt, under no public clause: how a plan keeps its topology: what only private clauses cite.
use Rattle.std.specs.Prelude.{◌≡◌, IsTrue, [], ◌∷◌, ◌++◌, false, length}
use Rattle.sync_topo.specs.declared.element.Element.{Element}
use Rattle.sync_topo.specs.declared.link.Link.{Link}
use Rattle.sync_topo.specs.declared.source.Source.{Source}
use Rattle.sync_topo.specs.declared.parts.PlanTables.{PlanTables}
use Rattle.sync_topo.specs.Topology.{Topology}
use Rattle.sync_topo.specs.Names.{is_name, is_named, element_names, link_names, source_names}
use Rattle.sync_topo.specs.Rules.{has_room, is_bad_bundle}
use Rattle.sync_topo.specs.private.Wired.{IsWired}
use Rattle.sync_topo.specs.private.Kept.{AreBundlesOf}
use Rattle.sync_topo.specs.WellFormed.{IsWellFormed, IsElementOf, JoinsTwo, IsSourceOf}
use Rattle.sync_topo.specs.Indexed.{topology}

-- the parts make a plan that keeps every rule, and the indexes are those of what it holds
pub record IsIndexed (parts : PlanTables) : Type 0 where
  pub well_formed : IsWellFormed (topology parts)
  pub element_names_kept : parts.element_names ≡ element_names parts.elements.items
  pub link_names_kept : parts.link_names ≡ link_names parts.links.items
  pub source_names_kept : parts.source_names ≡ source_names parts.sources.items
  pub bundles_kept : AreBundlesOf parts.bundles.names parts.bundles.firsts.items parts.bundles.numbers.items parts.links.items
  pub wired : IsWired (topology parts) parts.wiring

-- the element may come next
pub record MayJoin (plan : Topology) (element : Element) : Type 0 where
  pub named : IsTrue (is_name element.name)
  pub fresh : is_named (element_names plan.elements) element.name ≡ false
  pub fits : IsElementOf plan.option element

-- the link may come next
pub record MayLink (plan : Topology) (link : Link) : Type 0 where
  pub named : IsTrue (is_name link.name)
  pub fresh : is_named (link_names plan.links) link.name ≡ false
  pub joins : JoinsTwo (length plan.elements) link
  pub bundle_fits : is_bad_bundle plan.links link ≡ false
  pub room_at_a : IsTrue (has_room (record plan { links = plan.links ++ link ∷ [] }) link.a)
  pub room_at_b : IsTrue (has_room (record plan { links = plan.links ++ link ∷ [] }) link.b)

-- the source may come next
pub record MayFeed (plan : Topology) (source : Source) : Type 0 where
  pub named : IsTrue (is_name source.name)
  pub no_link : is_named (link_names plan.links) source.name ≡ false
  pub fresh : is_named (source_names plan.sources) source.name ≡ false
  pub fits : IsSourceOf plan.option (length plan.elements) source
  pub room : IsTrue (has_room (record plan { sources = plan.sources ++ source ∷ [] }) source.at)
