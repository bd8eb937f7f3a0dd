-- What a plan holds, as every definition sees it.
use Rattle.std.specs.Prelude.{List}
use Rattle.sync_ql.specs.declared.levels.NetOption.{NetOption}
use Rattle.sync_topo.specs.declared.element.Element.{Element}
use Rattle.sync_topo.specs.declared.link.Link.{Link}
use Rattle.sync_topo.specs.declared.source.Source.{Source}

-- the network option, the network elements, the links between them and the sources at them, each numbered from 0 in the order of the plan
pub record Topology : Type 0 where
  pub option : NetOption
  pub elements : List Element
  pub links : List Link
  pub sources : List Source
