use Rattle.std.specs.Str.{bytes_eq}
use Rattle.sync_topo.proofs.Lists.{list_any-map}
use Rattle.sync_topo.proofs.names.Names.has.Goals as goal

pub returns : goal.returns
returns c = rw (← c.self.view_is, list_any-map (bytes_eq c.args.name.now) _ c.self.inside.set.keys) c.contains.ensures
