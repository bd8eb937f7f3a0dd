use Rattle.std.specs.Str.{bytes_eq}
use Rattle.sync_topo.proofs.Lists.{position-map, list_any-map, place_of-names}
use Rattle.sync_topo.proofs.names.Names.place_of.Goals as goal

pub returns-clause-place : goal.returns-clause-place
returns-clause-place c =
    rw (← c.self.view_is, position-map (bytes_eq c.args.name.now) _ c.self.inside.set.keys) c.get_index_of.ensures.index

pub returns-clause-found : goal.returns-clause-found
returns-clause-found c =
    rw (← c.self.view_is, list_any-map (bytes_eq c.args.name.now) _ c.self.inside.set.keys) c.get_index_of.ensures.found

pub returns-clause-named : goal.returns-clause-named
returns-clause-named c =
    place_of-names c.args.self.now c.args.name.now _
    (rw (← c.self.view_is, position-map (bytes_eq c.args.name.now) _ c.self.inside.set.keys) c.get_index_of.ensures.index)
