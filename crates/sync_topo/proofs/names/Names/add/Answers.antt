use Rattle.sync_topo.proofs.Lists.{inserted}
use Rattle.sync_topo.proofs.names.Names.add.Goals as goal

pub returns : goal.returns
returns c =
    rw (← c.self.view_is) (inserted (λ name. name.items) c.self.inside.set.keys _ c.in-Ok.name c.args.name.now c.in-Ok.ensures.items
    (rw (← c.self.view_is) at c.requires) c.in-Ok-insert_full.ensures.keys)
