use Rattle.sync_topo.specs.Indexed.{topology}
use Rattle.sync_topo.proofs.Inputs.{inputs-at_source}
use Rattle.sync_topo.proofs.parts.PlanTables.has_room_at.Goals as goal

pub returns : goal.returns
returns c = rw (inputs-at_source (topology c.args.self.now) c.args.source.now) c.has_room.ensures
