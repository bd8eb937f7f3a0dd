use Rattle.std.proofs.Common.{refl}
use Rattle.sync_topo.specs.Indexed.{topology}
use Rattle.sync_topo.proofs.Inputs.{inputs-at_a, inputs-at_b}
use Rattle.sync_topo.proofs.parts.PlanTables.has_room_for.Goals as goal

pub returns-then-has_room : goal.returns-then-has_room
returns-then-has_room c =
    let plan = topology c.args.self.now in let apart = c.requires.apart in let none = c.requires.no_sources in
    rw (inputs-at_a plan c.args.link.now none apart, inputs-at_b plan c.args.link.now none apart, ← c.has_room.ensures, c.if-has_room.true) c.has_room-then-has_room.ensures

pub returns-else-has_room : goal.returns-else-has_room
returns-else-has_room c =
    let plan = topology c.args.self.now in let apart = c.requires.apart in let none = c.requires.no_sources in
    rw (inputs-at_a plan c.args.link.now none apart, ← c.has_room.ensures, c.if-has_room.false) refl
