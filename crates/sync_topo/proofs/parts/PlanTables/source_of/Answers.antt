use Rattle.std.proofs.Common.{rules}
use Rattle.sync_topo.specs.Indexed.{topology}
use Rattle.sync_topo.proofs.EndRules.{source-ends-told, no-room-at-told}
use Rattle.sync_topo.proofs.parts.PlanTables.source_of.Goals as goal

pub returns-in-Err-clause-rules : goal.returns-in-Err-clause-rules
returns-in-Err-clause-rules c = source-ends-told (topology c.args.self.now) c.args.row c.in-Err.error c.in-Err.ensures.rules

pub returns-then-not-has_room_at-clause-rules : goal.returns-then-not-has_room_at-clause-rules
returns-then-not-has_room_at-clause-rules c =
    no-room-at-told (topology c.args.self.now) c.args.row c.row_after-place.result (search rules) c.in-Ok.ensures.rules (search rules)
