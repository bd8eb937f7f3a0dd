use Rattle.std.proofs.Common.{rules}
use Rattle.sync_topo.specs.Indexed.{topology}
use Rattle.sync_topo.proofs.EndRules.{link-ends-told, bad-bundle-told, no-room-told}
use Rattle.sync_topo.proofs.parts.PlanTables.link_of.Goals as goal

pub returns-in-Err-clause-rules : goal.returns-in-Err-clause-rules
returns-in-Err-clause-rules c = link-ends-told (topology c.args.self.now) c.args.row c.in-Err.error c.in-Err.ensures.rules

pub returns-then-not-may_bundle-clause-rules : goal.returns-then-not-may_bundle-clause-rules
returns-then-not-may_bundle-clause-rules c =
    bad-bundle-told (topology c.args.self.now) c.args.row c.row_after-place.result (search rules) c.in-Ok.ensures.rules (search rules)

pub returns-then-not-has_room_for-clause-rules : goal.returns-then-not-has_room_for-clause-rules
returns-then-not-has_room_for-clause-rules c =
    no-room-told (topology c.args.self.now) c.args.row c.row_after-place.result (search rules) c.in-Ok.ensures.rules (search rules) (search rules)
