use Rattle.std.proofs.Common.{◌≡◌, false, take}
use Rattle.sync_topo.specs.private.Naming.{has_sign}
use Rattle.sync_topo.proofs.plan.naming.cut_at_sign.Given as goal

abbrev pub invariant-loop-i : goal.invariant-loop-i
invariant-loop-i l = has_sign (take l.i l.name) ≡ false
