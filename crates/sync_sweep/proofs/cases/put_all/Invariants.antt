use Rattle.std.proofs.Common.{◌≡◌, ◌++◌, take}
use Rattle.sync_sweep.proofs.cases.put_all.Given as goal

abbrev pub invariant-loop-event : goal.invariant-loop-event
invariant-loop-event l = l.all ≡ l.fn.all ++ take l.event-index l.more
