use Rattle.std.proofs.Common.{◌≡◌, ◌++◌, drop}
use Rattle.sync_sweep.specs.Cases.{merged}
use Rattle.sync_sweep.proofs.cases.merge.Given as goal

-- what is put and what is left are all of them
abbrev pub invariant-loop-event : goal.invariant-loop-event
invariant-loop-event l = merged l.common l.own ≡ l.all ++ merged (drop l.event-index l.common) l.left
