use Rattle.std.proofs.Common.{◌≡◌, true, take}
use Rattle.std.specs.List.{list_all}
use Rattle.sync_topo.specs.Hops.{comes_first}
use Rattle.sync_topo.proofs.plan.Plan.last_resort.Given as goal

abbrev pub invariant-loop-input : goal.invariant-loop-input
invariant-loop-input l = list_all (comes_first l.self l.line.0) (take l.input-index l.inputs) ≡ true
