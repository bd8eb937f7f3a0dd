use Rattle.std.proofs.Common.{◌≡◌, ◌<◌, ℕ, true}
use Rattle.sync_topo.specs.Lines.{IsNominated}
use Rattle.protection.specs.Orderly.{stands_apart}
use Rattle.protection.proofs.orderly.stand_apart.Given as goal

abbrev pub invariant-loop-number : goal.invariant-loop-number
invariant-loop-number l = (line : ℕ) → line < l.number → IsNominated l.plan line → stands_apart l.plan line ≡ true
