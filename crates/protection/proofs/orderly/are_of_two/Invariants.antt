use Rattle.std.proofs.Common.{◌≡◌, ◌<◌, ◌⊎◌, ℕ}
use Rattle.sync_topo.specs.Lines.{receiver_of, IsNominated}
use Rattle.sync_topo.specs.Bundles.{line_bundle}
use Rattle.protection.specs.private.Trying.{bundle_at}
use Rattle.protection.proofs.orderly.are_of_two.Given as goal

abbrev pub invariant-loop-number : goal.invariant-loop-number
invariant-loop-number l =
    (line : ℕ) → line < l.number → IsNominated l.plan line
    → (line_bundle l.plan line ≡ bundle_at l.firsts (receiver_of l.plan line)) ⊎ (line_bundle l.plan line ≡ bundle_at l.seconds (receiver_of l.plan line))
