use Rattle.std.proofs.Common.{◌≡◌, ◌<◌, ℕ, true}
use Rattle.sync_topo.specs.Lines.{sender_of, receiver_of, IsNominated}
use Rattle.nominate.specs.HopCount.{count_at, is_one_less}
use Rattle.protection.specs.Orderly.{is_first_choice}
use Rattle.protection.proofs.orderly.come_by_fewest.Given as goal

abbrev pub invariant-loop-number : goal.invariant-loop-number
invariant-loop-number l =
    (line : ℕ) → line < l.number → IsNominated l.plan line → is_first_choice l.plan line ≡ true
    → is_one_less (count_at l.hops (sender_of l.plan line)) (count_at l.hops (receiver_of l.plan line)) ≡ true
