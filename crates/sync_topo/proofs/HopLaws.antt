-- Hops by either rule of returns.
use Rattle.std.proofs.Common.{◌≡◌, ◌<◌, ℕ, true, ◌&&◌, ◌==◌, not}
use Rattle.std.specs.Cmp.Derive.{both_true}
use Rattle.std.proofs.lemmas.Bool.{and_parts, eqb-true, eq-eqb}
use Rattle.sync_topo.specs.declared.returns.ReturnRule.{ReturnRule}
use Rattle.sync_topo.specs.declared.returns.ReturnRule.TheVariants.{Barred, Allowed, BarredFromLast}
use Rattle.sync_topo.specs.Topology.{Topology}
use Rattle.sync_topo.specs.Lines.{line_count, sender_of, receiver_of, is_nominated}
use Rattle.sync_topo.specs.Bundles.{are_bundled}
use Rattle.sync_topo.specs.Hops.{hops_any, is_last_resort, HopsBy}
use Rattle.sync_topo.proofs.LineLaws.{IsNominated-within}

-- a hop by either rule is one where returns are allowed
pub hop-any : (returns : ReturnRule) (plan : Topology) (line next : ℕ) → HopsBy returns plan line next → hops_any plan line next ≡ true
hop-any Barred plan line next hop =
    (and_parts (is_nominated plan line && is_nominated plan next && receiver_of plan line == sender_of plan next) (not (are_bundled plan line next)) hop).0
hop-any Allowed plan line next hop = hop
hop-any BarredFromLast plan line next bears = (and_parts (hops_any plan line next) (not (are_bundled plan line next && is_last_resort plan line)) bears).0

-- both of its lines are nominated, and the second begins where the first ends
pub record Meets (plan : Topology) (line next : ℕ) : Type 0 where
  pub from : is_nominated plan line ≡ true
  pub to : is_nominated plan next ≡ true
  pub joined : receiver_of plan line ≡ sender_of plan next

pub hop-meets : (returns : ReturnRule) (plan : Topology) (line next : ℕ) → HopsBy returns plan line next → Meets plan line next
hop-meets returns plan line next hop =
    let meet = and_parts (is_nominated plan line && is_nominated plan next) (receiver_of plan line == sender_of plan next) (hop-any returns plan line next hop) in
    let both = and_parts (is_nominated plan line) (is_nominated plan next) meet.0 in
    record { from = both.0; to = both.1; joined = eqb-true (receiver_of plan line) (sender_of plan next) meet.1 }

-- so both are lines of the plan
pub lines-of-hop : (returns : ReturnRule) (plan : Topology) (line next : ℕ) → HopsBy returns plan line next → (line < line_count plan) × (next < line_count plan)
lines-of-hop returns plan line next hop =
    let meets = hop-meets returns plan line next hop in (IsNominated-within plan line meets.from, IsNominated-within plan next meets.to)

-- nominated lines that join are a hop where returns are allowed
pub hop-any-from : (plan : Topology) (line next : ℕ) → is_nominated plan line ≡ true → is_nominated plan next ≡ true → receiver_of plan line ≡ sender_of plan next
    → hops_any plan line next ≡ true
hop-any-from plan line next from to joined =
    both_true {s = is_nominated plan line && is_nominated plan next} {t = receiver_of plan line == sender_of plan next}
    (both_true {s = is_nominated plan line} {t = is_nominated plan next} from to) (eq-eqb (receiver_of plan line) (sender_of plan next) joined)
