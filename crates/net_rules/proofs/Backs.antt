-- What is used of ways back: three facts, which are all that bundles change.
use Rattle.std.proofs.Common.{◌≡◌, ◌⊎◌, ℕ, Bool, true, false, not, ◌&&◌, ◌==◌, refl, sym, ◌∙◌, inl, inr}
use Rattle.std.specs.Prelude.{IsTrue}
use Rattle.std.proofs.lemmas.Bool.{and_parts, true≢false, eq-eqb}
use Rattle.sync_topo.specs.Topology.{Topology}
use Rattle.sync_topo.specs.Lines.{sender_of, receiver_of, is_nominated, IsNominated}
use Rattle.sync_topo.specs.Bundles.{are_bundled}
use Rattle.sync_topo.specs.Hops.{goes_back, Hops}
use Rattle.sync_topo.specs.WellFormed.{IsWellFormed}
use Rattle.sync_topo.proofs.LineLaws.{IsNominated-within}
use Rattle.sync_topo.proofs.BundleLaws.{back-ends_where_begins, back-sym, back-apart}
use Rattle.net_rules.specs.Walks.{Joins}

-- it ends where the line begins
pub back-receiver : (plan : Topology) (line back : ℕ) → IsWellFormed plan → IsNominated plan line → IsNominated plan back
    → IsTrue (goes_back plan line back) → receiver_of plan back ≡ sender_of plan line
back-receiver plan line back well line_nominated back_nominated goes =
    back-ends_where_begins plan line back well (IsNominated-within plan line line_nominated) (IsNominated-within plan back back_nominated) goes

-- the line goes back from it
pub back-again : (plan : Topology) (line back : ℕ) → IsWellFormed plan → IsNominated plan line → IsNominated plan back
    → IsTrue (goes_back plan line back) → IsTrue (goes_back plan back line)
back-again plan line back well line_nominated back_nominated goes =
    back-sym plan line back well (IsNominated-within plan line line_nominated) (IsNominated-within plan back back_nominated) goes

-- no line goes back from itself
pub back-other : (plan : Topology) (line : ℕ) → IsWellFormed plan → IsNominated plan line → IsTrue (goes_back plan line line) → ⊥
back-other plan line well nominated goes =
    true≢false (sym goes ∙ back-apart plan line well (IsNominated-within plan line nominated))

-- where a nominated line ends and another begins, the first hops to the second, or the second goes back
pub hop-or_back : (plan : Topology) (line next : ℕ) → IsNominated plan line → IsNominated plan next → Joins plan line next
    → Hops plan line next ⊎ IsTrue (goes_back plan line next)
hop-or_back plan line next line_nominated next_nominated joins =
    by (are_bundled plan line next) refl (eq-eqb (receiver_of plan line) (sender_of plan next) joins)
  where
    by : (bundled : Bool) → are_bundled plan line next ≡ bundled → (receiver_of plan line == sender_of plan next) ≡ true
        → Hops plan line next ⊎ IsTrue (goes_back plan line next)
    by true is meets = inr (rw (meets, is) refl)
    by false is meets = inl (rw (line_nominated, next_nominated, meets, is) refl)

-- what hops is nominated
pub hop-nominated : (plan : Topology) (line next : ℕ) → Hops plan line next → IsNominated plan line
hop-nominated plan line next hop =
    let ends = and_parts (is_nominated plan line && is_nominated plan next && receiver_of plan line == sender_of plan next) (not (are_bundled plan line next)) hop in
    let both = and_parts (is_nominated plan line && is_nominated plan next) (receiver_of plan line == sender_of plan next) ends.0 in
    (and_parts (is_nominated plan line) (is_nominated plan next) both.0).0

pub hop-nominates : (plan : Topology) (line next : ℕ) → Hops plan line next → IsNominated plan next
hop-nominates plan line next hop =
    let ends = and_parts (is_nominated plan line && is_nominated plan next && receiver_of plan line == sender_of plan next) (not (are_bundled plan line next)) hop in
    let both = and_parts (is_nominated plan line && is_nominated plan next) (receiver_of plan line == sender_of plan next) ends.0 in
    (and_parts (is_nominated plan line) (is_nominated plan next) both.0).1
