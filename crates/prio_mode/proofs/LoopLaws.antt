-- Where ranks rise over every hop, elements that choose by priority alone never go round in a loop.
use Rattle.std.proofs.Common.{ℕ, suc, List, [], ◌∷◌}
use Rattle.std.specs.Prelude.{IsTrue}
use Rattle.sync_text.proofs.Each.{Each-map}
use Rattle.sync_text.specs.Each.{Each}
use Rattle.sync_topo.specs.Topology.{Topology}
use Rattle.sync_topo.specs.Lines.{line_input, receiver_of, IsNominated}
use Rattle.sync_topo.specs.Ranks.{Rises, Circles, Leads}
use Rattle.net_rules.specs.Signals.{Signals, signals_by}
use Rattle.net_rules.specs.Walks.{Taken, IsTaken, Joins, IsClosedWalk}
use Rattle.net_rules.proofs.SettingLaws.{taken-own}
use Rattle.net_rules.proofs.WalkLaws.{AreNominated, walks-leads, no_cycle}
use Rattle.sync_topo.specs.Hops.{hops_any}
use Rattle.sync_topo.proofs.HopLaws.{hop-any-from}
use Rattle.prio_mode.specs.PriorityAlone.{priority_settings, priority_past, priority_taken_at, priority_taken_in}
use Rattle.prio_mode.specs.PriorityLoops.{NeverLoops}

-- a line that is taken is nominated
pub taken-nominated : (plan : Topology) (signals : Signals) (t : ℕ) → AreNominated plan (priority_taken_in plan signals t)
unfolding priority_taken_at
taken-nominated plan signals t line taken =
    (taken-own plan (priority_settings plan (receiver_of plan line)) (receiver_of plan line) (priority_past plan signals (receiver_of plan line) (suc t)) (line_input line) taken).nominated

-- lines that are taken and join hop from one to the next
hops_along : (plan : Topology) (line : ℕ) (rest : List ℕ) (end : ℕ) → Each (IsNominated plan) (line ∷ rest) → IsNominated plan end
    → Leads (Joins plan) line rest end → Leads (λ one next. IsTrue (hops_any plan one next)) line rest end
hops_along plan line [] end each last joins = hop-any-from plan line end each.0 last joins
hops_along plan line (next ∷ rest) end each last joins =
    (hop-any-from plan line next each.0 each.1.0 joins.0, hops_along plan next rest end each.1 last joins.1)

-- a closed walk of nominated lines goes round in hops
pub walk-circles : (plan : Topology) (taken : Taken) → AreNominated plan taken → (lines : List ℕ) → IsClosedWalk plan taken lines
    → Circles (hops_any plan) lines
walk-circles plan taken nominated [] walk = walk
walk-circles plan taken nominated (first ∷ rest) walk =
    let each =
    Each-map (IsTaken plan taken) (IsNominated plan) nominated (first ∷ rest) walk.each_taken in
    walks-leads (hops_any plan) first rest first (hops_along plan first rest first each each.0 walk.joined)

pub never_loops : (plan : Topology) (rank : ℕ → ℕ) → Rises (hops_any plan) rank → NeverLoops plan
never_loops plan rank rises events valid t lines walk =
    no_cycle (hops_any plan) rank rises lines
    (walk-circles plan (priority_taken_in plan (signals_by plan events) t) (taken-nominated plan (signals_by plan events) t) lines walk)
