-- A trace by a list of what is taken is one of the millisecond of the last step.
use Rattle.std.proofs.Common.{◌≡◌, ℕ, List, [], ◌∷◌, Option, sym, subst, ◌∙◌}
use Rattle.sync_text.proofs.Each.{Each-map}
use Rattle.sync_text.specs.Each.{Each}
use Rattle.sync_topo.specs.declared.input.InputId.{InputId}
use Rattle.sync_topo.specs.declared.event.Event.{Event}
use Rattle.sync_topo.specs.Topology.{Topology}
use Rattle.sync_topo.specs.Lines.{receiver_of}
use Rattle.net_rules.specs.Walks.{Taken, IsTaken, IsClosedWalk, IsFacingPair, TraceEnd, IsTrace}
use Rattle.closed_walks.specs.Loops.{IsLoop, AreLoops}
use Rattle.sync_net.specs.NetState.{NetState}
use Rattle.sync_net.specs.Standing.{StandsFor}
use Rattle.settle_trace.specs.Now.{taken_now}
use Rattle.closed_walks.specs.Taking.{taken_in_list}
use Rattle.closed_walks.proofs.FollowLaws.{same-trace}

pub trace-now : (net : NetState) (plan : Topology) (inputs items : List (Option InputId)) (element : ℕ) (lines : List ℕ) (end : TraceEnd)
    → plan ≡ net.plan → inputs ≡ items
    → ((all : List Event) → StandsFor net all net.next → (k : ℕ) → taken_in_list items k ≡ taken_now net all k)
    → IsTrace plan (taken_in_list inputs) element lines end
    → (all : List Event) → StandsFor net all net.next → IsTrace net.plan (taken_now net all) element lines end
trace-now net plan inputs items element lines end same_plan same_inputs now trace all stands =
    same-trace net.plan (taken_in_list items) (taken_now net all) element lines end (now all stands)
    (subst (λ xs. IsTrace net.plan (taken_in_list xs) element lines end) same_inputs
    (subst (λ p. IsTrace p (taken_in_list inputs) element lines end) same_plan trace))

-- so are the closed walks
same-walk : (plan : Topology) (taken others : Taken) (lines : List ℕ) → ((k : ℕ) → taken k ≡ others k) → IsClosedWalk plan taken lines → IsClosedWalk plan others lines
same-walk plan taken others [] same walk = walk
same-walk plan taken others (first ∷ rest) same walk = record {
  joined = walk.joined;
  each_taken = Each-map (IsTaken plan taken) (IsTaken plan others) (λ line is. sym (same (receiver_of plan line)) ∙ is) (first ∷ rest) walk.each_taken;
  apart = walk.apart;
}

same-loops : (plan : Topology) (taken others : Taken) (walks : List (List ℕ)) → ((k : ℕ) → taken k ≡ others k) → AreLoops plan taken walks → AreLoops plan others walks
same-loops plan taken others walks same loops = record {
  each = Each-map (IsLoop plan taken) (IsLoop plan others) (λ walk loop. (same-walk plan taken others walk same loop.0, loop.1)) walks loops.each;
  all = λ lines loop. loops.all lines (same-walk plan others taken lines (λ k. sym (same k)) loop.0, loop.1);
  in_order = loops.in_order;
}

pub loops-now : (net : NetState) (plan : Topology) (inputs items : List (Option InputId)) (walks : List (List ℕ))
    → plan ≡ net.plan → inputs ≡ items
    → ((all : List Event) → StandsFor net all net.next → (k : ℕ) → taken_in_list items k ≡ taken_now net all k)
    → AreLoops plan (taken_in_list inputs) walks
    → (all : List Event) → StandsFor net all net.next → AreLoops net.plan (taken_now net all) walks
loops-now net plan inputs items walks same_plan same_inputs now loops all stands =
    same-loops net.plan (taken_in_list items) (taken_now net all) walks (now all stands)
    (subst (λ xs. AreLoops net.plan (taken_in_list xs) walks) same_inputs
    (subst (λ p. AreLoops p (taken_in_list inputs) walks) same_plan loops))

-- where each closed walk is a facing pair, so is each of a list
pub loops-facing : (plan : Topology) (taken : Taken) (walks : List (List ℕ)) → ((lines : List ℕ) → IsClosedWalk plan taken lines → IsFacingPair plan lines)
    → AreLoops plan taken walks → Each (IsFacingPair plan) walks
loops-facing plan taken walks pairs loops = Each-map (IsLoop plan taken) (IsFacingPair plan) (λ walk loop. pairs walk loop.0) walks loops.each
