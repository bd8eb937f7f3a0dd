use Rattle.std.proofs.Common.{◌≡◌, ◌<◌, ℕ, List, length, slice_index_or, IfSome}
use Rattle.sync_topo.specs.declared.event.Event.{Event}
use Rattle.net_rules.specs.Inputs.{IsInputOf}
use Rattle.sync_net.specs.Standing.{StandsFor}
use Rattle.sync_element.specs.ElementState.{ElementState}
use Rattle.settle_trace.specs.Now.{taken_now}
use Rattle.settle_trace.specs.Taking.{IsTaking}
use Rattle.closed_walks.specs.Taking.{taken_in_list}
use Rattle.settle_trace.proofs.taken.taken_inputs.Given as goal

-- the elements behind have what they take
abbrev pub invariant-loop-element : goal.invariant-loop-element
invariant-loop-element l = record {
  count : length l.inputs.items ≡ l.element;
  own : (k : ℕ) → IfSome (taken_in_list l.inputs.items k) (IsInputOf l.net.plan k);
  taking : (k : ℕ) (element : ElementState) → k < l.element → IsTaking l.net.plan k (slice_index_or l.net.elements k element) (taken_in_list l.inputs.items k);
  now : 0 < l.net.next → (all : List Event) → StandsFor l.net all l.net.next → (k : ℕ) → k < l.element → taken_in_list l.inputs.items k ≡ taken_now l.net all k;
}
