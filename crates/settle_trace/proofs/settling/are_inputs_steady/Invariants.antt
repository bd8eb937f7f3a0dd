use Rattle.std.proofs.Common.{◌<◌, ◌-◌, ℕ, List}
use Rattle.sync_topo.specs.declared.event.Event.{Event}
use Rattle.sync_net.specs.Standing.{StandsFor}
use Rattle.settle_trace.specs.Now.{signals_of}
use Rattle.settle_trace.specs.private.Resting.{AreSteady}
use Rattle.settle_trace.proofs.settling.are_inputs_steady.Given as goal

-- the inputs of the elements behind are steady
abbrev pub invariant-loop-element : goal.invariant-loop-element
invariant-loop-element l = (all : List Event) → StandsFor l.net all l.net.next
    → (k : ℕ) → k < l.element → AreSteady l.net.plan (signals_of l.net all) (l.net.next - 1) k
