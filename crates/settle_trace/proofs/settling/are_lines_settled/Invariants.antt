use Rattle.std.proofs.Common.{◌<◌, ◌-◌, ℕ, List}
use Rattle.sync_topo.specs.declared.event.Event.{Event}
use Rattle.sync_topo.specs.Lines.{IsNominated}
use Rattle.sync_net.specs.Standing.{StandsFor}
use Rattle.settle_trace.specs.Now.{signals_of, out_of}
use Rattle.settle_trace.specs.private.Resting.{IsLineSettled}
use Rattle.settle_trace.proofs.settling.are_lines_settled.Given as goal

-- the lines behind are settled
abbrev pub invariant-loop-number : goal.invariant-loop-number
invariant-loop-number l = (all : List Event) → StandsFor l.net all l.net.next
    → (k : ℕ) → k < l.number → IsNominated l.net.plan k → IsLineSettled l.net.plan (signals_of l.net all) (out_of l.net all) (l.net.next - 1) k
