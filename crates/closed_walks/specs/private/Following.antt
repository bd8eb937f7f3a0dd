-- Beside specs/Following.antt, under no public clause: lines that are followed from an element on, and marks on the
-- elements passed.
use Rattle.std.specs.Prelude.{ℕ, Bool, List, ◌++◌}
use Rattle.sync_topo.specs.declared.input.LineId.{LineId}
use Rattle.sync_topo.specs.Topology.{Topology}
use Rattle.sync_topo.specs.Lines.{numbers}
use Rattle.net_rules.specs.Walks.{Taken, TraceEnd, IsTraceAfter}
use Rattle.closed_walks.specs.Following.{AreMet}

-- from an element on, with some passed before it, these lines were followed to another
pub record IsOnTrace (plan : Topology) (taken : Taken) (before : List ℕ) (from : ℕ) (met : List Bool) (lines : List LineId) (at : ℕ) : Type 0 where
  pub passed : List ℕ
  pub marked : AreMet met passed
  pub goes_on : (rest : List ℕ) (end : TraceEnd) → IsTraceAfter plan taken passed at rest end →
      IsTraceAfter plan taken before from (numbers lines ++ rest) end
