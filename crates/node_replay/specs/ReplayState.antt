-- What contracts see of a replay.
use Rattle.std.specs.Prelude.{ℕ, Bool, List}
use Rattle.sync_topo.specs.Topology.{Topology}
use Rattle.node_file.specs.declared.row.NodeRow.{NodeRow}
use Rattle.node_replay.specs.declared.parts.Collected.{Collected}
use Rattle.node_replay.specs.Collecting.{IsAfter}

-- the plan, the number of the element, the last millisecond, whether it is out of memory, and what it keeps, into which no
-- clause looks: of that `StandsFor` speaks alone
pub record ReplayState : Type 0 where
  pub plan : Topology
  pub element : ℕ
  pub until : ℕ
  pub spent : Bool
  pub kept : Collected

-- it stands for the rows that it took. What that says of what it keeps is known to this crate alone: others take it from
-- one call to the next
unfoldable pub StandsFor : ReplayState → List NodeRow → Type 0
StandsFor replay rows = IsAfter replay.plan replay.kept rows
