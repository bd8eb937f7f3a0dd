-- Beside specs/Collecting.antt, under no public clause: what a run and the rows that are collected have to do with all
-- rows that were taken.
use Rattle.std.specs.Prelude.{◌≤◌, ◌<◌, length}
use Rattle.sync_text.specs.Each.{Each}
use Rattle.sync_ql.specs.declared.limits.TheConstants.{LAST_MILLISECOND}
use Rattle.sync_topo.specs.Topology.{Topology}
use Rattle.node_file.specs.NodeRow.{IsRowOf}
use Rattle.node_replay.specs.declared.parts.Collected.{Collected}
use Rattle.node_replay.specs.private.Running.{IsRun}

-- the parts of a replay of an element of the plan, whatever rows came
pub record IsWhole (plan : Topology) (parts : Collected) : Type 0 where
  pub within : parts.element < length plan.elements
  pub until_in_range : parts.until ≤ LAST_MILLISECOND
  pub run : IsRun plan parts.element parts.run
  pub rows : Each (IsRowOf plan parts.element) parts.here
  pub made : parts.run.next ≤ parts.at
  pub at_in_range : parts.at ≤ parts.until
