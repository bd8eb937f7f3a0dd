-- Beside specs/Table.antt, under no public clause: how a table of candidates is seen, which is as their list.
use Rattle.std.specs.Prelude.{◌≤◌, length}
use Rattle.sync_ql.specs.Selection.{AreOfOneOption}
use Rattle.sync_ql.specs.declared.limits.TheConstants.{MOST_INPUTS}
use Rattle.selector.specs.declared.table.Table.TheInside.{Inside}

-- Private: what is true of every table
pub record IsKept (t : Inside) : Type 0 where
  pub few : length t.inputs.items ≤ MOST_INPUTS
  pub one_option : AreOfOneOption t.inputs.items
