-- What a run and the rows that are collected have to do with all rows that were taken.
use Rattle.std.specs.Prelude.{◌≡◌, ◌≢◌, ◌≤◌, ℕ, List, [], ◌∷◌, ◌++◌, None}
use Rattle.sync_text.specs.Each.{Each}
use Rattle.sync_topo.specs.Topology.{Topology}
use Rattle.node_file.specs.declared.row.NodeRow.{NodeRow}
use Rattle.node_file.specs.NodeRow.{rows_at}
use Rattle.node_replay.specs.declared.parts.Collected.{Collected}
use Rattle.node_replay.specs.Rows.{IsRowList}
use Rattle.node_replay.specs.Running.{RunHolds}

-- the rows of the millisecond that is collected are kept, and the run is as those before it have it, whatever rows follow
pub record StandsAt (plan : Topology) (parts : Collected) (rows : List NodeRow) : Type 0 where
  pub list : IsRowList plan parts.element rows
  pub here : parts.run.stopped ≡ None → rows_at parts.at rows ≡ parts.here
  pub away : parts.run.stopped ≡ None → (t : ℕ) → parts.run.next ≤ t → t ≤ parts.until → t ≢ parts.at → rows_at t rows ≡ []
  pub holds : (more : List NodeRow) → IsRowList plan parts.element (rows ++ more) → Each (λ row. parts.at ≤ row.at) more
      → RunHolds plan (rows ++ more) parts.element parts.until parts.run.next parts.run parts.run.stopped

-- and no row that may follow comes before that millisecond
pub record IsAfter (plan : Topology) (parts : Collected) (rows : List NodeRow) : Type 0 where
  pub stands : StandsAt plan parts rows
  pub at_least : (row : NodeRow) → IsRowList plan parts.element (rows ++ row ∷ []) → parts.at ≤ row.at
