-- What contracts see of an element that is replayed on the bytes of a file.
use Rattle.std.specs.Prelude.{◌≤◌, ℕ, Bool, List}
use Rattle.sync_text.specs.Each.{Each}
use Rattle.node_file.specs.declared.row.NodeRow.{NodeRow}
use Rattle.node_file.specs.Cutting.{LinesRead, HaveRead}
use Rattle.node_replay.specs.Rows.{IsRowList}
use Rattle.node_replay.specs.ReplayState.{ReplayState, StandsFor}

-- the lines that are read, the replay of their rows, and whether the bytes were refused or it is out of memory
pub record NodeState : Type 0 where
  pub lines : LinesRead
  pub replay : ReplayState
  pub spent : Bool

-- just these bytes were fed: their lines were read, they gave rows, and the replay stands for these
pub record AreFed (lines : LinesRead) (replay : ReplayState) (bytes : List ℕ) : Type 0 where
  pub rows : List NodeRow
  pub read : HaveRead lines bytes rows
  pub stands : StandsFor replay rows
  pub listed : IsRowList lines.plan lines.element rows
  pub before : Each (λ row. row.at ≤ lines.before) rows

abbrev pub WasFed : NodeState → List ℕ → Type 0
WasFed node bytes = AreFed node.lines node.replay bytes
