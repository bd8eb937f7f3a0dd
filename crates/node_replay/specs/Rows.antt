-- Lists of rows of one element.
use Rattle.std.specs.Prelude.{◌≤◌, ℕ, List, [], ◌∷◌, ⊤}
use Rattle.sync_text.specs.Each.{Each}
use Rattle.sync_topo.specs.Topology.{Topology}
use Rattle.node_file.specs.declared.row.NodeRow.{NodeRow}
use Rattle.node_file.specs.NodeRow.{IsRowOf}

-- no row is later than one behind it
abbrev pub AreInOrder : List NodeRow → Type 0
AreInOrder [] = ⊤
AreInOrder (row ∷ rows) = Each (λ later. row.at ≤ later.at) rows × AreInOrder rows

-- the rows are of an element, and stand in order of time
pub record IsRowList (plan : Topology) (element : ℕ) (rows : List NodeRow) : Type 0 where
  pub each : Each (IsRowOf plan element) rows
  pub in_order : AreInOrder rows
