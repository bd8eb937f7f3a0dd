-- Beside specs/NodeRow.antt, under no public clause: what one element is told and receives, a row for each: its past in
-- a file.
use Rattle.std.specs.Prelude.{◌≡◌, ℕ, nat_le, List, filter}
use Rattle.sync_ql.specs.declared.levels.NetOption.{NetOption}
use Rattle.sync_topo.specs.declared.input.LineId.{LineId}
use Rattle.sync_ql.specs.Told.{IsOfOption}
use Rattle.node_file.specs.declared.row.NodeWord.{NodeWord}
use Rattle.node_file.specs.declared.row.NodeWord.TheVariants.{Frame, Happens}
use Rattle.node_file.specs.declared.row.NodeRow.{NodeRow}

abbrev pub rows_until : ℕ → List NodeRow → List NodeRow
rows_until until rows = filter (λ row. nat_le row.at until) rows

-- a frame on a line says a level of an option, or none
abbrev pub IsOnLine : NetOption → LineId → NodeWord → Type 0
IsOnLine option line (Frame other level) = (other ≡ line) × IsOfOption option level
IsOnLine option line (Happens what) = ⊥
