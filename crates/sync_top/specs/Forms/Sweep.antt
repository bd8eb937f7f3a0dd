-- The answer to `sweep`.
use Rattle.std.specs.Prelude.{◌≡◌, ℕ, List}
use Rattle.sync_topo.specs.Topology.{Topology}
use Rattle.sync_sweep.specs.declared.row.SweepRow.{SweepRow}
use Rattle.sync_sweep.specs.Sweep.{AreSweepRows}
use Rattle.sync_sweep.specs.SweepText.{table_text}
use Rattle.sync_top.specs.declared.status.Status.{Status}
use Rattle.sync_top.specs.declared.status.Status.TheVariants.{Done}

-- the table of a plan's rows
abbrev pub IsSweepTable : Topology → ℕ → ℕ → Status → List ℕ → Type 0
IsSweepTable plan at until status text =
    (status ≡ Done) × ((rows : List SweepRow) × AreSweepRows plan at until rows × (text ≡ table_text plan rows))
