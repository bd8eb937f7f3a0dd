-- What one element sends for a file is one answer.
use Rattle.std.proofs.Common.{ℕ, List, sym, ap, ◌∙◌}
use Rattle.sync_topo.specs.Topology.{Topology}
use Rattle.node_file.specs.declared.row.NodeRow.{NodeRow}
use Rattle.node_rules.specs.NodeText.{stopped_text}
use Rattle.node_replay.proofs.OneText.{not-both, one-last}
use Rattle.sync_top.specs.Forms.Node.{AreAllFrames, AreFirstFrames, AreFramesSent}
use Rattle.sync_top.proofs.OneEnd.{IsOne, one-stopped}

pub one_sent : (plan : Topology) (element : ℕ) (rows : List NodeRow) (until : ℕ) → IsOne (AreFramesSent plan element rows until)
one_sent plan element rows until =
    one-stopped (AreAllFrames plan element rows until) (AreFirstFrames plan element rows until)
    (λ text another one two. one.1 ∙ sym two.1)
    (λ text another one two.
    one.2 ∙ ap (stopped_text plan rows element) (one-last plan rows element one.0 two.0 until one.1 two.1) ∙ sym two.2)
    (λ text another whole cut. not-both plan rows element cut.0 until whole.0 cut.1)
