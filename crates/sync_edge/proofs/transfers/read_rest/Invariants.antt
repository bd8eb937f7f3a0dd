use Rattle.std.proofs.Common.{◌≡◌, ◌+◌, ◌-◌, ◌≤◌, length}
use Rattle.sync_edge.specs.Transfers.{piece_size}
use Rattle.sync_edge.proofs.SoFar.{ReadsSoFar}
use Rattle.sync_edge.proofs.transfers.read_rest.Given as goal

abbrev pub invariant-loop-folder : goal.invariant-loop-folder
invariant-loop-folder g l =
    let F = g.F.Folder in
    ReadsSoFar F.contents F.left F.steady F.faults F.tries l.fn.folder l.folder l.text
    × (length l.piece ≡ piece_size) × (length l.text ≤ l.limit + piece_size)

abbrev pub decreases-loop-folder : goal.decreases-loop-folder
decreases-loop-folder g l = l.limit + 1 - length l.text
