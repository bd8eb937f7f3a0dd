use Rattle.std.proofs.Common.{◌≡◌, ◌++◌, vec_len}
use Rattle.sync_topo.specs.Lines.{numbers}
use Rattle.closed_walks.specs.private.Listing.{backwards}
use Rattle.closed_walks.proofs.listing.reversed.Given as goal

abbrev pub invariant-loop-line : goal.invariant-loop-line
invariant-loop-line l = numbers l.walk ++ backwards l.lines.items ≡ backwards l.initial.lines.items

abbrev pub decreases-loop-line : goal.decreases-loop-line
decreases-loop-line l = vec_len l.lines
