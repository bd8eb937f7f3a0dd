use Rattle.std.proofs.Common.{◌≡◌, map, length}
use Rattle.closed_walks.specs.Taking.{taken_in_list}
use Rattle.sync_topo.specs.Lines.{numbers}
use Rattle.closed_walks.specs.private.Listing.{AreListed}
use Rattle.closed_walks.proofs.listing.walks_of.Given as goal

-- all that begin with a line behind are listed
abbrev pub invariant-loop-number : goal.invariant-loop-number
invariant-loop-number l = record {
  marks : length l.listed.items ≡ length l.plan.elements;
  are : AreListed l.plan (taken_in_list l.taken) l.number l.listed.items (map numbers l.walks);
}
