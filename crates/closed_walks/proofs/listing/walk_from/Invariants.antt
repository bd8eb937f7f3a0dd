use Rattle.std.proofs.Common.{◌≡◌, ◌<◌, length}
use Rattle.sync_topo.specs.Lines.{sender_of}
use Rattle.net_rules.specs.GoingBack.{line_before, lines_before}
use Rattle.closed_walks.specs.Taking.{taken_in_list}
use Rattle.closed_walks.specs.private.Listing.{backwards, AreMarked}
use Rattle.closed_walks.proofs.listing.walk_from.Given as goal

-- the lines so far are those before the first
abbrev pub invariant-loop-line : goal.invariant-loop-line
invariant-loop-line l = record {
  within : l.at < length l.plan.elements;
  here : l.at ≡ sender_of l.plan (line_before l.plan (taken_in_list l.taken) l._line l.fn.first.0);
  lines : backwards l.lines ≡ lines_before l.plan (taken_in_list l.taken) l._line l.fn.first.0;
  marked : AreMarked l.plan (taken_in_list l.taken) l.fn.first.0 l._line l.initial.listed l.listed;
}
