use Rattle.std.proofs.Common.{vec_len}
use Rattle.closed_walks.specs.Taking.{taken_in_list}
use Rattle.closed_walks.specs.private.Known.{IsMoreKnown}
use Rattle.closed_walks.proofs.KnownLaws.{LeadsToKnown}
use Rattle.closed_walks.proofs.endings.note_back.Given as goal

-- the lines left lead to an element that is known
abbrev pub invariant-loop-line : goal.invariant-loop-line
invariant-loop-line l = record {
  more : IsMoreKnown l.plan (taken_in_list l.taken) l.fn.known l.known;
  way : LeadsToKnown l.plan (taken_in_list l.taken) l.known l.element l.lines.items;
}

abbrev pub decreases-loop-line : goal.decreases-loop-line
decreases-loop-line l = vec_len l.lines
