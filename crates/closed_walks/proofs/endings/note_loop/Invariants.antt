use Rattle.std.proofs.Common.{◌≡◌, ◌<◌, ℕ, length}
use Rattle.std.specs.Prelude.{Some}
use Rattle.sync_topo.specs.Lines.{line_input, receiver_of}
use Rattle.net_rules.specs.GoingBack.{line_before, ComesBack}
use Rattle.closed_walks.specs.Taking.{taken_in_list}
use Rattle.closed_walks.proofs.KnownLaws.{AreNoted}
use Rattle.closed_walks.proofs.endings.note_loop.Given as goal

-- the elements behind are noted
abbrev pub invariant-loop-line : goal.invariant-loop-line
invariant-loop-line l = record {
  within : l.at < length l.plan.elements;
  count : length l.known ≡ length l.plan.elements;
  noted : (line : ℕ) → taken_in_list l.taken l.element ≡ Some (line_input line)
      → ComesBack l.plan (taken_in_list l.taken) l.count line
      → AreNoted l.plan (taken_in_list l.taken) line l._line l.initial.known l.known
      × (l.at ≡ receiver_of l.plan (line_before l.plan (taken_in_list l.taken) l._line line));
}
