use Rattle.std.proofs.Common.{◌≡◌, ◌+◌, ◌-◌, ℕ, false, List, length}
use Rattle.sync_topo.specs.declared.event.Event.{Event}
use Rattle.event_times.specs.EventTimes.{AreTold, AreAhead}
use Rattle.sync_net.specs.NetState.{NetState}
use Rattle.sync_net.specs.Standing.{StandsFor}
use Rattle.sync_sweep.specs.private.Branching.{IsBranch, AreMarksOf}
use Rattle.sync_sweep.specs.private.Spells.{AreNoneUnmarked, AreCountedSo}
use Rattle.sync_sweep.proofs.branch.run_events.Given as goal

-- for all events of which those that are given stand here, those that are left are ahead, and the
-- network stands for them
abbrev pub invariant-loop-now : goal.invariant-loop-now
invariant-loop-now g l = record {
  plan : l.branch.net.plan ≡ l.fn.branch.net.plan;
  marks : AreMarksOf l.branch.net.plan l.branch.touched;
  shown : l.branch.shown ≡ l.fn.branch.shown;
  live : l.branch.net.spent ≡ false;
  next : l.branch.net.next ≡ l.moments.next;
  until : l.moments.until ≡ l.until;
  ahead : (all : List Event) → AreTold l.fn.branch.net.plan all l.fn.from l.until l.events → AreAhead l.fn.branch.net.plan all l.moments;
  stands : (all : List Event) → AreTold l.fn.branch.net.plan all l.fn.from l.until l.events → StandsFor l.fn.branch.net all l.fn.from
      → StandsFor l.branch.net all l.moments.next;
  spells : length l.branch.spells.items ≡ length l.fn.branch.spells.items;
  unmarked : AreNoneUnmarked l.fn.branch.touched l.fn.branch.spells.items → AreNoneUnmarked l.branch.touched l.branch.spells.items;
  counted : (all : List Event) (before : ℕ) → AreTold l.fn.branch.net.plan all l.fn.from l.until l.events → StandsFor l.fn.branch.net all l.fn.from
      → AreCountedSo l.fn.branch.net l.fn.branch.shown.levels all before l.fn.from l.fn.branch.spells.items
      → AreCountedSo l.branch.net l.fn.branch.shown.levels all before l.moments.next l.branch.spells.items;
  branch : (base : NetState) → IsBranch base l.fn.branch.net l.fn.branch.touched → IsBranch base l.branch.net l.branch.touched;
}

abbrev pub decreases-loop-now : goal.decreases-loop-now
decreases-loop-now g l = l.moments.until + 1 - l.moments.next
