use Rattle.std.proofs.Common.{◌≡◌, ◌≤◌, ◌+◌, ◌-◌, List}
use Rattle.std.specs.List.{All}
use Rattle.event_sim.specs.Changes.{IsChangeOf}
use Rattle.sync_topo.specs.declared.event.Event.{Event}
use Rattle.event_times.specs.EventTimes.{AreTold, AreAhead}
use Rattle.event_sim.specs.private.Running.{IsOpen, IsKeptBy, RunStands, IsBound}
use Rattle.event_sim.proofs.running.Run.advance.Given as goal

-- the run may go on; and for all events of which those that are given stand here, those that are left
-- are ahead, the run stands for them, and cost no more than it may
abbrev pub invariant-loop-now : goal.invariant-loop-now
invariant-loop-now g l = record {
  open_still : IsOpen l.self;
  of_plan : All (IsChangeOf l.self.net.plan) l.self.changes.items;
  kept : IsKeptBy l.fn.self l.self;
  next : l.moments.next ≡ l.self.net.next;
  until : l.moments.until ≡ l.until;
  from : l.fn.self.net.next ≤ l.self.net.next;
  ahead : (all : List Event) → AreTold l.fn.self.net.plan all l.fn.self.net.next l.until l.events → AreAhead l.fn.self.net.plan all l.moments;
  stands : (all : List Event) → AreTold l.fn.self.net.plan all l.fn.self.net.next l.until l.events
      → RunStands l.fn.self.watch l.fn.self.net l.fn.self.changes.items all l.fn.self.net.next
      → RunStands l.self.watch l.self.net l.self.changes.items all l.self.net.next;
  bound : (all : List Event) → AreTold l.fn.self.net.plan all l.fn.self.net.next l.until l.events
      → RunStands l.fn.self.watch l.fn.self.net l.fn.self.changes.items all l.fn.self.net.next
      → IsBound all l.until l.fn.self.net l.self.net l.fn.steps l.steps;
}

abbrev pub decreases-loop-now : goal.decreases-loop-now
decreases-loop-now g l = l.moments.until + 1 - l.moments.next
