use Rattle.std.proofs.Common.{take}
use Rattle.event_sim.specs.private.Showing.{AreSeen}
use Rattle.event_sim.proofs.noting.look_at_evaluated.Given as goal

-- the elements behind were looked at
abbrev pub invariant-loop-element : goal.invariant-loop-element
invariant-loop-element l = AreSeen l.net (take l.element-index l.net.evaluated) l.fn.shown.items l.shown.items l.changed.items
