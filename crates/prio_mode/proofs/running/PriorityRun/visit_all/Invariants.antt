use Rattle.std.proofs.Common.{take}
use Rattle.prio_mode.specs.private.Visiting.{AreVisited}
use Rattle.prio_mode.proofs.running.PriorityRun.visit_all.Given as goal

-- those behind were visited
abbrev pub invariant-loop-element : goal.invariant-loop-element
invariant-loop-element l =
    AreVisited l.plan l.now (take l.element-index l.order) l.fn.self l.self l.fn.text l.text
