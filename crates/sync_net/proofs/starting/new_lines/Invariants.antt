use Rattle.sync_net.specs.private.Beginning.{IsNewPlace}
use Rattle.net_words.specs.NewElements.{AreEach}
use Rattle.sync_net.proofs.starting.new_lines.Given as goal

-- the lines so far
abbrev pub invariant-loop-number : goal.invariant-loop-number
invariant-loop-number l = AreEach (IsNewPlace l.plan) l.number l.lines
