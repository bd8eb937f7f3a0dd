use Rattle.sync_net.specs.private.Beginning.{IsNewSource}
use Rattle.net_words.specs.NewElements.{AreEach}
use Rattle.sync_net.proofs.starting.new_sources.Given as goal

-- the sources so far
abbrev pub invariant-loop-number : goal.invariant-loop-number
invariant-loop-number l = AreEach (IsNewSource l.plan) l.number l.sources
