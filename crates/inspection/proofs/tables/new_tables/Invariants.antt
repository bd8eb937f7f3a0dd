use Rattle.std.proofs.Common.{◌≡◌, []}
use Rattle.net_words.specs.NewElements.{AreEach}
use Rattle.inspection.specs.private.Tables.{table_after}
use Rattle.inspection.proofs.tables.new_tables.Given as goal

-- the tables so far
abbrev pub invariant-loop-element : goal.invariant-loop-element
invariant-loop-element l = AreEach (λ element s. s ≡ table_after l.plan [] element) l.element l.tables
