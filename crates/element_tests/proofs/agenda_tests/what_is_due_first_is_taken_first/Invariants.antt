use Rattle.std.proofs.Common.{◌≡◌, length}
use Rattle.element_tests.proofs.agenda_tests.what_is_due_first_is_taken_first.Given as goal

abbrev pub invariant-loop-row : goal.invariant-loop-row
invariant-loop-row g l = length l.times ≡ 5
