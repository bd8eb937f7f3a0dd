use Rattle.std.proofs.Common.{◌≤◌, ◌*◌}
use Rattle.element_tests.proofs.link_model_tests.agrees.Given as goal

-- each millisecond before the next row is told
abbrev pub invariant-loop-row : goal.invariant-loop-row
invariant-loop-row g l = l.line.turn ≤ 4 * l.next
