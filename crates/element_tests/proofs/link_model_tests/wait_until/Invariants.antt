use Rattle.std.proofs.Common.{◌≤◌, ◌*◌}
use Rattle.element_tests.proofs.link_model_tests.wait_until.Given as goal

-- each millisecond before is told
abbrev pub invariant-loop-now : goal.invariant-loop-now
invariant-loop-now g l = l.line.turn ≤ 4 * l.now
