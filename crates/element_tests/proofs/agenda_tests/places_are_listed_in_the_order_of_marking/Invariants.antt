use Rattle.std.proofs.Common.{◌≡◌, length}
use Rattle.element_tests.proofs.agenda_tests.places_are_listed_in_the_order_of_marking.Given as goal

abbrev pub invariant-loop-place : goal.invariant-loop-place
invariant-loop-place g l = length l.marks.flags ≡ 5
