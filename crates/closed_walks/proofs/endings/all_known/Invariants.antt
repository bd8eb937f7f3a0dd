use Rattle.std.proofs.Common.{◌≡◌, map, take, Some}
use Rattle.closed_walks.proofs.endings.all_known.Given as goal

abbrev pub invariant-loop-ending : goal.invariant-loop-ending
invariant-loop-ending l = map Some l.endings ≡ take l.ending-index l.known
