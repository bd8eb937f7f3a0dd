use Rattle.selector.specs.private.Scanned.{IsFirstBest}
use Rattle.selector.proofs.best.first_best.Given as goal

-- what was found is the best of the inputs up to here
abbrev pub invariant-loop-place : goal.invariant-loop-place
invariant-loop-place l = IsFirstBest l.inputs l.place l.best
