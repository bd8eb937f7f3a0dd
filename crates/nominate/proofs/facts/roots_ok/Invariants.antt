use Rattle.std.proofs.Common.{◌≡◌, ◌↔◌, ℕ, ◌<◌, Some}
use Rattle.nominate.specs.HopCount.{count_at, IsRoot}
use Rattle.nominate.proofs.facts.roots_ok.Given as goal

abbrev pub invariant-loop-element : goal.invariant-loop-element
invariant-loop-element l = (element : ℕ) → element < l.element → (count_at l.hops element ≡ Some 0) ↔ IsRoot l.plan element
