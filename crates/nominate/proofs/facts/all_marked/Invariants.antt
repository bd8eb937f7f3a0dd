use Rattle.std.proofs.Common.{◌≡◌, ℕ, suc, ◌<◌, Some}
use Rattle.nominate.specs.HopCount.{count_at}
use Rattle.nominate.specs.LocalFacts.{HasNeighbour}
use Rattle.nominate.proofs.facts.all_marked.Given as goal

abbrev pub invariant-loop-element : goal.invariant-loop-element
invariant-loop-element l = (element hops : ℕ) → element < l.element → count_at l.hops element ≡ Some (suc hops) → HasNeighbour l.plan l.hops element hops
