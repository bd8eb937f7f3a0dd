use Rattle.nominate.proofs.SearchLemmas.{IsStart}
use Rattle.nominate.proofs.search.HopSearch.new.Given as goal

abbrev pub invariant-loop-element : goal.invariant-loop-element
invariant-loop-element l = IsStart l.plan l.element l.counts.items l.current.items
