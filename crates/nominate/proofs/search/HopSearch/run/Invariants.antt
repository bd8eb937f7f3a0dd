use Rattle.nominate.specs.private.Searching.{IsSearching, AreKept, work}
use Rattle.nominate.proofs.search.HopSearch.run.Given as goal

abbrev pub invariant-loop-element : goal.invariant-loop-element
invariant-loop-element l = record {
  searching : IsSearching l.plan l.self;
  kept : AreKept l.plan l.self;
}

abbrev pub decreases-loop-element : goal.decreases-loop-element
decreases-loop-element l = work l.self
