use Rattle.std.proofs.Common.{take}
use Rattle.std.specs.List.{All}
use Rattle.sync_topo.specs.Lines.{receiver_of}
use Rattle.nominate.specs.private.Searching.{IsMore, IsClose}
use Rattle.nominate.proofs.search.HopSearch.visit.Given as goal

abbrev pub invariant-loop-line : goal.invariant-loop-line
invariant-loop-line l = record {
  more : IsMore l.plan l.fn.self l.self;
  close : All (λ line. IsClose l.self.counts.items l.fn.self.depth (receiver_of l.plan line.0)) (take l.line-index l.outputs);
}
