use Rattle.std.proofs.Common.{◌≡◌, ℕ, None, take}
use Rattle.std.specs.Prelude.{◌≢◌}
use Rattle.std.specs.List.{All}
use Rattle.sync_topo.specs.Lines.{sender_of}
use Rattle.rank_cert.specs.Ranks.{rank_at}
use Rattle.cycle_plan.specs.private.Peeling.{IsMore, IsAmong, AreNext}
use Rattle.cycle_plan.proofs.ranking.Ranking.give_all.Given as goal

abbrev pub invariant-loop-line : goal.invariant-loop-line
invariant-loop-line l = record {
  more : IsMore l.returns l.plan l.fn.self l.self;
  next : AreNext l.returns l.plan l.self.ranks l.element l.only l.top;
  given : All (λ line. IsAmong l.returns l.plan l.only line.0 → rank_at l.self.ranks line.0 ≢ None) (take l.line-index l.line-items);
  others : (other : ℕ) → sender_of l.plan other ≢ l.element → rank_at l.self.ranks other ≡ rank_at l.fn.self.ranks other;
}
