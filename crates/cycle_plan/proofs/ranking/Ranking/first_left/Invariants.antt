use Rattle.std.proofs.Common.{◌≡◌, ℕ, ◌<◌, false}
use Rattle.std.specs.Prelude.{◌&&◌, is_none}
use Rattle.sync_topo.specs.Lines.{is_nominated}
use Rattle.rank_cert.specs.Ranks.{rank_at}
use Rattle.cycle_plan.proofs.ranking.Ranking.first_left.Given as goal

abbrev pub invariant-loop-number : goal.invariant-loop-number
invariant-loop-number l = (line : ℕ) → line < l.number → (is_nominated l.plan line && is_none (rank_at l.self.ranks line)) ≡ false
