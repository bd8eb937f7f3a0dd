use Rattle.std.proofs.Common.{◌≡◌}
use Rattle.sync_top.proofs.HighestRank.{highest}
use Rattle.sync_top.proofs.trial.greatest_rank.Given as goal

abbrev pub invariant-loop-number : goal.invariant-loop-number
invariant-loop-number l = l.greatest ≡ highest l.ranks l.number
