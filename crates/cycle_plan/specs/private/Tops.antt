-- The greatest rank of an element's inputs: what only private clauses cite.
use Rattle.std.specs.Prelude.{◌≡◌, ◌≢◌, ℕ, ◌+◌, ◌^◌, ◌<◌, ◌⊎◌, ◌==◌, if◌then◌else◌, List, Some}
use Rattle.sync_topo.specs.declared.input.InputId.{InputId}
use Rattle.sync_topo.specs.Topology.{Topology}
use Rattle.rank_cert.specs.Ranks.{Ranks, rank_at}
use Rattle.sync_topo.specs.declared.returns.ReturnRule.{ReturnRule}
use Rattle.cycle_plan.specs.private.Numbers.{number_in}
use Rattle.cycle_plan.specs.private.Inputs.{line_at}
use Rattle.cycle_plan.specs.declared.greatest.Greatest.{Greatest}
use Rattle.cycle_plan.specs.private.Greatest.{IsGreatestWay}

-- each rank has room for one more
abbrev pub AreSmall : Ranks → Type 0
AreSmall ranks = (line rank : ℕ) → rank_at ranks line ≡ Some rank → rank < 2 ^ 32

-- a line with this number as a way in stands among the first n inputs, and this is the rank after its own
pub record IsRankedAt (returns : ReturnRule) (plan : Topology) (ranks : Ranks) (inputs : List InputId) (n number next : ℕ) : Type 0 where
  pub line : ℕ
  pub rank : ℕ
  pub place : ℕ
  pub low : place < n
  pub here : line_at inputs place ≡ Some line
  pub ranked : rank_at ranks line ≡ Some rank
  pub number_is : number_in returns plan line ≡ number
  pub next_is : rank + 1 ≡ next

-- among the first n inputs: the rank after all of them, and the rank after all but those of the number with the greatest
abbrev pub IsTop : ReturnRule → Topology → Ranks → List InputId → ℕ → Greatest → Type 0
IsTop returns plan ranks inputs n top = IsGreatestWay (IsRankedAt returns plan ranks inputs n) top
