-- How one goes back to the first cycle and round it: what only private clauses cite.
use Rattle.std.specs.Prelude.{◌≡◌, ℕ, ◌+◌, ◌<◌, ◌≤◌, List, length, reverse, None}
use Rattle.std.specs.List.{All}
use Rattle.sync_topo.specs.declared.input.LineId.{LineId}
use Rattle.sync_topo.specs.Topology.{Topology}
use Rattle.sync_topo.specs.Lines.{numbers, line_count, is_nominated, IsNominated}
use Rattle.sync_topo.specs.Ranks.{HopTest, IsBefore, StepsBack, Leads}
use Rattle.rank_cert.specs.Ranks.{Ranks, rank_at}
use Rattle.sync_topo.specs.declared.returns.ReturnRule.{ReturnRule}
use Rattle.sync_topo.specs.Hops.{hops_by}
use Rattle.cycle_plan.specs.private.Peeling.{IsPeeling, IsPeeled}
use Rattle.cycle_plan.specs.declared.ranking.Ranking.{Ranking}

-- the line is nominated and has no rank
pub record IsLeft (plan : Topology) (ranks : Ranks) (line : ℕ) : Type 0 where
  pub nominated : IsNominated plan line
  pub within : line < line_count plan
  pub unranked : rank_at ranks line ≡ None

-- all that can be ranked is ranked
pub record IsDone (returns : ReturnRule) (plan : Topology) (ranking : Ranking) : Type 0 where
  pub peeling : IsPeeling returns plan ranking
  pub peeled : IsPeeled (hops_by returns plan) (is_nominated plan) (rank_at ranking.ranks)

-- the lowest of the first lines that one comes to by going back
pub record IsLowOn (hop : HopTest) (start steps low : ℕ) : Type 0 where
  pub met : (some : ℕ) × StepsBack hop some start low
  pub lowest : (some other : ℕ) → some ≤ steps → StepsBack hop some start other → low ≤ other

-- at most n steps, and more than none, lead back to the line itself
abbrev pub HasRound : HopTest → ℕ → ℕ → Type 0
HasRound hop n line = (round : ℕ) × (0 < round) × (round ≤ n) × StepsBack hop round line line

-- no line that one comes to by going back is lower
abbrev pub IsLowest : HopTest → ℕ → Type 0
IsLowest hop low = (steps other : ℕ) → StepsBack hop steps low other → low ≤ other

-- the lines are those behind the lowest one, one after another, and the next is to be looked at
pub record IsWalked (hop : HopTest) (low at : ℕ) (lines : List LineId) : Type 0 where
  pub back : StepsBack hop (length lines + 1) low at
  pub above : (steps other : ℕ) → 0 < steps → steps ≤ length lines → StepsBack hop steps low other → low < other
  pub chain : Leads (IsBefore hop) at (reverse (numbers lines)) low
  pub higher : All (λ line. low < line) (reverse (numbers lines))
