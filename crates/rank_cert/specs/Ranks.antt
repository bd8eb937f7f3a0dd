-- Ranks of lines, and the first hop over which they don't rise. This project's own.
use Rattle.std.specs.Prelude.{◌≡◌, ℕ, ◌≤◌, ◌<◌, ◌⊎◌, List, length, Option, None, unwrap_or, slice_get, IsSome, IsTrue}
use Rattle.std.specs.Option.{option_flatten}
use Rattle.sync_topo.specs.Topology.{Topology}
use Rattle.sync_topo.specs.Lines.{line_count, IsNominated}
use Rattle.sync_topo.specs.Hops.{hops}
use Rattle.sync_topo.specs.Ranks.{HopTest, Rises}
use Rattle.rank_cert.specs.declared.rising.Verdict.{Verdict}
use Rattle.rank_cert.specs.declared.rising.Verdict.TheVariants.{Rising, Falls}

-- for each line, in order of number, its rank if it has one
abbrev pub Ranks : Type 0
Ranks = List (Option ℕ)

-- a line's rank, if it has one
abbrev pub rank_at : Ranks → ℕ → Option ℕ
rank_at ranks line = option_flatten (slice_get ranks line)

-- a line's rank as a number; 0 where it has none
abbrev pub rank_of : Ranks → ℕ → ℕ
rank_of ranks line = unwrap_or (rank_at ranks line) 0

-- every nominated line of the plan has a rank
pub record IsRanked (plan : Topology) (ranks : Ranks) : Type 0 where
  pub counted : length ranks ≡ line_count plan
  pub ranked : (line : ℕ) → IsNominated plan line → IsSome (rank_at ranks line)

-- no other line has one
abbrev pub RanksNoOther : Topology → Ranks → Type 0
RanksNoOther plan ranks = (line : ℕ) → ¬ IsNominated plan line → rank_at ranks line ≡ None

-- the first hop by a test of hops, by its first line and then by its second, over which the rank doesn't rise
pub record IsFirstFallOver (hop : HopTest) (ranks : Ranks) (line next : ℕ) : Type 0 where
  pub hops_on : IsTrue (hop line next)
  pub falls : rank_of ranks next ≤ rank_of ranks line
  pub first : (other after : ℕ) → IsTrue (hop other after) → rank_of ranks after ≤ rank_of ranks other
      → (line < other) ⊎ ((line ≡ other) × (next ≤ after))

-- what the test of ranks finds over such hops
abbrev pub JudgesOver : HopTest → Ranks → Verdict → Type 0
JudgesOver hop ranks Rising = Rises hop (rank_of ranks)
JudgesOver hop ranks (Falls line next) = IsFirstFallOver hop ranks line.0 next.0

abbrev pub Judges : Topology → Ranks → Verdict → Type 0
Judges plan ranks verdict = JudgesOver (hops plan) ranks verdict
