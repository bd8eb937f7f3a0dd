-- What the planner gives.
use Rattle.std.specs.Prelude.{ℕ, ⊤, List, map, Result, Ok, Err}
use Rattle.sync_text.specs.declared.errors.NoMemory.{NoMemory}
use Rattle.rank_cert.specs.Ranks.{Ranks}
use Rattle.cycle_plan.specs.declared.ranked.Ranked.{Ranked}
use Rattle.cycle_plan.specs.declared.ranked.Ranked.TheVariants as ranked

-- what holds of the ranks, where the planner gives ranks
abbrev pub IfRanks : Result Ranked NoMemory → (Ranks → Type 0) → Type 0
IfRanks (Ok (ranked.Ranks ranks)) P = P ranks
IfRanks (Ok (ranked.Cycle lines)) P = ⊤
IfRanks (Err error) P = ⊤

-- what holds of the numbers of the lines, where the planner gives a cycle
abbrev pub IfCycle : Result Ranked NoMemory → (List ℕ → Type 0) → Type 0
IfCycle (Ok (ranked.Ranks ranks)) P = ⊤
IfCycle (Ok (ranked.Cycle lines)) P = P (map (λ line. line.0) lines)
IfCycle (Err error) P = ⊤
