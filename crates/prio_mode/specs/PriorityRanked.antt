-- What the planner gives where elements choose by priority alone.
use Rattle.std.specs.Prelude.{ℕ, ⊤, List, map, Result, Ok, Err}
use Rattle.sync_text.specs.declared.errors.NoMemory.{NoMemory}
use Rattle.rank_cert.specs.Ranks.{Ranks}
use Rattle.prio_mode.specs.declared.planning.PrioRanked.{PrioRanked}
use Rattle.prio_mode.specs.declared.planning.PrioRanked.TheVariants as ranked

-- what holds of the ranks, where the planner gives ranks
abbrev pub IfRanks : Result PrioRanked NoMemory → (Ranks → Type 0) → Type 0
IfRanks (Ok (ranked.Ranks ranks)) P = P ranks
IfRanks (Ok (ranked.Loop lines)) P = ⊤
IfRanks (Err error) P = ⊤

-- what holds of the numbers of the lines, where it gives a loop
abbrev pub IfLoop : Result PrioRanked NoMemory → (List ℕ → Type 0) → Type 0
IfLoop (Ok (ranked.Ranks ranks)) P = ⊤
IfLoop (Ok (ranked.Loop lines)) P = P (map (λ line. line.0) lines)
IfLoop (Err error) P = ⊤
