-- What is found of a plan's chains.
use Rattle.std.specs.Prelude.{ℕ, ⊤, List, map, Result, Ok, Err}
use Rattle.sync_text.specs.declared.errors.NoMemory.{NoMemory}
use Rattle.reach_rules.specs.declared.chain.Chain.{Chain}
use Rattle.cycle_plan.specs.declared.chaining.Chained.{Chained}
use Rattle.cycle_plan.specs.declared.chaining.Chained.TheVariants as chained

-- what holds of the rows, where there are rows
abbrev pub IfChains : Result Chained NoMemory → (List Chain → Type 0) → Type 0
IfChains (Ok (chained.Chains rows)) P = P rows
IfChains (Ok (chained.Cycle lines)) P = ⊤
IfChains (Err error) P = ⊤

-- what holds of the numbers of the lines, where there is a cycle
abbrev pub IfCycle : Result Chained NoMemory → (List ℕ → Type 0) → Type 0
IfCycle (Ok (chained.Chains rows)) P = ⊤
IfCycle (Ok (chained.Cycle lines)) P = P (map (λ line. line.0) lines)
IfCycle (Err error) P = ⊤
