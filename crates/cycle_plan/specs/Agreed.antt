-- What is found of a plan's priorities, and what only private clauses cite of the number of high levels.
use Rattle.std.specs.Prelude.{ℕ, ⊤, List, map, Result, Ok, Err}
use Rattle.sync_text.specs.declared.errors.NoMemory.{NoMemory}
use Rattle.cycle_plan.specs.declared.agreement.Agreement.{Agreement}
use Rattle.cycle_plan.specs.declared.agreement.Agreement.TheVariants as agreement

-- what holds of the bound after any events, where there is one
abbrev pub IfBound : Result Agreement NoMemory → (ℕ → Type 0) → Type 0
IfBound (Ok (agreement.Bound bounds)) P = P bounds.bound
IfBound (Ok (agreement.Clash lines)) P = ⊤
IfBound (Err error) P = ⊤

-- of the bound after failures
abbrev pub IfFailures : Result Agreement NoMemory → (ℕ → Type 0) → Type 0
IfFailures (Ok (agreement.Bound bounds)) P = P bounds.failures
IfFailures (Ok (agreement.Clash lines)) P = ⊤
IfFailures (Err error) P = ⊤

-- and of the numbers of the lines of a circle
abbrev pub IfClash : Result Agreement NoMemory → (List ℕ → Type 0) → Type 0
IfClash (Ok (agreement.Bound bounds)) P = ⊤
IfClash (Ok (agreement.Clash lines)) P = P (map (λ line. line.0) lines)
IfClash (Err error) P = ⊤
