-- What the reading of a plan file answers.
use Rattle.std.specs.Prelude.{◌≡◌, ◌⊎◌, ◌↔◌, Result, Err}
use Rattle.sync_text.specs.declared.errors.NoAnswer.{NoAnswer}
use Rattle.sync_text.specs.declared.errors.NoAnswer.TheVariants.{NoMemory, Refused}
use Rattle.plan_rows.specs.declared.error.PlanFileErr.{PlanFileErr}

-- unless out of memory, the answer is this refusal exactly where the fact holds
abbrev pub RefusesWhere : {A : Type 0} → Result A (NoAnswer PlanFileErr) → PlanFileErr → Type 0 → Type 0
RefusesWhere result refusal Fact = (result ≡ Err NoMemory) ⊎ ((result ≡ Err (Refused refusal)) ↔ Fact)
