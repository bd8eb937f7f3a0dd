-- What a refusal of a plan file tells.
use Rattle.std.specs.Prelude.{ℕ}
use Rattle.plan_rows.specs.declared.error.PlanFileErr.{PlanFileErr}
use Rattle.plan_rows.specs.declared.error.PlanFileErr.TheVariants.{Syntax, Key, Kind, Plan}

-- the number by which a refusal is printed. This project's own
abbrev pub number_of : PlanFileErr → ℕ
number_of Syntax = 22
number_of (Key place) = 23
number_of (Kind place) = 24
number_of (Plan error) = 25
