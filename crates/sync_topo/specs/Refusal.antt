-- What a refusal of rows tells.
use Rattle.std.specs.Prelude.{ℕ}
use Rattle.sync_topo.specs.declared.place.Place.{Place}
use Rattle.sync_topo.specs.declared.error.PlanErr.{PlanErr}
use Rattle.sync_topo.specs.declared.error.PlanErr.TheVariants.{Limit, Name, Twice, NoElement, SelfLink, Range, Bundle, LevelName}

-- the number by which a refusal is printed. This project's own
abbrev pub refusal_number : PlanErr → ℕ
refusal_number (Limit place) = 15
refusal_number (Name place) = 16
refusal_number (Twice place) = 17
refusal_number (NoElement place) = 18
refusal_number (SelfLink place) = 19
refusal_number (Range place) = 20
refusal_number (LevelName place) = 21
refusal_number (Bundle place) = 39

-- the row that breaks the rule
abbrev pub refused_place : PlanErr → Place
refused_place (Limit place) = place
refused_place (Name place) = place
refused_place (Twice place) = place
refused_place (NoElement place) = place
refused_place (SelfLink place) = place
refused_place (Range place) = place
refused_place (LevelName place) = place
refused_place (Bundle place) = place
