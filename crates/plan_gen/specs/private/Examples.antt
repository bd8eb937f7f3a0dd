-- The ladder of four elements, written out by hand.
use Rattle.std.specs.Prelude.{◌≡◌, None, [], ◌∷◌, codes, map, refl}
use Rattle.std.specs.Fmt.{digits}
use Rattle.std.proofs.Math.Decide.{dec_lt}
use Rattle.sync_ql.specs.Level.{name_of}
use Rattle.sync_topo.specs.Names.{element_names, link_names, source_names}
use Rattle.plan_gen.specs.Ladder.{ladder, step, rail}

pub elements_of_four : element_names (ladder 4).elements ≡ codes "E0" ∷ codes "E1" ∷ codes "E2" ∷ codes "E3" ∷ []
unfolding digits dec_lt
elements_of_four = refl

pub links_of_four : link_names (ladder 4).links ≡ codes "S1" ∷ codes "S2" ∷ codes "R2" ∷ codes "S3" ∷ codes "R3" ∷ []
unfolding digits dec_lt
links_of_four = refl

pub source_names_of_four : source_names (ladder 4).sources ≡ codes "P0" ∷ codes "P1" ∷ []
source_names_of_four = refl

pub levels_of_four : map (λ source. name_of source.level) (ladder 4).sources ≡ codes "QL-PRC" ∷ codes "QL-SSU-A" ∷ []
unfolding dec_lt
levels_of_four = refl

pub last_step : step 3 ≡ record { name = codes "S3"; a = 2; b = 3; priority_a = 0; priority_b = 2; delay_a = 10; delay_b = 10; bundle = None }
unfolding digits dec_lt
last_step = refl

pub last_rail : rail 3 ≡ record { name = codes "R3"; a = 1; b = 3; priority_a = 0; priority_b = 1; delay_a = 10; delay_b = 10; bundle = None }
unfolding digits dec_lt
last_rail = refl

pub links_of_two : link_names (ladder 2).links ≡ codes "S1" ∷ []
unfolding digits dec_lt
links_of_two = refl
