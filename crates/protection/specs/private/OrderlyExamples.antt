-- Numbers of inputs at a plan written by hand.
use Rattle.std.specs.Prelude.{◌≡◌, ℕ, true, false, List, [], ◌∷◌, codes, None, refl}
use Rattle.sync_ql.specs.declared.levels.NetOption.TheVariants.{I}
use Rattle.sync_topo.specs.declared.link.Link.{Link}
use Rattle.sync_topo.specs.Topology.{Topology}
use Rattle.sync_topo.specs.RowValues.{default_own}
use Rattle.sync_topo.specs.private.Examples.{element}
use Rattle.protection.specs.Orderly.{stands_apart, is_first_choice}

-- a link that names no bundle, with these priorities at its two ends
abbrev link : List ℕ → ℕ → ℕ → ℕ → ℕ → Link
link name a b priority_a priority_b =
    record { name = name; a = a; b = b; priority_a = priority_a; priority_b = priority_b; delay_a = 1; delay_b = 1; bundle = None }

-- A, B and C in a ring with a clock at A. B takes its timing over L1, and over L2 with this priority; C over L3, and then over L2.
-- B has a source of its own too, of this priority
abbrev ring : ℕ → ℕ → Topology
ring over_l2 own = record {
  option = I;
  elements = element (codes "A") ∷ element (codes "B") ∷ element (codes "C") ∷ [];
  links = link (codes "L1") 0 1 0 2 ∷ link (codes "L2") 1 2 over_l2 2 ∷ link (codes "L3") 2 0 1 0 ∷ [];
  sources = record { name = codes "S"; at = 0; level = default_own I; priority = 1 } ∷ record { name = codes "T"; at = 1; level = default_own I; priority = own } ∷ [];
}

pub lines_of_two_numbers_stand_apart : stands_apart (ring 3 1) 3 ≡ true
lines_of_two_numbers_stand_apart = refl

pub lines_of_one_number_do_not : stands_apart (ring 2 1) 3 ≡ false
lines_of_one_number_do_not = refl

pub nor_does_a_line_beside_a_source_of_its_number : stands_apart (ring 3 2) 0 ≡ false
nor_does_a_line_beside_a_source_of_its_number = refl

pub a_source_that_is_not_nominated_is_no_input : stands_apart (ring 3 0) 0 ≡ true
a_source_that_is_not_nominated_is_no_input = refl

pub the_line_of_the_least_number_is_the_first_choice : is_first_choice (ring 3 0) 0 ≡ true
the_line_of_the_least_number_is_the_first_choice = refl

pub the_other_line_is_not : is_first_choice (ring 3 0) 3 ≡ false
the_other_line_is_not = refl

pub beside_a_source_no_line_is : is_first_choice (ring 3 1) 0 ≡ false
beside_a_source_no_line_is = refl
