-- Counts, priorities and places at plans written by hand.
use Rattle.std.specs.Prelude.{◌≡◌, ℕ, [], ◌∷◌, false, codes, List, Some, None, refl}
use Rattle.std.proofs.Common.{lit<}
use Rattle.sync_ql.specs.declared.levels.NetOption.TheVariants.{I}
use Rattle.sync_topo.specs.declared.link.Link.{Link}
use Rattle.sync_topo.specs.Topology.{Topology}
use Rattle.sync_topo.specs.RowValues.{default_own}
use Rattle.sync_topo.specs.private.Examples.{element}
use Rattle.nominate.specs.HopCount.{Counts, IsReachedIn}
use Rattle.nominate.specs.Nomination.{count_below, order_place, is_candidate, candidate_number, base_priority, new_priority, order_rank}

-- a link that is nominated at no end
abbrev link_between : List ℕ → ℕ → ℕ → Link
link_between name a b = record { name = name; a = a; b = b; priority_a = 0; priority_b = 0; delay_a = 10; delay_b = 10; bundle = None }

-- three elements in a ring, with a clock at the first
abbrev ring : Topology
ring = record {
  option = I;
  elements = element (codes "A") ∷ element (codes "B") ∷ element (codes "C") ∷ [];
  links = link_between (codes "L1") 0 1 ∷ link_between (codes "L2") 1 2 ∷ link_between (codes "L3") 2 0 ∷ [];
  sources = record { name = codes "S"; at = 0; level = default_own I; priority = 1 } ∷ [];
}

-- both others are one link from it
abbrev ring_counts : Counts
ring_counts = Some 0 ∷ Some 1 ∷ Some 1 ∷ []

pub one_link_leads_from_the_clock_to_the_third : IsReachedIn ring 1 2
one_link_leads_from_the_clock_to_the_third = (5, lit< tt, refl, lit< tt)

pub elements_stand_by_counts_and_then_numbers : order_place ring ring_counts 2 ≡ 2
unfolding count_below
elements_stand_by_counts_and_then_numbers = refl

pub a_line_to_a_lower_count_is_no_candidate : is_candidate ring ring_counts 1 ≡ false
a_line_to_a_lower_count_is_no_candidate = refl

pub the_line_from_the_clock_comes_first : candidate_number ring ring_counts 5 ≡ 1
unfolding count_below
the_line_from_the_clock_comes_first = refl

pub the_line_from_the_same_count_comes_second : new_priority ring ring_counts 2 ≡ 2
unfolding count_below
the_line_from_the_same_count_comes_second = refl

pub the_line_back_to_the_lower_number_is_not_nominated : new_priority ring ring_counts 3 ≡ 0
unfolding count_below
the_line_back_to_the_lower_number_is_not_nominated = refl

pub a_rank_is_the_place_of_the_sender : order_rank ring ring_counts 2 ≡ Some 1
unfolding count_below
a_rank_is_the_place_of_the_sender = refl

-- two elements joined by two links, each with sources of its own, of which one is not nominated
abbrev fed : Topology
fed = record {
  option = I;
  elements = element (codes "A") ∷ element (codes "B") ∷ [];
  links = link_between (codes "L1") 0 1 ∷ link_between (codes "L2") 0 1 ∷ [];
  sources =
      record { name = codes "S"; at = 0; level = default_own I; priority = 1 }
      ∷ record { name = codes "T"; at = 1; level = default_own I; priority = 254 }
      ∷ record { name = codes "U"; at = 1; level = default_own I; priority = 0 }
      ∷ record { name = codes "V"; at = 1; level = default_own I; priority = 7 }
      ∷ [];
}

pub lines_follow_the_greatest_priority_of_a_source : base_priority fed 1 ≡ 254
lines_follow_the_greatest_priority_of_a_source = refl

pub the_last_priority_is_255 : new_priority fed (Some 0 ∷ Some 0 ∷ []) 0 ≡ 255
unfolding count_below
the_last_priority_is_255 = refl

pub past_it_nothing_is_nominated : new_priority fed (Some 0 ∷ Some 0 ∷ []) 2 ≡ 0
unfolding count_below
past_it_nothing_is_nominated = refl
