-- Failures whose parts, and whose ways, can be told by hand.
use Rattle.std.specs.Prelude.{◌≡◌, ℕ, true, false, not, ◌&&◌, List, [], ◌∷◌, map, filter, codes, Option, None, Some, refl, unwrap_or}
use Rattle.std.specs.List.{range_with_len}
use Rattle.std.proofs.Common.{lit<}
use native.Mathlib.Decide.{dec_lt}
use Rattle.sync_ql.specs.declared.levels.NetOption.TheVariants.{I}
use Rattle.sync_ql.specs.Level.{level_of_name, do_not_use_of}
use Rattle.sync_topo.specs.declared.link.Link.{Link}
use Rattle.sync_topo.specs.Topology.{Topology}
use Rattle.sync_topo.specs.Bundles.{lowest_of_bundle}
use Rattle.sync_topo.specs.Lines.{is_nominated}
use Rattle.sync_topo.specs.private.Examples.{element}
use Rattle.reach_rules.specs.declared.failure.Failure.{Failure}
use Rattle.reach_rules.specs.declared.failure.Failure.TheVariants as fails
use Rattle.reach_rules.specs.declared.group.Group.{Group}
use Rattle.reach_rules.specs.Protection.{is_first_of_bundle, is_line_gone, is_source_gone, is_element_gone, IsServed, IsInReach}

-- a link with these priorities at its two ends, in this bundle
abbrev link : List ℕ → ℕ → ℕ → ℕ → ℕ → Option (List ℕ) → Link
link name a b priority_a priority_b bundle =
    record { name = name; a = a; b = b; priority_a = priority_a; priority_b = priority_b; delay_a = 1; delay_b = 1; bundle = bundle }

-- A, B and C in a ring, where B may take its timing over L1, C over L3 and L2, and B over L2 with this priority; a source at A
abbrev pub ring : ℕ → Topology
ring at_b = record {
  option = I;
  elements = element (codes "A") ∷ element (codes "B") ∷ element (codes "C") ∷ [];
  links = link (codes "L1") 0 1 0 1 None ∷ link (codes "L2") 1 2 at_b 2 None ∷ link (codes "L3") 2 0 1 0 None ∷ [];
  sources = record { name = codes "S"; at = 0; level = unwrap_or (level_of_name I (codes "QL-PRC")) (do_not_use_of I); priority = 1 } ∷ [];
}

-- where L1 is cut, C is served by A, and B is in reach by A, L3, C and L2
c_is_served : IsServed (ring 0) (fails.Link 0) 2
unfolding lowest_of_bundle dec_lt
c_is_served = (0, 5 ∷ [], (record { of = record { has = lit< tt; nominated = refl; of_element = refl }; kept = refl }, record { of = record { has = lit< tt; nominated = refl; of_element = refl }; kept = refl }))

b_is_in_reach : IsInReach (ring 0) (fails.Link 0) 1
unfolding lowest_of_bundle dec_lt
b_is_in_reach = (0, 3 ∷ 5 ∷ [], (record { within = lit< tt; into = refl; kept = refl }, (record { within = lit< tt; into = refl; kept = refl }, record { of = record { has = lit< tt; nominated = refl; of_element = refl }; kept = refl })))

-- the nominated lines that are left: L2>C and L3>C, none of which leads to B; and L2>B too, where it is nominated
abbrev left_after : Topology → Failure → List ℕ
left_after plan failure = filter (λ line. is_nominated plan line && not (is_line_gone plan failure line)) (range_with_len 0 6)

none_leads_to_b : left_after (ring 0) (fails.Link 0) ≡ 2 ∷ 5 ∷ []
unfolding lowest_of_bundle dec_lt
none_leads_to_b = refl

one_leads_to_b : left_after (ring 2) (fails.Link 0) ≡ 2 ∷ 3 ∷ 5 ∷ []
unfolding lowest_of_bundle dec_lt
one_leads_to_b = refl

-- with an element its links and its sources are gone
links_go_with_an_element : left_after (ring 2) (fails.Element 2) ≡ 0 ∷ []
unfolding lowest_of_bundle dec_lt
links_go_with_an_element = refl

sources_go_with_an_element : map (λ element. is_source_gone (ring 0) (fails.Element element) 0) (0 ∷ 1 ∷ 2 ∷ []) ≡ true ∷ false ∷ false ∷ []
unfolding dec_lt
sources_go_with_an_element = refl

-- two links between A and B in one bundle, and one of its own
abbrev pub bundled : Topology
bundled = record {
  option = I;
  elements = element (codes "A") ∷ element (codes "B") ∷ [];
  links = link (codes "L1") 0 1 0 1 None ∷ link (codes "L2") 0 1 0 1 (Some (codes "X")) ∷ link (codes "L3") 1 0 1 1 (Some (codes "X")) ∷ [];
  sources = [];
}

-- a bundle stands where its first link does, and a link that names none is no bundle that fails
first_links : map (is_first_of_bundle bundled) (0 ∷ 1 ∷ 2 ∷ []) ≡ false ∷ true ∷ false ∷ []
unfolding lowest_of_bundle dec_lt
first_links = refl

links_go_with_a_bundle : left_after bundled (fails.Bundle 1) ≡ 0 ∷ []
unfolding lowest_of_bundle dec_lt
links_go_with_a_bundle = refl

a_link_goes_alone : left_after bundled (fails.Link 1) ≡ 0 ∷ 4 ∷ 5 ∷ []
unfolding lowest_of_bundle dec_lt
a_link_goes_alone = refl

-- a group with these links, sources and elements
abbrev pub group_of : List ℕ → List ℕ → List ℕ → Group
group_of links sources elements = record { name = codes "D"; links = links; sources = sources; elements = elements }

-- of a duct with L1 and L3 all lines go, so that none is left into or out of A
a_group_goes_whole : left_after (ring 2) (fails.Group (group_of (0 ∷ 2 ∷ []) [] [])) ≡ 2 ∷ 3 ∷ []
unfolding lowest_of_bundle dec_lt
a_group_goes_whole = refl

-- with an element of a group its links go, beside those of the group
links_go_with_an_element_of_a_group : left_after (ring 2) (fails.Group (group_of (1 ∷ []) [] (0 ∷ []))) ≡ []
unfolding lowest_of_bundle dec_lt
links_go_with_an_element_of_a_group = refl

-- a source goes with a group alone, or with its element, and not with one of its links
sources_go_with_a_group : map (λ group. is_source_gone (ring 2) (fails.Group group) 0)
    (group_of [] (0 ∷ []) [] ∷ group_of [] [] (1 ∷ 0 ∷ []) ∷ group_of (0 ∷ 1 ∷ []) [] (1 ∷ []) ∷ []) ≡ true ∷ true ∷ false ∷ []
unfolding dec_lt
sources_go_with_a_group = refl

-- its elements are gone themselves, and no end of its links is
elements_of_a_group_are_gone : map (is_element_gone (fails.Group (group_of (0 ∷ []) [] (2 ∷ [])))) (0 ∷ 1 ∷ 2 ∷ []) ≡ false ∷ false ∷ true ∷ []
elements_of_a_group_are_gone = refl

-- where a group takes L1 and L2 away, C is served by A over L3
c_is_served_without_both : IsServed (ring 2) (fails.Group (group_of (0 ∷ 1 ∷ []) [] [])) 2
unfolding lowest_of_bundle dec_lt
c_is_served_without_both = (0, 5 ∷ [], (record { of = record { has = lit< tt; nominated = refl; of_element = refl }; kept = refl }, record { of = record { has = lit< tt; nominated = refl; of_element = refl }; kept = refl }))
