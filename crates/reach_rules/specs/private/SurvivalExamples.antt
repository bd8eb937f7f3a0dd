-- What each failure of a ring takes away, told by hand, and clocks that are better than the own ones.
use Rattle.std.specs.Prelude.{◌≡◌, ◌<◌, ℕ, zero, suc, true, false, List, [], ◌∷◌, map, filter, length, codes, refl, unwrap_or}
use Rattle.std.specs.List.{range_with_len}
use Rattle.std.proofs.Common.{lit<, lit≤}
use native.Mathlib.Decide.{dec_lt}
use Rattle.sync_ql.specs.declared.levels.Level.{Level}
use Rattle.sync_ql.specs.declared.levels.NetOption.TheVariants.{I}
use Rattle.sync_ql.specs.Level.{level_of_name, do_not_use_of}
use Rattle.sync_topo.specs.declared.event.Part.TheVariants as part
use Rattle.sync_topo.specs.declared.event.What.TheVariants.{Down, Up, EsmcOff}
use Rattle.sync_topo.specs.Topology.{Topology}
use Rattle.sync_topo.specs.Bundles.{lowest_of_bundle}
use Rattle.sync_topo.specs.Lines.{line_id}
use Rattle.net_rules.specs.Signals.{planned_level}
use Rattle.net_rules.specs.History.{settings_of}
use Rattle.reach_rules.specs.declared.failure.Failure.{Failure}
use Rattle.reach_rules.specs.declared.failure.Failure.TheVariants as fails
use Rattle.reach_rules.specs.private.ProtectionExamples.{ring, bundled}
use Rattle.reach_rules.specs.Reaching.{IsNotBelow, IsNoWorse, AreOwnWorse}
use Rattle.reach_rules.specs.Protection.{IsServed}
use Rattle.reach_rules.specs.Survival.{is_part_gone, is_of_failure, IsClockSource, AreClocksBetter}

-- every failure of the ring: nothing, its three links, its source and its three elements. It has no bundle
abbrev failures : List Failure
failures = fails.Nothing ∷ fails.Link 0 ∷ fails.Link 1 ∷ fails.Link 2 ∷ fails.Source 0 ∷ fails.Element 0 ∷ fails.Element 1 ∷ fails.Element 2 ∷ []

-- the links that a failure takes away, the lines and the sources
abbrev links_gone : Topology → Failure → List ℕ
links_gone plan failure = filter (λ link. is_part_gone plan failure (part.Link link)) (range_with_len 0 (length plan.links))

abbrev lines_gone : Topology → Failure → List ℕ
lines_gone plan failure = filter (λ line. is_part_gone plan failure (part.Line (line_id line))) (range_with_len 0 6)

abbrev sources_gone : Topology → Failure → List ℕ
sources_gone plan failure = filter (λ source. is_part_gone plan failure (part.Source source)) (range_with_len 0 (length plan.sources))

-- a link goes alone, and an element with the two that join it to its neighbours
links_go : map (links_gone (ring 2)) failures ≡ [] ∷ (0 ∷ []) ∷ (1 ∷ []) ∷ (2 ∷ []) ∷ [] ∷ (0 ∷ 2 ∷ []) ∷ (0 ∷ 1 ∷ []) ∷ (1 ∷ 2 ∷ []) ∷ []
unfolding lowest_of_bundle dec_lt
links_go = refl

-- with each link both its lines
lines_go : map (lines_gone (ring 2)) failures
    ≡ [] ∷ (0 ∷ 1 ∷ []) ∷ (2 ∷ 3 ∷ []) ∷ (4 ∷ 5 ∷ []) ∷ [] ∷ (0 ∷ 1 ∷ 4 ∷ 5 ∷ []) ∷ (0 ∷ 1 ∷ 2 ∷ 3 ∷ []) ∷ (2 ∷ 3 ∷ 4 ∷ 5 ∷ []) ∷ []
unfolding lowest_of_bundle dec_lt
lines_go = refl

-- the source goes alone, or with A
sources_go : map (sources_gone (ring 2)) failures ≡ [] ∷ [] ∷ [] ∷ [] ∷ (0 ∷ []) ∷ (0 ∷ []) ∷ [] ∷ [] ∷ []
unfolding lowest_of_bundle dec_lt
sources_go = refl

-- of a bundle all links go
links_go_with_a_bundle : links_gone bundled (fails.Bundle 1) ≡ 1 ∷ 2 ∷ []
unfolding lowest_of_bundle dec_lt
links_go_with_a_bundle = refl

-- where L1 fails it may go down and come up again, or one of its lines alone may, or fall silent; nothing else does
what_may_happen : map (is_of_failure (ring 2) (fails.Link 0))
    (Down (part.Link 0) ∷ Down (part.Line (line_id 1)) ∷ Down (part.Link 1) ∷ Down (part.Line (line_id 2)) ∷ Down (part.Source 0) ∷ Up (part.Link 0) ∷ EsmcOff (line_id 0) ∷ EsmcOff (line_id 2) ∷ [])
    ≡ true ∷ true ∷ false ∷ false ∷ false ∷ true ∷ true ∷ false ∷ []
unfolding lowest_of_bundle dec_lt
what_may_happen = refl

-- of whom is in reach: where L1 fails B is served by L3 and L2, where L3 fails C by L1 and L2, and where C fails B by L1
b_is_served_without_l1 : IsServed (ring 2) (fails.Link 0) 1
unfolding lowest_of_bundle dec_lt
b_is_served_without_l1 = (0, 3 ∷ 5 ∷ [], (record { of = record { has = lit< tt; nominated = refl; of_element = refl }; kept = refl }, (record { of = record { has = lit< tt; nominated = refl; of_element = refl }; kept = refl }, record { of = record { has = lit< tt; nominated = refl; of_element = refl }; kept = refl })))

c_is_served_without_l3 : IsServed (ring 2) (fails.Link 2) 2
unfolding lowest_of_bundle dec_lt
c_is_served_without_l3 = (0, 2 ∷ 0 ∷ [], (record { of = record { has = lit< tt; nominated = refl; of_element = refl }; kept = refl }, (record { of = record { has = lit< tt; nominated = refl; of_element = refl }; kept = refl }, record { of = record { has = lit< tt; nominated = refl; of_element = refl }; kept = refl })))

b_is_served_without_c : IsServed (ring 2) (fails.Element 2) 1
unfolding lowest_of_bundle dec_lt
b_is_served_without_c = (0, 0 ∷ [], (record { of = record { has = lit< tt; nominated = refl; of_element = refl }; kept = refl }, record { of = record { has = lit< tt; nominated = refl; of_element = refl }; kept = refl }))

-- its source is of this level, and its elements have the own clocks of option I, which are worse, and no floor
abbrev prc : Level
prc = unwrap_or (level_of_name I (codes "QL-PRC")) (do_not_use_of I)

of_its_source : (P : Level → Type 0) → P prc → (source : ℕ) → IsClockSource (ring 2) source → P (planned_level (ring 2) source)
of_its_source P holds zero clock = holds
of_its_source P holds (suc source) clock = cc

own_clocks_are_worse : AreOwnWorse (ring 2) prc
unfolding dec_lt
own_clocks_are_worse zero within = lit< tt
own_clocks_are_worse (suc zero) within = lit< tt
own_clocks_are_worse (suc (suc zero)) within = lit< tt
own_clocks_are_worse (suc (suc (suc element))) within = lit< tt

no_floor_is_better : (element : ℕ) → element < length (ring 2).elements → IsNotBelow (ring 2) element prc
unfolding dec_lt settings_of
no_floor_is_better zero within = refl
no_floor_is_better (suc zero) within = refl
no_floor_is_better (suc (suc zero)) within = refl
no_floor_is_better (suc (suc (suc element))) within = refl

its_clocks_are_better : AreClocksBetter (ring 2) prc
unfolding dec_lt
its_clocks_are_better = record {
  own_worse = of_its_source (λ level. AreOwnWorse (ring 2) level) own_clocks_are_worse;
  least = of_its_source (λ level. IsNoWorse level prc) (lit≤ tt);
  floors = no_floor_is_better;
}
