-- Bounds after failures that can be told by hand.
use Rattle.std.specs.Prelude.{◌≡◌, ◌&&◌, ◌==◌, ℕ, true, false, List, [], ◌∷◌, map, filter, codes, None, refl, unwrap_or}
use Rattle.std.specs.List.{range_with_len}
use native.Mathlib.Decide.{dec_lt}
use Rattle.sync_ql.specs.declared.levels.NetOption.TheVariants.{I}
use Rattle.sync_ql.specs.Level.{level_of_name, do_not_use_of}
use Rattle.sync_topo.specs.declared.event.Part.TheVariants as part
use Rattle.sync_topo.specs.declared.event.What.TheVariants.{Down, Up, EsmcOff, EsmcOn, SourceLevel}
use Rattle.sync_topo.specs.Topology.{Topology}
use Rattle.sync_topo.specs.Bundles.{lowest_of_bundle}
use Rattle.sync_topo.specs.Hops.{bears_on}
use Rattle.sync_topo.specs.Lines.{line_count, line_id, sender_of, receiver_of, is_nominated}
use Rattle.sync_topo.specs.private.Examples.{element}
use Rattle.net_rules.specs.Losing.{is_slow}
use Rattle.reach_rules.specs.Failing.{count_below, failed_in, is_planned}
use Rattle.reach_rules.specs.private.ProtectionExamples.{ring}

-- the nominated lines into the sender of a line, and those of them that bear on it
abbrev into_sender : Topology → ℕ → List ℕ
into_sender plan line = filter (λ before. is_nominated plan before && receiver_of plan before == sender_of plan line) (range_with_len 0 (line_count plan))

abbrev bearing : Topology → ℕ → List ℕ
bearing plan line = filter (λ before. bears_on plan before line) (range_with_len 0 (line_count plan))

-- in a ring whose delays are 1, L1>B and L3>C begin at A, into which no line is nominated: their times are 0. L2>C is borne on by
-- L1>B and not by L2>B, B's last resort, and L2>B by L3>C and not by L2>C, C's: their times are 1
ring_lines_into : map (into_sender (ring 2)) (0 ∷ 2 ∷ 3 ∷ 5 ∷ []) ≡ [] ∷ (0 ∷ 3 ∷ []) ∷ (2 ∷ 5 ∷ []) ∷ [] ∷ []
unfolding lowest_of_bundle dec_lt
ring_lines_into = refl

ring_bears : map (bearing (ring 2)) (0 ∷ 2 ∷ 3 ∷ 5 ∷ []) ≡ [] ∷ (0 ∷ []) ∷ (5 ∷ []) ∷ [] ∷ []
unfolding lowest_of_bundle dec_lt
ring_bears = refl

-- of the seven levels that are better than the own clocks its source has one. So with hold-off times of 300, 1 as the longest time
-- and delays of 1
ring_bound : failed_in 300 (count_below (is_planned (ring 2)) 7) 1 1 ≡ 303
unfolding dec_lt
ring_bound = refl

-- two elements with a source each, which each may take the other as a last resort over a link with a delay of 10: neither line bears
-- on the other, but what one brings changes so much later than the sources do
abbrev pair : Topology
pair = record {
  option = I;
  elements = element (codes "A") ∷ element (codes "B") ∷ [];
  links = record { name = codes "L"; a = 0; b = 1; priority_a = 3; priority_b = 3; delay_a = 10; delay_b = 10; bundle = None } ∷ [];
  sources = record { name = codes "S"; at = 0; level = unwrap_or (level_of_name I (codes "QL-PRC")) (do_not_use_of I); priority = 2 }
      ∷ record { name = codes "T"; at = 1; level = unwrap_or (level_of_name I (codes "QL-PRC")) (do_not_use_of I); priority = 2 } ∷ [];
}

pair_lines_into : map (into_sender pair) (0 ∷ 1 ∷ []) ≡ (1 ∷ []) ∷ (0 ∷ []) ∷ []
unfolding lowest_of_bundle dec_lt
pair_lines_into = refl

pair_bears : map (bearing pair) (0 ∷ 1 ∷ []) ≡ [] ∷ [] ∷ []
unfolding lowest_of_bundle dec_lt
pair_bears = refl

pair_bound : failed_in 300 (count_below (is_planned pair) 7) 10 10 ≡ 330
unfolding dec_lt
pair_bound = refl

-- slow is what comes up, and what falls silent though it is up
what_is_slow : map is_slow (Down (part.Link 0) ∷ Up (part.Link 0) ∷ EsmcOff (line_id 0) ∷ EsmcOn (line_id 0) ∷ SourceLevel 0 (do_not_use_of I) ∷ []) ≡ false ∷ true ∷ true ∷ false ∷ false ∷ []
what_is_slow = refl
