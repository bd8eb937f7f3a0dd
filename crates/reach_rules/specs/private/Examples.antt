-- Chains that can be counted by hand.
use Rattle.std.specs.Prelude.{◌≡◌, ℕ, List, [], ◌∷◌, map, filter, codes, None, refl, unwrap_or}
use Rattle.std.specs.List.{range_with_len}
use Rattle.sync_ql.specs.declared.levels.NetOption.{NetOption}
use Rattle.sync_ql.specs.declared.levels.NetOption.TheVariants.{I, II}
use native.Mathlib.Decide.{dec_lt}
use Rattle.sync_ql.specs.Table.{Row, levels_of}
use Rattle.sync_ql.specs.Level.{level_of_name, do_not_use_of}
use Rattle.sync_topo.specs.declared.element.Element.{Element}
use Rattle.sync_topo.specs.declared.link.Link.{Link}
use Rattle.sync_topo.specs.Topology.{Topology}
use Rattle.sync_topo.specs.Bundles.{lowest_of_bundle}
use Rattle.sync_topo.specs.Hops.{hops}
use Rattle.sync_topo.specs.private.Examples.{element}
use Rattle.reach_rules.specs.Chains.{is_filter_level, IsChain, clocks_of, since_of}

-- the names of the levels whose clocks are filters
abbrev filters : NetOption → List (List ℕ)
filters option =
    map (λ (row : Row). row.name)
    (filter (λ row. is_filter_level (unwrap_or (level_of_name option row.name) (do_not_use_of option))) (levels_of option))

filters_of_option_one : filters I ≡ codes "QL-ePRTC" ∷ codes "QL-PRTC" ∷ codes "QL-ePRC" ∷ codes "QL-PRC" ∷ codes "QL-SSU-A" ∷ codes "QL-SSU-B" ∷ []
unfolding dec_lt
filters_of_option_one = refl

filters_of_option_two : filters II
    ≡ codes "QL-ePRTC" ∷ codes "QL-PRTC" ∷ codes "QL-ePRC" ∷ codes "QL-PRS" ∷ codes "QL-STU" ∷ codes "QL-ST2" ∷ codes "QL-TNC" ∷ codes "QL-ST3E" ∷ []
unfolding dec_lt
filters_of_option_two = refl

-- an element whose own clock has this level of option I
abbrev clock : List ℕ → List ℕ → Element
clock name level = record (element name) { own = unwrap_or (level_of_name I level) (do_not_use_of I) }

-- a link that is nominated at its end b alone
abbrev link : List ℕ → ℕ → ℕ → Link
link name a b = record { name = name; a = a; b = b; priority_a = 0; priority_b = 1; delay_a = 1; delay_b = 1; bundle = None }

-- A, B, C and D one after another, where B's clock has this level
abbrev row : List ℕ → Topology
row level = record {
  option = I;
  elements = element (codes "A") ∷ clock (codes "B") level ∷ element (codes "C") ∷ element (codes "D") ∷ [];
  links = link (codes "L1") 0 1 ∷ link (codes "L2") 1 2 ∷ link (codes "L3") 2 3 ∷ [];
  sources = [];
}

-- the lines that hop to a line, and what is counted of the chain into D, its last line first
abbrev before : Topology → ℕ → List ℕ
before plan line = filter (λ from. hops plan from line) (range_with_len 0 6)

one_line_hops_to_each : map (before (row (codes "QL-SEC"))) (0 ∷ 1 ∷ 2 ∷ 3 ∷ 4 ∷ 5 ∷ []) ≡ [] ∷ [] ∷ (0 ∷ []) ∷ [] ∷ (2 ∷ []) ∷ [] ∷ []
unfolding lowest_of_bundle dec_lt
one_line_hops_to_each = refl

into_d : IsChain (row (codes "QL-SEC")) 3 (4 ∷ 2 ∷ 0 ∷ [])
unfolding lowest_of_bundle dec_lt
into_d = (refl, refl, (refl, (refl, tt)))

lines_before_a_filter_are_left_out : since_of (row (codes "QL-SSU-A")) (4 ∷ 2 ∷ 0 ∷ []) ≡ 2
unfolding dec_lt
lines_before_a_filter_are_left_out = refl

without_a_filter_all_lines_count : since_of (row (codes "QL-SEC")) (4 ∷ 2 ∷ 0 ∷ []) ≡ 3
unfolding dec_lt
without_a_filter_all_lines_count = refl

-- a chain passes the filter that it comes out of, and not the one into which it leads
filters_are_counted_where_lines_begin : map (clocks_of (row (codes "QL-SSU-B"))) ((0 ∷ []) ∷ (2 ∷ 0 ∷ []) ∷ (4 ∷ 2 ∷ 0 ∷ []) ∷ []) ≡ 0 ∷ 1 ∷ 1 ∷ []
unfolding dec_lt
filters_are_counted_where_lines_begin = refl
