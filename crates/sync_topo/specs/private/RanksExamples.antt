-- Walks and a residue at a ring of three links, written by hand.
use Rattle.std.specs.Prelude.{ℕ, None, zero, suc, List, [], ◌∷◌, codes, refl, IsTrue}
use Rattle.sync_ql.specs.declared.levels.NetOption.TheVariants.{I}
use Rattle.sync_topo.specs.declared.link.Link.{Link}
use Rattle.sync_topo.specs.Topology.{Topology}
use Rattle.sync_topo.specs.Bundles.{lowest_of_bundle}
use Rattle.sync_topo.specs.Hops.{hops}
use Rattle.sync_topo.specs.Ranks.{HasWalk, IsResidue, Leads}
use Rattle.sync_topo.specs.private.Examples.{element}

-- a link that is nominated at both ends
abbrev link_between : List ℕ → ℕ → ℕ → Link
link_between name a b = record { name = name; a = a; b = b; priority_a = 1; priority_b = 1; delay_a = 10; delay_b = 10; bundle = None }

-- three elements, each linked to the next and the last to the first
abbrev pub ring : Topology
ring = record {
  option = I;
  elements = element (codes "A") ∷ element (codes "B") ∷ element (codes "C") ∷ [];
  links = link_between (codes "L1") 0 1 ∷ link_between (codes "L2") 1 2 ∷ link_between (codes "L3") 2 0 ∷ [];
  sources = [];
}

-- L2>C is reached from L3>A by two hops, over L1>B
pub two_hops_lead_around : HasWalk (hops ring) 2 2
unfolding lowest_of_bundle
two_hops_lead_around = (0, refl, (4, refl, tt))

pub each_line_leads_to_the_next : Leads (λ line next. IsTrue (hops ring line next)) 0 (2 ∷ 4 ∷ []) 0
unfolding lowest_of_bundle
each_line_leads_to_the_next = (refl, (refl, refl))

-- one may go round as long as one likes
pub walks_around : (n : ℕ) → HasWalk (hops ring) n 0 × HasWalk (hops ring) n 2 × HasWalk (hops ring) n 4
unfolding lowest_of_bundle
walks_around zero = (tt, tt, tt)
walks_around (suc n) =
    let before = walks_around n in
    ((4, refl, before.2), (0, refl, before.0), (2, refl, before.1))

pub a_ring_is_left_over : IsResidue (hops ring) 0
a_ring_is_left_over n = (walks_around n).0
