-- In the ladder each nominated line leads to an element of a greater number, so that the receivers' numbers rise over every hop.
use Rattle.std.proofs.Common.{◌≡◌, ℕ, ◌+◌, ◌/◌, ◌<◌, zero, suc, Bool, true, false, not, ◌&&◌, ◌==◌, List, [], ◌∷◌, ◌++◌, Option, Some, None, refl, sym, subst, arith}
use Rattle.std.specs.Prelude.{flat_map, slice_get}
use Rattle.std.specs.List.{AllByRecursion, range_with_len}
use Rattle.std.proofs.lemmas.Bool.{and_parts, eqb-true, true≢false}
use Rattle.std.proofs.lemmas.Option.{same_Some, none-some}
use Rattle.sync_topo.specs.declared.link.Link.{Link}
use Rattle.sync_topo.specs.Topology.{Topology}
use Rattle.sync_topo.specs.Lines.{link_of, ends_at_b, sender_of, receiver_of, is_nominated}
use Rattle.sync_topo.specs.Bundles.{are_bundled}
use Rattle.sync_topo.specs.Hops.{IsRising}
use Rattle.plan_gen.specs.Ladder.{links_up_to, ladder}

-- a link leads to an element of a greater number, which alone may take its timing from it
record LeadsUp (link : Link) : Type 0 where
  up : link.a < link.b
  one_way : link.priority_a ≡ 0

-- so do the links up to an element
links_lead_up : (j : ℕ) → AllByRecursion LeadsUp (links_up_to j)
links_lead_up zero = tt
links_lead_up (suc zero) = (record { up = omega arith; one_way = refl }, tt)
links_lead_up (suc (suc i)) = (record { up = omega arith; one_way = refl }, (record { up = omega arith; one_way = refl }, tt))

-- what holds of the links of two lists holds of those of both
both_lists : (links more : List Link) → AllByRecursion LeadsUp links → AllByRecursion LeadsUp more → AllByRecursion LeadsUp (links ++ more)
both_lists [] more all others = others
both_lists (link ∷ links) more all others = (all.0, both_lists links more all.1 others)

-- so it does of those up to each element of a range
all_lead_up : (start n : ℕ) → AllByRecursion LeadsUp (flat_map links_up_to (range_with_len start n))
all_lead_up start zero = tt
all_lead_up start (suc n) = both_lists (links_up_to start) (flat_map links_up_to (range_with_len (start + 1) n)) (links_lead_up start) (all_lead_up (start + 1) n)

-- and of the one at a place
leads_up_at : (links : List Link) (k : ℕ) (link : Link) → AllByRecursion LeadsUp links → slice_get links k ≡ Some link → LeadsUp link
leads_up_at [] k link all is = absurd (none-some link is)
leads_up_at (first ∷ links) zero link all is = subst LeadsUp (same_Some first link is) all.0
leads_up_at (first ∷ links) (suc k) link all is = leads_up_at links k link all.1 is

-- a nominated line of the ladder leads up
nominated_leads_up : (n line : ℕ) → is_nominated (ladder n) line ≡ true → sender_of (ladder n) line < receiver_of (ladder n) line
nominated_leads_up n line nominated = by (link_of (ladder n) line) refl (ends_at_b line) refl
  where
    by : (found : Option Link) → link_of (ladder n) line ≡ found → (to_b : Bool) → ends_at_b line ≡ to_b → sender_of (ladder n) line < receiver_of (ladder n) line
    by None is to_b end = absurd (true≢false (sym (rw is at nominated)))
    by (Some link) is true end = rw (is, end) (leads_up_at (ladder n).links (line / 2) link (all_lead_up 0 n) is).up
    by (Some link) is false end =
        let none : link.priority_a ≡ 0 = (leads_up_at (ladder n).links (line / 2) link (all_lead_up 0 n) is).one_way in
        absurd (true≢false (sym (rw (is, end, none) at nominated)))

-- the receivers' numbers rise
pub ladder_rises : (n : ℕ) → IsRising (ladder n) (receiver_of (ladder n))
ladder_rises n line next hop =
    let plan : Topology = ladder n in
    let ends = and_parts (is_nominated plan line && is_nominated plan next && receiver_of plan line == sender_of plan next) (not (are_bundled plan line next)) hop in
    let both = and_parts (is_nominated plan line && is_nominated plan next) (receiver_of plan line == sender_of plan next) ends.0 in
    let nominated = and_parts (is_nominated plan line) (is_nominated plan next) both.0 in
    let meets = eqb-true (receiver_of plan line) (sender_of plan next) both.1 in
    subst (λ e. e < receiver_of plan next) (sym meets) (nominated_leads_up n next nominated.1)
