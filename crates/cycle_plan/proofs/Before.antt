-- The line before a line, in a plan in which all that can be ranked is ranked.
use Rattle.std.proofs.Common.{◌≡◌, ℕ, ◌≤◌, zero, suc, Bool, true, List, Option, Some, None, refl, sym, ap, ◌∙◌, inl, inr, arith}
use Rattle.std.specs.Prelude.{◌≢◌, ◌&&◌, is_none, find}
use Rattle.std.specs.List.{range_with_len}
use Rattle.std.proofs.lemmas.Bool.{true≢false, cases_lt, cases_eq, and_from, and_parts}
use Rattle.std.proofs.lemmas.Option.{same_Some}
use Rattle.sync_text.proofs.Ranges.{find_range-Some, find_range-None}
use Rattle.sync_topo.specs.Topology.{Topology}
use Rattle.sync_topo.specs.Ranks.{IsResidue, IsBefore, IsLowestResidue, StepsBack}
use Rattle.sync_topo.specs.Lines.{line_count, is_nominated, IsNominated, sender_of, inputs_of}
use Rattle.sync_topo.proofs.LineLaws.{IsNominated-within}
use Rattle.rank_cert.specs.Ranks.{Ranks, rank_at}
use Rattle.sync_topo.specs.declared.input.InputId.{InputId}
use Rattle.sync_topo.specs.declared.returns.ReturnRule.{ReturnRule}
use Rattle.sync_topo.specs.Hops.{HopsBy, hops_by}
use Rattle.cycle_plan.specs.private.Numbers.{number_in, number_out}
use Rattle.cycle_plan.specs.private.Inputs.{line_at, IsOpenLine, AreFirstOpen}
use Rattle.cycle_plan.specs.private.Peeling.{IsPeeled}
use Rattle.cycle_plan.specs.private.GoingBack.{IsLeft, HasRound}
use Rattle.cycle_plan.proofs.Back.{comes_round}
use Rattle.cycle_plan.specs.declared.inputs.OpenInputs.{OpenInputs}
use Rattle.cycle_plan.proofs.HopFacts.{line_at_within, hop_parts, hop_from, input_is, inputs_rise}
use Rattle.cycle_plan.proofs.Settling.{open_place}
use Rattle.cycle_plan.proofs.WatchLemmas.{closed_line, line_at_open, past_end}
use Rattle.cycle_plan.proofs.Walks.{endless, residue_unranked, residue_nominated}

-- a plan in which all that can be ranked is ranked
abbrev pub IsPeeledPlan : ReturnRule → Topology → Ranks → Type 0
IsPeeledPlan returns plan ranks = IsPeeled (hops_by returns plan) (is_nominated plan) (rank_at ranks)

-- what is left over is the residue
pub left_residue : (returns : ReturnRule) (plan : Topology) (ranks : Ranks) (line : ℕ) → IsPeeledPlan returns plan ranks → IsLeft plan ranks line → IsResidue (hops_by returns plan) line
left_residue returns plan ranks line peeled left =
    λ n. endless (hops_by returns plan) (is_nominated plan) (rank_at ranks) (λ from next hop. (hop_parts returns plan from next hop).0) peeled n line left.nominated left.unranked

pub residue_left : (returns : ReturnRule) (plan : Topology) (ranks : Ranks) (line : ℕ) → IsPeeledPlan returns plan ranks → IsResidue (hops_by returns plan) line → IsLeft plan ranks line
residue_left returns plan ranks line peeled residue =
    let nominated : IsNominated plan line = residue_nominated (hops_by returns plan) (is_nominated plan) (λ from next hop. (hop_parts returns plan from next hop).1) line residue in
    record {
      nominated = nominated;
      within = IsNominated-within plan line nominated;
      unranked = residue_unranked (hops_by returns plan) (rank_at ranks) peeled.exact line residue;
    }

-- a line without a rank that hops to the line is an open input of its sender, at or behind the first open place
place_of_hop : (returns : ReturnRule) (plan : Topology) (ranks : Ranks) (watch : OpenInputs) (line from : ℕ)
    → AreFirstOpen returns plan ranks (inputs_of plan (sender_of plan line)) watch → HopsBy returns plan from line → rank_at ranks from ≡ None
    → (place : ℕ) × IsOpenLine ranks (inputs_of plan (sender_of plan line)) place from × (watch.first ≤ place)
place_of_hop returns plan ranks watch line from places hop none =
    let inputs : List InputId = inputs_of plan (sender_of plan line) in
    let parts = hop_parts returns plan from line hop in
    let at = open_place plan ranks (sender_of plan line) from (record { nominated = parts.0; into = parts.2; unranked = none }) in
    elim (cases_lt at.0 watch.first) [
      | inl before ↦ absurd (closed_line ranks inputs at.0 from (places.watched.before at.0 before) at.1)
      | inr not_before ↦ (at.0, at.1, not_before)
    ]

-- where the first open input is of the line's bundle, it is at or behind the second
place_behind : (returns : ReturnRule) (plan : Topology) (ranks : Ranks) (watch : OpenInputs) (line first from place : ℕ)
    → AreFirstOpen returns plan ranks (inputs_of plan (sender_of plan line)) watch → line_at (inputs_of plan (sender_of plan line)) watch.first ≡ Some first
    → number_in returns plan first ≡ number_out returns plan line → HopsBy returns plan from line → IsOpenLine ranks (inputs_of plan (sender_of plan line)) place from
    → watch.first ≤ place → watch.second ≤ place
place_behind returns plan ranks watch line first from place places here back hop stands low = elim (cases_lt place watch.second) [
  | inl between ↦
      let inputs : List InputId = inputs_of plan (sender_of plan line) in
      let first_inside = line_at_within inputs watch.first first here in
      let stands_first = line_at_open ranks inputs watch.first first here (places.first first_inside) in
      let bundles = places.watched.between place watch.first from first low between (omega arith) (omega (arith, low, between)) stands stands_first in
      absurd ((hop_parts returns plan from line hop).3 (bundles ∙ back))
  | inr behind ↦ behind
]

-- the lines at two places, of which one is not behind the other
in_order : (plan : Topology) (element place later one other : ℕ) → place ≤ later → line_at (inputs_of plan element) place ≡ Some one
    → line_at (inputs_of plan element) later ≡ Some other → one ≤ other
in_order plan element place later one other order here there = elim (cases_eq place later) [
  | inl same ↦
      let is : one ≡ other = same_Some one other (sym here ∙ ap (λ p. line_at (inputs_of plan element) p) same ∙ there) in omega (arith, is)
  | inr differs ↦ let less = inputs_rise plan element place later one other (omega (arith, order, differs)) here there in omega (arith, less)
]

-- the first open input is there
pub first_there : (returns : ReturnRule) (plan : Topology) (ranks : Ranks) (watch : OpenInputs) (line : ℕ) → IsPeeledPlan returns plan ranks
    → AreFirstOpen returns plan ranks (inputs_of plan (sender_of plan line)) watch → IsLeft plan ranks line → line_at (inputs_of plan (sender_of plan line)) watch.first ≡ None → ⊥
first_there returns plan ranks watch line peeled places left none =
    let held = peeled.stuck line left.nominated left.unranked in
    let at = place_of_hop returns plan ranks watch line held.0 places held.1 held.2 in
    let inside = line_at_within (inputs_of plan (sender_of plan line)) at.0 held.0 at.1.here in
    let end = past_end ranks (inputs_of plan (sender_of plan line)) watch.first places.first none in
    omega (arith, inside, end, at.2)

-- one of another bundle is there where the first is of the line's own
pub second_there : (returns : ReturnRule) (plan : Topology) (ranks : Ranks) (watch : OpenInputs) (line first : ℕ) → IsPeeledPlan returns plan ranks
    → AreFirstOpen returns plan ranks (inputs_of plan (sender_of plan line)) watch → IsLeft plan ranks line
    → line_at (inputs_of plan (sender_of plan line)) watch.first ≡ Some first → number_in returns plan first ≡ number_out returns plan line
    → line_at (inputs_of plan (sender_of plan line)) watch.second ≡ None → ⊥
second_there returns plan ranks watch line first peeled places left here back none =
    let held = peeled.stuck line left.nominated left.unranked in
    let at = place_of_hop returns plan ranks watch line held.0 places held.1 held.2 in
    let behind = place_behind returns plan ranks watch line first held.0 at.0 places here back held.1 at.1 at.2 in
    let inside = line_at_within (inputs_of plan (sender_of plan line)) at.0 held.0 at.1.here in
    let end = past_end ranks (inputs_of plan (sender_of plan line)) watch.second places.second none in
    omega (arith, inside, end, behind)

left_at : (plan : Topology) (ranks : Ranks) (line from place : ℕ) → IsOpenLine ranks (inputs_of plan (sender_of plan line)) place from → IsLeft plan ranks from
left_at plan ranks line from place stands =
    let is = input_is plan (sender_of plan line) place from stands.here in
    record { nominated = is.0; within = IsNominated-within plan from is.0; unranked = stands.unranked }

hops_at : (returns : ReturnRule) (plan : Topology) (line from place : ℕ) → IsNominated plan line → line_at (inputs_of plan (sender_of plan line)) place ≡ Some from
    → number_in returns plan from ≢ number_out returns plan line → HopsBy returns plan from line
hops_at returns plan line from place nominated here apart =
    let is = input_is plan (sender_of plan line) place from here in
    hop_from returns plan from line is.0 nominated is.1 apart

-- the first open input is before the line where it is of another bundle
pub before_first : (returns : ReturnRule) (plan : Topology) (ranks : Ranks) (watch : OpenInputs) (line first : ℕ) → IsPeeledPlan returns plan ranks
    → AreFirstOpen returns plan ranks (inputs_of plan (sender_of plan line)) watch → IsLeft plan ranks line
    → line_at (inputs_of plan (sender_of plan line)) watch.first ≡ Some first → number_in returns plan first ≢ number_out returns plan line
    → IsLeft plan ranks first × IsBefore (hops_by returns plan) first line
before_first returns plan ranks watch line first peeled places left here apart =
    let inputs : List InputId = inputs_of plan (sender_of plan line) in
    let first_left : IsLeft plan ranks first =
    left_at plan ranks line first watch.first (line_at_open ranks inputs watch.first first here (places.first (line_at_within inputs watch.first first here))) in (
      first_left,
      record {
        residue = left_residue returns plan ranks first peeled first_left;
        hops = hops_at returns plan line first watch.first left.nominated here apart;
        lowest = λ other residue hop.
            let at = place_of_hop returns plan ranks watch line other places hop (residue_left returns plan ranks other peeled residue).unranked in
            in_order plan (sender_of plan line) watch.first at.0 first other at.2 here at.1.here;
      },
    )

-- and else the first open one of another bundle
pub before_second : (returns : ReturnRule) (plan : Topology) (ranks : Ranks) (watch : OpenInputs) (line first second : ℕ) → IsPeeledPlan returns plan ranks
    → AreFirstOpen returns plan ranks (inputs_of plan (sender_of plan line)) watch → IsLeft plan ranks line
    → line_at (inputs_of plan (sender_of plan line)) watch.first ≡ Some first → number_in returns plan first ≡ number_out returns plan line
    → line_at (inputs_of plan (sender_of plan line)) watch.second ≡ Some second
    → IsLeft plan ranks second × IsBefore (hops_by returns plan) second line
before_second returns plan ranks watch line first second peeled places left here back there =
    let inputs : List InputId = inputs_of plan (sender_of plan line) in
    let second_left : IsLeft plan ranks second =
    left_at plan ranks line second watch.second
    (line_at_open ranks inputs watch.second second there (places.second (line_at_within inputs watch.second second there))) in (
      second_left,
      record {
        residue = left_residue returns plan ranks second peeled second_left;
        hops = hops_at returns plan line second watch.second left.nominated there (λ same. places.differ first second here there (back ∙ sym same));
        lowest = λ other residue hop.
            let at = place_of_hop returns plan ranks watch line other places hop (residue_left returns plan ranks other peeled residue).unranked in
            let behind = place_behind returns plan ranks watch line first other at.0 places here back hop at.1 at.2 in
            in_order plan (sender_of plan line) watch.second at.0 second other behind there at.1.here;
      },
    )

-- the lowest line that is left is the lowest of the residue
pub lowest_left : (returns : ReturnRule) (plan : Topology) (ranks : Ranks) (line : ℕ) → IsPeeledPlan returns plan ranks → IsLeft plan ranks line
    → ((other : ℕ) → IsLeft plan ranks other → line ≤ other) → IsLowestResidue (hops_by returns plan) line
lowest_left returns plan ranks line peeled left low = record {
  residue = left_residue returns plan ranks line peeled left;
  lowest = λ other residue. low other (residue_left returns plan ranks other peeled residue);
}

-- each line that is left has a line before it
pub before_there : (returns : ReturnRule) (plan : Topology) (ranks : Ranks) (line : ℕ) → IsPeeledPlan returns plan ranks → IsLeft plan ranks line
    → (before : ℕ) × IsBefore (hops_by returns plan) before line × IsLeft plan ranks before
before_there returns plan ranks line peeled left = cases (find holds (range_with_len 0 (line_count plan))) refl
  where
    holds : ℕ → Bool
    holds from = hops_by returns plan from line && is_none (rank_at ranks from)

    holds_from : (from : ℕ) → IsLeft plan ranks from → HopsBy returns plan from line → holds from ≡ true
    holds_from from from_left hop = and_from (hops_by returns plan from line) (is_none (rank_at ranks from)) hop (rw from_left.unranked refl)

    unranked_from : (o : Option ℕ) → is_none o ≡ true → o ≡ None
    unranked_from None e = refl
    unranked_from (Some rank) e = absurd (true≢false (sym e))

    cases : (o : Option ℕ) → find holds (range_with_len 0 (line_count plan)) ≡ o
        → (before : ℕ) × IsBefore (hops_by returns plan) before line × IsLeft plan ranks before
    cases None none =
        let held = peeled.stuck line left.nominated left.unranked in
        let nominated = (hop_parts returns plan held.0 line held.1).0 in
        let within = IsNominated-within plan held.0 nominated in
        let held_left : IsLeft plan ranks held.0 = record { nominated = nominated; within = within; unranked = held.2 } in
        absurd (true≢false (sym (holds_from held.0 held_left held.1) ∙ find_range-None holds 0 (line_count plan) none held.0 (omega arith) (omega (arith, within))))
    cases (Some from) found =
        let facts = find_range-Some holds 0 (line_count plan) from found in
        let parts = and_parts (hops_by returns plan from line) (is_none (rank_at ranks from)) facts.0 in
        let nominated = (hop_parts returns plan from line parts.0).0 in
        let from_left : IsLeft plan ranks from =
        record { nominated = nominated; within = IsNominated-within plan from nominated; unranked = unranked_from (rank_at ranks from) parts.1 } in (
          from,
          record {
            residue = left_residue returns plan ranks from peeled from_left;
            hops = parts.0;
            lowest = λ other residue hop. elim (cases_lt other from) [
              | inl lower ↦
                  absurd (true≢false (sym (holds_from other (residue_left returns plan ranks other peeled residue) hop) ∙ facts.1 other (omega arith) lower))
              | inr not_lower ↦ not_lower
            ];
          },
          from_left,
        )

-- so one may go back for ever
trail : (returns : ReturnRule) (plan : Topology) (ranks : Ranks) (start : ℕ) → IsPeeledPlan returns plan ranks → IsLeft plan ranks start → (steps : ℕ)
    → (line : ℕ) × StepsBack (hops_by returns plan) steps start line × IsLeft plan ranks line
trail returns plan ranks start peeled left zero = (start, refl, left)
trail returns plan ranks start peeled left (suc steps) =
    let at = trail returns plan ranks start peeled left steps in
    let next = before_there returns plan ranks at.0 peeled at.2 in
    (next.0, (at.0, at.1, next.1), next.2)

-- and after as many steps as there are lines one is on a ring
pub round_there : (returns : ReturnRule) (plan : Topology) (ranks : Ranks) (start on : ℕ) → IsPeeledPlan returns plan ranks → IsLeft plan ranks start
    → StepsBack (hops_by returns plan) (line_count plan) start on → HasRound (hops_by returns plan) (line_count plan) on
round_there returns plan ranks start on peeled left taken =
    comes_round (hops_by returns plan) (line_count plan) start on
    (λ steps. let at = trail returns plan ranks start peeled left steps in (at.0, at.1, at.2.within)) taken

-- a line that is nominated and has no rank is left
pub left_from : (plan : Topology) (ranks : Ranks) (line : ℕ) → (is_nominated plan line && is_none (rank_at ranks line)) ≡ true → IsLeft plan ranks line
left_from plan ranks line lacks =
    let parts = and_parts (is_nominated plan line) (is_none (rank_at ranks line)) lacks in
    record { nominated = parts.0; within = IsNominated-within plan line parts.0; unranked = none_from (rank_at ranks line) parts.1 }
  where
    none_from : (o : Option ℕ) → is_none o ≡ true → o ≡ None
    none_from None e = refl
    none_from (Some rank) e = absurd (true≢false (sym e))
