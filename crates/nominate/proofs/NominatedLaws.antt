-- What holds of the plan that is nominated by the hop counts.
use Rattle.std.proofs.Common.{◌≡◌, ◌≢◌, ℕ, suc, ◌+◌, ◌<◌, ◌≤◌, ◌⊎◌, Bool, true, false, ◌&&◌, ◌==◌, not, List, [], ◌∷◌, length, map, Option, Some, None, refl, sym, ap, subst, ◌∙◌, inl, inr, arith, length-append}
use Rattle.std.specs.Prelude.{nat_lt, nat_le, if◌then◌else◌, slice_index, Ok}
use Rattle.std.proofs.lemmas.Bool.{lt-ltb, eq-eqb, eqb-true, ltb-true, leb-true, true≢false, false≢true, and_parts, false_from_ne_true}
use Rattle.std.proofs.lemmas.List.{length-map}
use Rattle.std.proofs.lemmas.Option.{none-some, same_Some}
use Rattle.sync_topo.specs.declared.input.InputId.TheVariants.{Source}
use Rattle.sync_topo.specs.declared.link.Link.{Link}
use Rattle.sync_topo.specs.declared.rows.PlanRows.{PlanRows}
use Rattle.sync_topo.specs.PlanRows.{plan_of_rows}
use Rattle.sync_topo.specs.RowsOfPlan.{rows_of_plan}
use Rattle.nominate.specs.private.Numbering.{ArePriorities}
use Rattle.sync_topo.specs.Topology.{Topology}
use Rattle.sync_topo.specs.Limits.{greatest_priority, input_limit}
use Rattle.sync_topo.specs.Lines.{line_count, line_input, sender_of, receiver_of, priority_of, is_nominated, lines_into, sources_at, inputs_of}
use Rattle.sync_topo.specs.Bundles.{are_bundled}
use Rattle.sync_topo.specs.Hops.{IsRising}
use Rattle.sync_topo.specs.WellFormed.{IsWellFormed}
use Rattle.sync_topo.proofs.LineLaws.{IsNominated-within}
use Rattle.net_rules.specs.Safety.{IsLoopFree}
use Rattle.net_rules.specs.Settling.{IsOneWay}
use Rattle.net_rules.proofs.Backs.{back-receiver}
use Rattle.net_rules.proofs.PlanLaws.{sender-within}
use Rattle.net_rules.proofs.FinalLaws.{loop_free}
use Rattle.nominate.specs.HopCount.{Counts, count_at, IsRoot, AreHopCounts}
use Rattle.nominate.specs.LocalFacts.{AreNear}
use Rattle.nominate.specs.Nomination.{count_below, comes_before, stands_before, order_place, is_candidate, is_candidate_into, is_earlier, candidate_number, base_priority, numbered_priority, new_priority, nominated_plan, HasFirst}
use Rattle.nominate.proofs.CountLemmas.{count-within}
use Rattle.nominate.proofs.BelowLemmas.{below-false, below-fewer, below-but_one}
use Rattle.nominate.proofs.HopLaws.{near-ends, closer-of_count, facts-by_counts, one-list}
use Rattle.nominate.proofs.OrderLaws.{before-is, before-less, before-itself, before-trans, before-total, before-counted, last-of, first-of}
use Rattle.nominate.proofs.PlanFacts.{changed, lines-same, sender-same, receiver-same, priority-is, changed-well, with-same}

-- a priority fits, and where it is one there is room
fitting : (b c : Bool) (p : ℕ) → (b ≡ true → p ≤ greatest_priority) → (if b && c then p else 0) ≤ greatest_priority
fitting true true p fits = fits refl
fitting true false p fits = omega arith
fitting false c p fits = omega arith

roomy : (b c : Bool) (p : ℕ) → 0 < (if b && c then p else 0) → c ≡ true
roomy true true p some = refl
roomy true false p some = absurd (omega (arith, some))
roomy false c p some = absurd (omega (arith, some))

numbered-fits : (plan : Topology) (element number : ℕ) → numbered_priority plan element number ≤ greatest_priority
numbered-fits plan element number =
    fitting (nat_le (base_priority plan element + number) greatest_priority) (nat_le (number + length (sources_at plan element)) input_limit) (base_priority plan element + number)
    (leb-true (base_priority plan element + number) greatest_priority)

numbered-room : (plan : Topology) (element number : ℕ) → 0 < numbered_priority plan element number → number + length (sources_at plan element) ≤ input_limit
numbered-room plan element number some =
    leb-true (number + length (sources_at plan element)) input_limit
    (roomy (nat_le (base_priority plan element + number) greatest_priority) (nat_le (number + length (sources_at plan element)) input_limit) (base_priority plan element + number) some)

or_zero : (b : Bool) (p : ℕ) → p ≤ greatest_priority → (if b then p else 0) ≤ greatest_priority
or_zero true p fits = fits
or_zero false p fits = omega arith

above_zero : (b : Bool) (p : ℕ) → 0 < (if b then p else 0) → (b ≡ true) × (0 < p)
above_zero true p some = (refl, some)
above_zero false p some = absurd (omega (arith, some))

-- how many inputs an element has
inputs-long : (plan : Topology) (element : ℕ) → length (inputs_of plan element)
    ≡ count_below (λ line. is_nominated plan line && receiver_of plan line == element) (line_count plan) + length (sources_at plan element)
unfolding count_below
inputs-long plan element =
    length-append (map line_input (lines_into plan element)) (map Source (sources_at plan element))
    ∙ ap (λ (n : ℕ). n + length (map Source (sources_at plan element))) (length-map (lines_into plan element) line_input)
    ∙ ap (λ (n : ℕ). length (lines_into plan element) + n) (length-map (sources_at plan element) Source)

-- it is this count
abbrev is_hops : ℕ → Option ℕ → Bool
is_hops hops None = false
is_hops hops (Some count) = count == hops

hops-is : (o : Option ℕ) (hops : ℕ) → is_hops hops o ≡ true → o ≡ Some hops
hops-is None hops never = absurd (false≢true never)
hops-is (Some count) hops same = ap Some (eqb-true count hops same)

is-hops : (o : Option ℕ) (hops : ℕ) → o ≡ Some hops → is_hops hops o ≡ true
is-hops None hops never = absurd (none-some hops never)
is-hops (Some count) hops same = eq-eqb count hops (same_Some count hops same)

-- what comes before a line from one with a count, and is near one with one more, comes from one with the same count
level-lower : (o : Option ℕ) (hops k line : ℕ) → comes_before o k (Some hops) line ≡ true → AreNear o (Some (suc hops)) → (o ≡ Some hops) × (k < line)
level-lower None hops k line before near = absurd near
level-lower (Some m) hops k line before near = elim (before-is m hops k line before) [
  | inl less ↦ absurd (omega (arith, less, near.1))
  | inr level ↦ (ap Some level.0, level.1)
]

module _ (plan : Topology) (counts : Counts) (well : IsWellFormed plan) (are : AreHopCounts plan counts) where
  pub priority-fits : (line : ℕ) → new_priority plan counts line ≤ greatest_priority
  priority-fits line = or_zero (is_candidate plan counts line) (numbered_priority plan (receiver_of plan line) (candidate_number plan counts line)) (numbered-fits plan (receiver_of plan line) (candidate_number plan counts line))

  -- what is nominated is a candidate, and there is room for it
  pub nominated-is : (line : ℕ) → is_nominated (nominated_plan plan counts) line ≡ true
      → (line < line_count plan) × (is_candidate plan counts line ≡ true) × (candidate_number plan counts line + length (sources_at plan (receiver_of plan line)) ≤ input_limit)
  nominated-is line nominated =
      let inside : line < line_count plan = subst (λ (n : ℕ). line < n) (lines-same plan (new_priority plan counts)) (IsNominated-within (nominated_plan plan counts) line nominated) in
      let some : 0 < priority_of (nominated_plan plan counts) line = ltb-true 0 (priority_of (nominated_plan plan counts) line) nominated in
      let given : 0 < new_priority plan counts line = rw (priority-is plan (new_priority plan counts) line inside) at some in
      let both = above_zero (is_candidate plan counts line) (numbered_priority plan (receiver_of plan line) (candidate_number plan counts line)) given in
      (inside, both.0, numbered-room plan (receiver_of plan line) (candidate_number plan counts line) both.1)

  -- a candidate's sender stands before its receiver
  pub candidate-stands : (line : ℕ) → is_candidate plan counts line ≡ true → stands_before counts (sender_of plan line) (receiver_of plan line) ≡ true
  candidate-stands line candidate = (and_parts (nat_lt line (line_count plan)) (stands_before counts (sender_of plan line) (receiver_of plan line)) candidate).1

  -- ---- there is room for all of them

  -- a nominated line into the element
  abbrev takes : ℕ → ℕ → Bool
  takes element line = is_nominated (nominated_plan plan counts) line && receiver_of (nominated_plan plan counts) line == element

  takes-is : (element line : ℕ) → takes element line ≡ true
      → (line < line_count plan) × (is_candidate plan counts line ≡ true) × (receiver_of plan line ≡ element)
      × (candidate_number plan counts line + length (sources_at plan element) ≤ input_limit)
  takes-is element line is =
      let both = and_parts (is_nominated (nominated_plan plan counts) line) (receiver_of (nominated_plan plan counts) line == element) is in
      let facts = nominated-is line both.0 in
      let into : receiver_of plan line ≡ element = sym (receiver-same plan (new_priority plan counts) line) ∙ eqb-true (receiver_of (nominated_plan plan counts) line) element both.1 in
      (facts.0, facts.1, into, subst (λ (e : ℕ). candidate_number plan counts line + length (sources_at plan e) ≤ input_limit) into facts.2)

  -- of two such lines one comes earlier
  takes-total : (element a b : ℕ) → takes element a ≡ true → takes element b ≡ true → a ≢ b → (is_earlier plan counts a b ≡ true) ⊎ (is_earlier plan counts b a ≡ true)
  takes-total element a b is also apart =
      let first = before-counted (count_at counts (sender_of plan a)) (count_at counts (receiver_of plan a)) (sender_of plan a) (receiver_of plan a) (candidate-stands a (takes-is element a is).1) in
      let second = before-counted (count_at counts (sender_of plan b)) (count_at counts (receiver_of plan b)) (sender_of plan b) (receiver_of plan b) (candidate-stands b (takes-is element b also).1) in
      rw (first.2, second.2) (before-total first.0 second.0 a b apart)

  few : (element : ℕ) → length (inputs_of (nominated_plan plan counts) element) ≤ input_limit
  few element =
      by (inputs-long (nominated_plan plan counts) element)
      (last-of (takes element) (is_earlier plan counts) (takes-total element)
      (λ a b c first second. before-trans (count_at counts (sender_of plan a)) (count_at counts (sender_of plan b)) (count_at counts (sender_of plan c)) a b c first second)
      (line_count (nominated_plan plan counts)))
    where
      by : length (inputs_of (nominated_plan plan counts) element) ≡ count_below (takes element) (line_count (nominated_plan plan counts)) + length (sources_at plan element)
          → ((k : ℕ) → k < line_count (nominated_plan plan counts) → takes element k ≡ false)
          ⊎ ((l : ℕ) × (l < line_count (nominated_plan plan counts)) × (takes element l ≡ true)
          × ((k : ℕ) → k < line_count (nominated_plan plan counts) → takes element k ≡ true → (k ≡ l) ⊎ (is_earlier plan counts k l ≡ true)))
          → length (inputs_of (nominated_plan plan counts) element) ≤ input_limit
      by long (inl none) =
          let zero_lines = below-false (takes element) (line_count (nominated_plan plan counts)) none in
          let before = inputs-long plan element in
          let fits = well.few_inputs element in
          omega (arith, long, zero_lines, before, fits)
      by long (inr last) =
          let l : ℕ = last.0 in
          let facts = takes-is element l last.2 in
          let room = facts.3 in
          let all = below-but_one (takes element) (λ k. is_candidate_into plan counts (receiver_of plan l) k && is_earlier plan counts k l) (line_count (nominated_plan plan counts)) l
          (λ k low is. elim (last.3 k low is) [
            | inl same ↦ inl same
            | inr earlier ↦
                let of_k = takes-is element k is in
                let into : (receiver_of plan k == receiver_of plan l) ≡ true = eq-eqb (receiver_of plan k) (receiver_of plan l) (of_k.2 ∙ sym facts.2) in
                inr (rw (of_k.1, into, earlier) refl)
          ]) in
          let same_lines : line_count (nominated_plan plan counts) ≡ line_count plan = lines-same plan (new_priority plan counts) in
          let number : count_below (λ k. is_candidate_into plan counts (receiver_of plan l) k && is_earlier plan counts k l) (line_count (nominated_plan plan counts)) + 1 ≡ candidate_number plan counts l =
          ap (λ (n : ℕ). count_below (λ k. is_candidate_into plan counts (receiver_of plan l) k && is_earlier plan counts k l) n + 1) same_lines in
          omega (arith, long, all, number, room)

  -- the nominated plan keeps every rule
  pub nominated-well : IsWellFormed (nominated_plan plan counts)
  nominated-well = changed-well plan (new_priority plan counts) well priority-fits few

  -- ---- the order rises over hops

  place-rises : (one other : ℕ) → one < length plan.elements → stands_before counts one other ≡ true → order_place plan counts one < order_place plan counts other
  place-rises one other inside before =
      below-fewer (λ e. stands_before counts e one) (λ e. stands_before counts e other) (length plan.elements) one
      (λ e low is. before-trans (count_at counts e) (count_at counts one) (count_at counts other) e one other is before)
      inside (before-itself (count_at counts one) one) before

  pub order-rises : IsRising (nominated_plan plan counts) (λ line. order_place plan counts (sender_of plan line))
  order-rises line next hop =
      let not_back = and_parts (is_nominated (nominated_plan plan counts) line && is_nominated (nominated_plan plan counts) next && receiver_of (nominated_plan plan counts) line == sender_of (nominated_plan plan counts) next)
      (not (are_bundled (nominated_plan plan counts) line next)) hop in
      let meet = and_parts (is_nominated (nominated_plan plan counts) line && is_nominated (nominated_plan plan counts) next) (receiver_of (nominated_plan plan counts) line == sender_of (nominated_plan plan counts) next) not_back.0 in
      let both = and_parts (is_nominated (nominated_plan plan counts) line) (is_nominated (nominated_plan plan counts) next) meet.0 in
      let facts = nominated-is line both.0 in
      let joined : receiver_of plan line ≡ sender_of plan next =
      sym (receiver-same plan (new_priority plan counts) line)
      ∙ eqb-true (receiver_of (nominated_plan plan counts) line) (sender_of (nominated_plan plan counts) next) meet.1
      ∙ sender-same plan (new_priority plan counts) next in
      place-rises (sender_of plan line) (sender_of plan next) (sender-within plan well line facts.0)
      (subst (λ (e : ℕ). stands_before counts (sender_of plan line) e ≡ true) joined (candidate-stands line facts.1))

  -- so no timing loop can form
  pub nominated-loop_free : IsLoopFree (nominated_plan plan counts)
  nominated-loop_free = loop_free (nominated_plan plan counts) (λ line. order_place plan counts (sender_of plan line)) nominated-well order-rises

  -- no two of its lines of one bundle run in opposite directions: each begins at an element that stands before the one at which it ends
  pub nominated-one_way : IsOneWay (nominated_plan plan counts)
  nominated-one_way = λ line back line_nominated back_nominated goes.
      let there : stands_before counts (sender_of plan line) (receiver_of plan line) ≡ true = candidate-stands line (nominated-is line line_nominated).1 in
      let again : stands_before counts (sender_of plan back) (receiver_of plan back) ≡ true = candidate-stands back (nominated-is back back_nominated).1 in
      let meet : sender_of plan back ≡ receiver_of plan line =
      sym (sender-same plan (new_priority plan counts) back)
      ∙ sym (eqb-true (receiver_of (nominated_plan plan counts) line) (sender_of (nominated_plan plan counts) back)
      (and_parts (receiver_of (nominated_plan plan counts) line == sender_of (nominated_plan plan counts) back) (are_bundled (nominated_plan plan counts) line back) goes).0)
      ∙ receiver-same plan (new_priority plan counts) line in
      let ends : receiver_of plan back ≡ sender_of plan line =
      sym (receiver-same plan (new_priority plan counts) back)
      ∙ back-receiver (nominated_plan plan counts) line back nominated-well line_nominated back_nominated goes
      ∙ sender-same plan (new_priority plan counts) line in
      let home : stands_before counts (receiver_of plan line) (sender_of plan line) ≡ true =
      subst (λ (e : ℕ). stands_before counts (receiver_of plan line) e ≡ true) ends (subst (λ (e : ℕ). stands_before counts e (receiver_of plan back) ≡ true) meet again) in
      true≢false (sym (before-trans (count_at counts (sender_of plan line)) (count_at counts (receiver_of plan line)) (count_at counts (sender_of plan line))
      (sender_of plan line) (receiver_of plan line) (sender_of plan line) there home)
      ∙ before-itself (count_at counts (sender_of plan line)) (sender_of plan line))

  -- ---- the first candidate

  -- an element that is no root has no source of its own
  no_sources : (element hops : ℕ) → count_at counts element ≡ Some (suc hops) → element < length plan.elements → sources_at plan element ≡ []
  no_sources element hops is inside = by (sources_at plan element) refl
    where
      by : (sources : List ℕ) → sources_at plan element ≡ sources → sources ≡ []
      by [] are_none = refl
      by (source ∷ sources) some =
          let root : IsRoot plan element = rw some (omega arith) in
          let zero_count = ((facts-by_counts plan counts well are).roots element inside).1 root in
          absurd (omega (arith, same_Some (suc hops) 0 (sym is ∙ zero_count)))

  -- a line into the element from one with this count
  abbrev from_closer : ℕ → ℕ → ℕ → Bool
  from_closer element hops line = receiver_of plan line == element && is_hops hops (count_at counts (sender_of plan line))

  -- the lowest such line has number 1
  number-first : (element hops line : ℕ) → count_at counts element ≡ Some (suc hops) → receiver_of plan line ≡ element → count_at counts (sender_of plan line) ≡ Some hops
      → ((k : ℕ) → k < line → from_closer element hops k ≡ false) → candidate_number plan counts line ≡ 1
  number-first element hops line is into from lowest =
      let none = below-false (λ k. is_candidate_into plan counts (receiver_of plan line) k && is_earlier plan counts k line) (line_count plan)
      (λ k low. false_from_ne_true (is_candidate_into plan counts (receiver_of plan line) k && is_earlier plan counts k line) (never k low)) in
      omega (arith, none)
    where
      -- an earlier candidate would come from one with a lower count, or be a lower line
      never : (k : ℕ) → k < line_count plan → (is_candidate_into plan counts (receiver_of plan line) k && is_earlier plan counts k line) ≡ true → ⊥
      never k low passes =
          let parts = and_parts (is_candidate_into plan counts (receiver_of plan line) k) (is_earlier plan counts k line) passes in
          let there = and_parts (is_candidate plan counts k) (receiver_of plan k == receiver_of plan line) parts.0 in
          let same : receiver_of plan k ≡ element = eqb-true (receiver_of plan k) (receiver_of plan line) there.1 ∙ into in
          let near : AreNear (count_at counts (sender_of plan k)) (Some (suc hops)) =
          subst (λ (o : Option ℕ). AreNear (count_at counts (sender_of plan k)) o) (ap (count_at counts) same ∙ is) (near-ends plan counts well are k low) in
          let before = subst (λ (o : Option ℕ). comes_before (count_at counts (sender_of plan k)) k o line ≡ true) from parts.1 in
          let level = level-lower (count_at counts (sender_of plan k)) hops k line before near in
          let there_too : from_closer element hops k ≡ true = rw (eq-eqb (receiver_of plan k) element same) (is-hops (count_at counts (sender_of plan k)) hops level.0) in
          true≢false (sym there_too ∙ lowest k level.1)

  -- and priority 1
  priority-first : (element : ℕ) → sources_at plan element ≡ [] → numbered_priority plan element 1 ≡ 1
  priority-first element none = rw none refl

  pub has-first : (element hops : ℕ) → count_at counts element ≡ Some (suc hops) → HasFirst (nominated_plan plan counts) counts element hops
  has-first element hops is =
      let closer = closer-of_count plan counts well are element hops is in
      by (first-of (from_closer element hops) (line_count plan)) closer.0 closer.1 closer.2 closer.3
    where
      by : ((k : ℕ) → k < line_count plan → from_closer element hops k ≡ false)
          ⊎ ((l : ℕ) × (l < line_count plan) × (from_closer element hops l ≡ true) × ((k : ℕ) → k < l → from_closer element hops k ≡ false))
          → (line : ℕ) → line < line_count plan → receiver_of plan line ≡ element → count_at counts (sender_of plan line) ≡ Some hops
          → HasFirst (nominated_plan plan counts) counts element hops
      by (inl none) line inside into from =
          absurd (true≢false (sym (rw (eq-eqb (receiver_of plan line) element into) (is-hops (count_at counts (sender_of plan line)) hops from)) ∙ none line inside))
      by (inr first) line inside into from =
          let l : ℕ = first.0 in
          let parts = and_parts (receiver_of plan l == element) (is_hops hops (count_at counts (sender_of plan l))) first.2 in
          let into_l : receiver_of plan l ≡ element = eqb-true (receiver_of plan l) element parts.0 in
          let from_l : count_at counts (sender_of plan l) ≡ Some hops = hops-is (count_at counts (sender_of plan l)) hops parts.1 in
          let number = number-first element hops l is into_l from_l first.3 in
          let stands : stands_before counts (sender_of plan l) (receiver_of plan l) ≡ true =
          rw (from_l, into_l, is) (before-less hops (suc hops) (sender_of plan l) element (omega arith)) in
          let candidate : is_candidate plan counts l ≡ true = rw (lt-ltb l (line_count plan) first.1) stands in
          let given : new_priority plan counts l ≡ 1 =
          rw (candidate, number, into_l) (priority-first element (no_sources element hops is (subst (λ (n : ℕ). element < n) are.counted (count-within counts element (suc hops) is)))) in
          record {
            line = l;
            within = subst (λ (n : ℕ). l < n) (sym (lines-same plan (new_priority plan counts))) first.1;
            into = receiver-same plan (new_priority plan counts) l ∙ into_l;
            first = priority-is plan (new_priority plan counts) l first.1 ∙ given;
            from = ap (count_at counts) (sender-same plan (new_priority plan counts) l) ∙ from_l;
          }

  -- ---- the rows that are handed in

  -- the plan with the priorities that are given is the nominated plan
  pub given-plan : (priorities : List ℕ) → ArePriorities plan (new_priority plan counts) priorities
      → changed plan (λ line. slice_index priorities line) ≡ nominated_plan plan counts
  given-plan priorities given =
      ap (λ (links : List Link). record plan { links = links })
      (with-same (λ line. slice_index priorities line) (new_priority plan counts) 0 plan.links (λ line low high. given.each line (omega (arith, high))))

  pub nominated-rows : (priorities : List ℕ) (rows : PlanRows) → ArePriorities plan (new_priority plan counts) priorities
      → rows ≡ rows_of_plan (changed plan (λ line. slice_index priorities line))
      → ((p : Topology) → IsWellFormed p → plan_of_rows (rows_of_plan p) ≡ Ok p) → plan_of_rows rows ≡ Ok (nominated_plan plan counts)
  nominated-rows priorities rows given are_rows again =
      ap plan_of_rows (are_rows ∙ ap rows_of_plan (given-plan priorities given)) ∙ again (nominated_plan plan counts) nominated-well

  -- what is nominated stays so with any other list of hop counts, since there is one
  pub first-for_any : (nominated : Topology) → nominated ≡ nominated_plan plan counts → (others : Counts) (element hops : ℕ) → AreHopCounts plan others
      → count_at others element ≡ Some (suc hops) → HasFirst nominated others element hops
  first-for_any nominated is others element hops also counted =
      let same : counts ≡ others = one-list plan counts others are also in
      subst (λ (p : Topology). HasFirst p others element hops) (sym is)
      (subst (λ (c : Counts). count_at c element ≡ Some (suc hops) → HasFirst (nominated_plan plan counts) c element hops) same (has-first element hops) counted)
