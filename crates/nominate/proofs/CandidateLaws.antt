-- The candidates into an element are those from elements with one less, and then those from elements with the same count.
use Rattle.std.proofs.Common.{◌≡◌, ℕ, suc, ◌+◌, ◌<◌, ◌≤◌, Bool, true, false, ◌&&◌, ◌||◌, ◌==◌, List, length, Option, Some, None, refl, sym, ap, subst, ◌∙◌, inl, inr, arith}
use Rattle.std.specs.Prelude.{nat_lt, slice_index, replicate}
use Rattle.std.proofs.lemmas.Bool.{cases_lt, cases_eq, lt-ltb, le-ltb, eq-eqb, ne_eqb, eqb-true, true≢false, and_parts}
use Rattle.std.proofs.lemmas.List.{get_or-replicate}
use Rattle.sync_topo.specs.Topology.{Topology}
use Rattle.sync_topo.specs.Lines.{line_count, sender_of, receiver_of}
use Rattle.sync_topo.specs.WellFormed.{IsWellFormed}
use Rattle.net_rules.proofs.PlanLaws.{receiver-within}
use Rattle.nominate.specs.HopCount.{Counts, count_at, AreHopCounts, is_one_less}
use Rattle.nominate.specs.LocalFacts.{AreNear}
use Rattle.nominate.specs.Nomination.{count_below, comes_before, stands_before, is_candidate, is_candidate_into, is_earlier, candidate_number, numbered_priority, new_priority}
use Rattle.nominate.specs.private.Numbering.{is_across, leads, leads_into, IsNumbered, ArePriorities}
use Rattle.nominate.specs.declared.numbering.Numbering.{Numbering}
use Rattle.nominate.proofs.BelowLemmas.{below-same, below-cut, below-or, below-le}
use Rattle.nominate.proofs.HopLaws.{near-ends}

-- where two ends are near, the lower count is one less
less-one_less : (one other : ℕ) → other ≤ suc one → nat_lt one other ≡ (one + 1 == other)
less-one_less one other near = elim (cases_lt one other) [
  | inl low ↦ lt-ltb one other low ∙ sym (eq-eqb (one + 1) other (omega (arith, low, near)))
  | inr high ↦ le-ltb one other high ∙ sym (ne_eqb (one + 1) other (omega (arith, high)))
]

-- a line is a candidate just where it leads on in one of the two ways
candidate-kinds : (one other : Option ℕ) (s r : ℕ) → AreNear one other → comes_before one s other r ≡ (is_one_less one other || is_across one s other r)
candidate-kinds None None s r near = refl
candidate-kinds None (Some other) s r near = absurd near
candidate-kinds (Some one) None s r near = absurd near
candidate-kinds (Some one) (Some other) s r near = ap (λ b. b || (one == other && nat_lt s r)) (less-one_less one other near.1)

-- not in both
kinds-apart : (one other : Option ℕ) (s r : ℕ) → is_one_less one other ≡ true → is_across one s other r ≡ false
kinds-apart None other s r is = absurd (true≢false (sym is))
kinds-apart (Some one) None s r is = absurd (true≢false (sym is))
kinds-apart (Some one) (Some other) s r is =
    let less : one + 1 ≡ other = eqb-true (one + 1) other is in
    ap (λ b. b && nat_lt s r) (ne_eqb one other (omega (arith, less)))

-- the earlier candidates, where the line comes from one with one less
earlier-one_less : (this count further : Option ℕ) (s e other line : ℕ) → AreNear this count → AreNear further count → is_one_less further count ≡ true
    → (comes_before this s count e && comes_before this other further line) ≡ (is_one_less this count && nat_lt other line)
earlier-one_less None None further s e other line near also is = refl
earlier-one_less None (Some n) further s e other line near also is = absurd near
earlier-one_less (Some k) None further s e other line near also is = absurd near
earlier-one_less (Some k) (Some n) None s e other line near also is = absurd (true≢false (sym is))
earlier-one_less (Some k) (Some n) (Some m) s e other line near also is =
    let less : m + 1 ≡ n = eqb-true (m + 1) n is in
    elim (cases_eq k m) [
      | inl same ↦
          rw (lt-ltb k n (omega (arith, same, less)), le-ltb k m (omega (arith, same)), eq-eqb k m same, eq-eqb (k + 1) n (omega (arith, same, less))) refl
      | inr apart ↦
          rw (le-ltb k m (omega (arith, less, near.1)), ne_eqb k m apart, ne_eqb (k + 1) n (omega (arith, less, apart)))
          (and-false (nat_lt k n || (k == n && nat_lt s e)))
    ]
  where
    and-false : (b : Bool) → (b && false) ≡ false
    and-false true = refl
    and-false false = refl

-- and where it comes from one with the same count
earlier-level : (this count further : Option ℕ) (s e t other line : ℕ) → AreNear this count → AreNear further count → is_across further t count e ≡ true
    → (comes_before this s count e && comes_before this other further line) ≡ (is_one_less this count || (is_across this s count e && nat_lt other line))
earlier-level None None further s e t other line near also is = refl
earlier-level None (Some n) further s e t other line near also is = absurd near
earlier-level (Some k) None further s e t other line near also is = absurd near
earlier-level (Some k) (Some n) None s e t other line near also is = absurd (true≢false (sym is))
earlier-level (Some k) (Some n) (Some m) s e t other line near also is =
    let same : m ≡ n = eqb-true m n (and_parts (m == n) (nat_lt t e) is).0 in
    rw same
    (elim (cases_lt k n) [
      | inl low ↦ rw (lt-ltb k n low, eq-eqb (k + 1) n (omega (arith, low, near.1))) refl
      | inr high ↦ rw (le-ltb k n high, ne_eqb (k + 1) n (omega (arith, high))) (tidy (k == n) (nat_lt s e) (nat_lt other line))
    ])
  where
    tidy : (b c d : Bool) → ((b && c) && (b && d)) ≡ ((b && c) && d)
    tidy true c d = refl
    tidy false c d = refl

-- only lines into one element count
into-one_less : (stands here earlier less low : Bool) → (here ≡ true → (stands && earlier) ≡ (less && low)) → ((stands && here) && earlier) ≡ ((less && here) && low)
into-one_less stands true earlier less low is = rw (and-true stands, and-true less) (is refl)
  where
    and-true : (b : Bool) → (b && true) ≡ b
    and-true true = refl
    and-true false = refl
into-one_less stands false earlier less low is = rw (and-false stands, and-false less) refl
  where
    and-false : (b : Bool) → (b && false) ≡ false
    and-false true = refl
    and-false false = refl

into-level : (stands here earlier less level low : Bool) → (here ≡ true → (stands && earlier) ≡ (less || (level && low)))
    → ((stands && here) && earlier) ≡ ((less && here) || ((level && here) && low))
into-level stands true earlier less level low is = rw (and-true stands, and-true less, and-true level) (is refl)
  where
    and-true : (b : Bool) → (b && true) ≡ b
    and-true true = refl
    and-true false = refl
into-level stands false earlier less level low is = rw (and-false stands, and-false less, and-false level) refl
  where
    and-false : (b : Bool) → (b && false) ≡ false
    and-false true = refl
    and-false false = refl

module _ (plan : Topology) (counts : Counts) (well : IsWellFormed plan) (are : AreHopCounts plan counts) where
  near : (line : ℕ) → line < line_count plan → AreNear (count_at counts (sender_of plan line)) (count_at counts (receiver_of plan line))
  near = near-ends plan counts well are

  pub candidate-leads : (line : ℕ) → line < line_count plan → is_candidate plan counts line ≡ (leads plan counts false line || leads plan counts true line)
  candidate-leads line inside =
      rw (lt-ltb line (line_count plan) inside)
      (candidate-kinds (count_at counts (sender_of plan line)) (count_at counts (receiver_of plan line)) (sender_of plan line) (receiver_of plan line) (near line inside))

  near-into : (line element : ℕ) → line < line_count plan → (receiver_of plan line == element) ≡ true → AreNear (count_at counts (sender_of plan line)) (count_at counts element)
  near-into line element inside into = subst (λ e. AreNear (count_at counts (sender_of plan line)) (count_at counts e)) (eqb-true (receiver_of plan line) element into) (near line inside)

  -- candidates from one with one less are numbered in order of lines
  pub number-one_less : (line : ℕ) → line < line_count plan → leads plan counts false line ≡ true
      → candidate_number plan counts line ≡ count_below (leads_into plan counts false (receiver_of plan line)) line + 1
  number-one_less line inside it_leads =
      ap (λ (n : ℕ). n + 1)
      (below-same (λ other. is_candidate_into plan counts (receiver_of plan line) other && is_earlier plan counts other line)
      (λ other. leads_into plan counts false (receiver_of plan line) other && nat_lt other line) (line_count plan) each
      ∙ below-cut (leads_into plan counts false (receiver_of plan line)) line (line_count plan) (omega (arith, inside)))
    where
      each : (other : ℕ) → other < line_count plan
          → (is_candidate_into plan counts (receiver_of plan line) other && is_earlier plan counts other line) ≡ (leads_into plan counts false (receiver_of plan line) other && nat_lt other line)
      each other low =
          rw (lt-ltb other (line_count plan) low)
          (into-one_less (stands_before counts (sender_of plan other) (receiver_of plan other)) (receiver_of plan other == receiver_of plan line) (is_earlier plan counts other line)
          (leads plan counts false other) (nat_lt other line)
          (λ into.
          let same : receiver_of plan other ≡ receiver_of plan line = eqb-true (receiver_of plan other) (receiver_of plan line) into in
          rw same
          (earlier-one_less (count_at counts (sender_of plan other)) (count_at counts (receiver_of plan line)) (count_at counts (sender_of plan line)) (sender_of plan other) (receiver_of plan line) other line
          (near-into other (receiver_of plan line) low into) (near line inside) it_leads)))

  -- those from one with the same count come after all of them
  pub number-level : (line : ℕ) → line < line_count plan → leads plan counts true line ≡ true
      → candidate_number plan counts line
      ≡ count_below (leads_into plan counts false (receiver_of plan line)) (line_count plan) + count_below (leads_into plan counts true (receiver_of plan line)) line + 1
  number-level line inside it_leads =
      ap (λ (n : ℕ). n + 1)
      (below-same (λ other. is_candidate_into plan counts (receiver_of plan line) other && is_earlier plan counts other line)
      (λ other. leads_into plan counts false (receiver_of plan line) other || (leads_into plan counts true (receiver_of plan line) other && nat_lt other line)) (line_count plan) each
      ∙ below-or (leads_into plan counts false (receiver_of plan line)) (λ other. leads_into plan counts true (receiver_of plan line) other && nat_lt other line) (line_count plan) apart
      ∙ ap (λ (n : ℕ). count_below (leads_into plan counts false (receiver_of plan line)) (line_count plan) + n)
      (below-cut (leads_into plan counts true (receiver_of plan line)) line (line_count plan) (omega (arith, inside))))
    where
      each : (other : ℕ) → other < line_count plan
          → (is_candidate_into plan counts (receiver_of plan line) other && is_earlier plan counts other line)
          ≡ (leads_into plan counts false (receiver_of plan line) other || (leads_into plan counts true (receiver_of plan line) other && nat_lt other line))
      each other low =
          rw (lt-ltb other (line_count plan) low)
          (into-level (stands_before counts (sender_of plan other) (receiver_of plan other)) (receiver_of plan other == receiver_of plan line) (is_earlier plan counts other line)
          (leads plan counts false other) (leads plan counts true other) (nat_lt other line)
          (λ into.
          let same : receiver_of plan other ≡ receiver_of plan line = eqb-true (receiver_of plan other) (receiver_of plan line) into in
          rw same
          (earlier-level (count_at counts (sender_of plan other)) (count_at counts (receiver_of plan line)) (count_at counts (sender_of plan line)) (sender_of plan other) (receiver_of plan line)
          (sender_of plan line) other line
          (near-into other (receiver_of plan line) low into) (near line inside) it_leads)))

      apart : (other : ℕ) → other < line_count plan → leads_into plan counts false (receiver_of plan line) other ≡ true
          → (leads_into plan counts true (receiver_of plan line) other && nat_lt other line) ≡ false
      apart other low is =
          let less = (and_parts (leads plan counts false other) (receiver_of plan other == receiver_of plan line) is).0 in
          let never = kinds-apart (count_at counts (sender_of plan other)) (count_at counts (receiver_of plan other)) (sender_of plan other) (receiver_of plan other) less in
          rw never refl

  -- the two passes give each line its new priority
  pub priorities-given : (start first second : Numbering) → start.numbered.items ≡ replicate (length plan.elements) 0 → start.priorities.items ≡ replicate (line_count plan) 0
      → IsNumbered plan counts false (line_count plan) start first → IsNumbered plan counts true (line_count plan) first second
      → ArePriorities plan (new_priority plan counts) second.priorities.items
  priorities-given start first second no_numbers no_priorities one_less level = record { counted = level.lines; each = each }
    where
      zero_number : (element : ℕ) → element < length plan.elements → slice_index start.numbered.items element ≡ 0
      zero_number element inside = ap (λ (xs : List ℕ). slice_index xs element) no_numbers ∙ get_or-replicate (length plan.elements) element 0 0 inside

      zero_priority : (line : ℕ) → line < line_count plan → slice_index start.priorities.items line ≡ 0
      zero_priority line inside = ap (λ (xs : List ℕ). slice_index xs line) no_priorities ∙ get_or-replicate (line_count plan) line 0 0 inside

      by : (line : ℕ) → line < line_count plan → (less same : Bool) → leads plan counts false line ≡ less → leads plan counts true line ≡ same
          → slice_index second.priorities.items line ≡ new_priority plan counts line
      by line inside less true first_leads second_leads =
          let inside_receiver = receiver-within plan well line inside in
          let given = rw (lt-ltb line (line_count plan) inside, second_leads) at (level.priorities line inside) in
          let candidate : is_candidate plan counts line ≡ true = candidate-leads line inside ∙ rw (first_leads, second_leads) (or-true less) in
          let numbers = one_less.numbers (receiver_of plan line) inside_receiver in
          let none = zero_number (receiver_of plan line) inside_receiver in
          let number = number-level line inside second_leads in
          let same_number : slice_index first.numbered.items (receiver_of plan line) + count_below (leads_into plan counts true (receiver_of plan line)) line + 1 ≡ candidate_number plan counts line =
          omega (arith, numbers, none, number) in
          rw candidate (given ∙ ap (numbered_priority plan (receiver_of plan line)) same_number)
        where
          or-true : (b : Bool) → (b || true) ≡ true
          or-true true = refl
          or-true false = refl
      by line inside true false first_leads second_leads =
          let inside_receiver = receiver-within plan well line inside in
          let left = rw (lt-ltb line (line_count plan) inside, second_leads) at (level.priorities line inside) in
          let given = rw (lt-ltb line (line_count plan) inside, first_leads) at (one_less.priorities line inside) in
          let candidate : is_candidate plan counts line ≡ true = candidate-leads line inside ∙ rw first_leads refl in
          let none = zero_number (receiver_of plan line) inside_receiver in
          let number = number-one_less line inside first_leads in
          let same_number : slice_index start.numbered.items (receiver_of plan line) + count_below (leads_into plan counts false (receiver_of plan line)) line + 1 ≡ candidate_number plan counts line =
          omega (arith, none, number) in
          rw candidate (left ∙ given ∙ ap (numbered_priority plan (receiver_of plan line)) same_number)
      by line inside false false first_leads second_leads =
          let left = rw (lt-ltb line (line_count plan) inside, second_leads) at (level.priorities line inside) in
          let also = rw (lt-ltb line (line_count plan) inside, first_leads) at (one_less.priorities line inside) in
          let candidate : is_candidate plan counts line ≡ false = candidate-leads line inside ∙ rw (first_leads, second_leads) refl in
          rw candidate (left ∙ also ∙ zero_priority line inside)

      each : (line : ℕ) → line < line_count plan → slice_index second.priorities.items line ≡ new_priority plan counts line
      each line inside = by line inside (leads plan counts false line) (leads plan counts true line) refl refl

  -- numbers after the first pass are at most the number of lines
  pub small-after : (start first : Numbering) → start.numbered.items ≡ replicate (length plan.elements) 0 → IsNumbered plan counts false (line_count plan) start first
      → (element : ℕ) → element < length plan.elements → slice_index first.numbered.items element ≤ line_count plan
  small-after start first no_numbers one_less element inside =
      let numbers = one_less.numbers element inside in
      let none : slice_index start.numbered.items element ≡ 0 = ap (λ (xs : List ℕ). slice_index xs element) no_numbers ∙ get_or-replicate (length plan.elements) element 0 0 inside in
      let few = below-le (leads_into plan counts false element) (line_count plan) in
      omega (arith, numbers, none, few)
