-- One more line is numbered.
use Rattle.std.proofs.Common.{◌≡◌, ◌≢◌, ℕ, ◌+◌, ◌*◌, ◌<◌, ◌≤◌, Bool, true, false, ◌&&◌, ◌==◌, List, length, refl, sym, ap, ◌∙◌, inl, inr, arith}
use Rattle.std.specs.Prelude.{nat_lt, if◌then◌else◌, slice_index, slice_set}
use Rattle.std.proofs.lemmas.Bool.{cases_lt, cases_eq, cases_Bool, lt-ltb, le-ltb, eq-eqb, ne_eqb, true≢false}
use Rattle.std.proofs.lemmas.List.{get_or-set_same, get_or-set_other, length-set}
use Rattle.sync_topo.specs.Topology.{Topology}
use Rattle.sync_topo.specs.Lines.{line_count, receiver_of}
use Rattle.nominate.specs.HopCount.{Counts}
use Rattle.nominate.specs.Nomination.{count_below, numbered_priority}
use Rattle.nominate.specs.private.Numbering.{leads, leads_into, IsNumberedOne, IsNumbered}
use Rattle.nominate.specs.declared.numbering.Numbering.{Numbering}
use Rattle.nominate.specs.private.Placing.{one_if}
use Rattle.nominate.proofs.BelowLemmas.{below-none, below-more, below-le}

-- what a write leaves, where it is made
write-here : (b : Bool) (xs ys : List ℕ) (i v : ℕ) → b ≡ true → i < length xs → ys ≡ (if b then slice_set xs i v else xs) → slice_index ys i ≡ v
write-here true xs ys i v is inside written = rw written (get_or-set_same xs i v 0 inside)
write-here false xs ys i v is inside written = absurd (true≢false (sym is))

write-there : (b : Bool) (xs ys : List ℕ) (i j v : ℕ) → j ≢ i → ys ≡ (if b then slice_set xs i v else xs) → slice_index ys j ≡ slice_index xs j
write-there true xs ys i j v apart written = rw written (get_or-set_other xs i j v 0 apart)
write-there false xs ys i j v apart written = rw written refl

write-not : (b : Bool) (xs ys : List ℕ) (i j v : ℕ) → b ≡ false → ys ≡ (if b then slice_set xs i v else xs) → slice_index ys j ≡ slice_index xs j
write-not true xs ys i j v is written = absurd (true≢false is)
write-not false xs ys i j v is written = rw written refl

write-long : (b : Bool) (xs ys : List ℕ) (i v : ℕ) → ys ≡ (if b then slice_set xs i v else xs) → length ys ≡ length xs
write-long true xs ys i v written = rw written (length-set xs i v)
write-long false xs ys i v written = rw written refl

one-and : (b c : Bool) → b ≡ true → c ≡ true → one_if (b && c) ≡ 1
one-and true true is also = refl
one-and true false is also = absurd (true≢false (sym also))
one-and false c is also = absurd (true≢false (sym is))

one-left : (b c : Bool) → b ≡ false → one_if (b && c) ≡ 0
one-left false c is = refl
one-left true c is = absurd (true≢false is)

one-right : (b c : Bool) → c ≡ false → one_if (b && c) ≡ 0
one-right false c is = refl
one-right true false is = refl
one-right true true is = absurd (true≢false is)

pub IsNumbered-none : (plan : Topology) (counts : Counts) (level : Bool) (before : Numbering) → length before.numbered.items ≡ length plan.elements
    → length before.priorities.items ≡ line_count plan → IsNumbered plan counts level 0 before before
IsNumbered-none plan counts level before elements lines = record {
  elements = elements;
  lines = lines;
  numbers = λ element inside. let none = below-none (leads_into plan counts level element) in omega (arith, none);
  priorities = λ line inside. rw (le-ltb line 0 (omega arith)) refl;
}

module _ (plan : Topology) (counts : Counts) (level : Bool) (n : ℕ) (before now after : Numbering)
    (inside_n : n < line_count plan) (receiver_in : receiver_of plan n < length plan.elements)
    (numbered : IsNumbered plan counts level n before now) (one : IsNumberedOne plan counts level n now after) where
  -- the receiver's number after the line
  numbers-then : (element : ℕ) → element < length plan.elements
      → slice_index after.numbered.items element ≡ slice_index now.numbered.items element + one_if (leads_into plan counts level element n)
  numbers-then element inside = elim (cases_Bool (leads plan counts level n)) [
    | inl it_leads ↦ elim (cases_eq element (receiver_of plan n)) [
      | inl same ↦
          let here = write-here (leads plan counts level n) now.numbered.items after.numbered.items (receiver_of plan n) (slice_index now.numbered.items (receiver_of plan n) + 1) it_leads (rw numbered.elements receiver_in) one.numbered in
          let counted = one-and (leads plan counts level n) (receiver_of plan n == element) it_leads (eq-eqb (receiver_of plan n) element (sym same)) in
          rw (counted, same) here
      | inr apart ↦
          let there = write-there (leads plan counts level n) now.numbered.items after.numbered.items (receiver_of plan n) element (slice_index now.numbered.items (receiver_of plan n) + 1) apart one.numbered in
          let counted = one-right (leads plan counts level n) (receiver_of plan n == element) (ne_eqb (receiver_of plan n) element (λ same. apart (sym same))) in
          omega (arith, there, counted)
    ]
    | inr never ↦
        let there = write-not (leads plan counts level n) now.numbered.items after.numbered.items (receiver_of plan n) element (slice_index now.numbered.items (receiver_of plan n) + 1) never one.numbered in
        let counted = one-left (leads plan counts level n) (receiver_of plan n == element) never in
        omega (arith, there, counted)
  ]

  -- the priority of the line
  priority-here : slice_index after.priorities.items n
      ≡ (if nat_lt n (n + 1) && leads plan counts level n
      then numbered_priority plan (receiver_of plan n) (slice_index before.numbered.items (receiver_of plan n) + count_below (leads_into plan counts level (receiver_of plan n)) n + 1)
      else slice_index before.priorities.items n)
  priority-here = elim (cases_Bool (leads plan counts level n)) [
    | inl it_leads ↦
        let here = write-here (leads plan counts level n) now.priorities.items after.priorities.items n
        (numbered_priority plan (receiver_of plan n) (slice_index now.numbered.items (receiver_of plan n) + 1)) it_leads (rw numbered.lines inside_n) one.priorities in
        rw (lt-ltb n (n + 1) (omega arith), it_leads) (here ∙ ap (λ (k : ℕ). numbered_priority plan (receiver_of plan n) (k + 1)) (numbered.numbers (receiver_of plan n) receiver_in))
    | inr never ↦
        let there = write-not (leads plan counts level n) now.priorities.items after.priorities.items n n
        (numbered_priority plan (receiver_of plan n) (slice_index now.numbered.items (receiver_of plan n) + 1)) never one.priorities in
        let was = rw (le-ltb n n (omega arith)) at (numbered.priorities n inside_n) in
        rw (lt-ltb n (n + 1) (omega arith), never) (there ∙ was)
  ]

  priority-there : (line : ℕ) → line < line_count plan → line ≢ n → slice_index after.priorities.items line
      ≡ (if nat_lt line (n + 1) && leads plan counts level line
      then numbered_priority plan (receiver_of plan line) (slice_index before.numbered.items (receiver_of plan line) + count_below (leads_into plan counts level (receiver_of plan line)) line + 1)
      else slice_index before.priorities.items line)
  priority-there line inside apart =
      let there = write-there (leads plan counts level n) now.priorities.items after.priorities.items n line
      (numbered_priority plan (receiver_of plan n) (slice_index now.numbered.items (receiver_of plan n) + 1)) apart one.priorities in
      let same : nat_lt line (n + 1) ≡ nat_lt line n = elim (cases_lt line n) [
        | inl low ↦ lt-ltb line (n + 1) (omega (arith, low)) ∙ sym (lt-ltb line n low)
        | inr high ↦ le-ltb line (n + 1) (omega (arith, high, apart)) ∙ sym (le-ltb line n high)
      ] in
      rw same (there ∙ numbered.priorities line inside)

  pub IsNumbered-more : IsNumbered plan counts level (n + 1) before after
  IsNumbered-more = record {
    elements = write-long (leads plan counts level n) now.numbered.items after.numbered.items (receiver_of plan n) (slice_index now.numbered.items (receiver_of plan n) + 1) one.numbered ∙ numbered.elements;
    lines =
        write-long (leads plan counts level n) now.priorities.items after.priorities.items n (numbered_priority plan (receiver_of plan n) (slice_index now.numbered.items (receiver_of plan n) + 1)) one.priorities
        ∙ numbered.lines;
    numbers = λ element inside.
        let after_it = numbers-then element inside in
        let so_far = numbered.numbers element inside in
        let more = below-more (leads_into plan counts level element) n in
        omega (arith, after_it, so_far, more);
    priorities = λ line inside. elim (cases_eq line n) [
      | inl same ↦ rw same priority-here
      | inr apart ↦ priority-there line inside apart
    ];
  }

-- numbers stay small
pub numbers-small : (plan : Topology) (counts : Counts) (level : Bool) (n element bound : ℕ) (before now : Numbering) → element < length plan.elements
    → IsNumbered plan counts level n before now → slice_index before.numbered.items element ≤ bound → n ≤ bound → slice_index now.numbered.items element ≤ 2 * bound
numbers-small plan counts level n element bound before now inside numbered small low =
    let so_far = numbered.numbers element inside in
    let few = below-le (leads_into plan counts level element) n in
    omega (arith, so_far, few, small, low)
