-- Each element has one trace.
use Rattle.std.proofs.Common.{◌≡◌, ◌≢◌, ◌≤◌, ◌<◌, ◌+◌, ◌⊎◌, ℕ, zero, suc, Bool, true, false, List, [], ◌∷◌, length, Option, None, Some, refl, ap, sym, subst, ◌∙◌, inl, inr, arith}
use Rattle.std.specs.Prelude.{nat_eq, if◌then◌else◌}
use Rattle.std.proofs.lemmas.Bool.{ne_eqb}
use Rattle.std.proofs.lemmas.Bool.Decides.{eqb_tells}
use Rattle.std.proofs.lemmas.Option.{same_Some, none-some}
use Rattle.sync_text.proofs.Each.{Each-map}
use Rattle.sync_text.specs.Each.{Each}
use Rattle.sync_topo.specs.declared.input.InputId.{InputId}
use Rattle.sync_topo.specs.declared.input.InputId.TheVariants.{Line, Source}
use Rattle.sync_topo.specs.Topology.{Topology}
use Rattle.sync_topo.specs.Lines.{line_input, sender_of}
use Rattle.net_rules.specs.Walks.{Taken, IsOneOf, AreApart, TraceEnd, at_source, at_clock, at_loop, EndsAt, IsTraceAfter}
use Rattle.net_rules.proofs.WalkLaws.{line_input-same}

not_met : (n : ℕ) (xs : List ℕ) → Each (λ other. n ≢ other) xs → IsOneOf n xs → ⊥
not_met n [] each one = one
not_met n (x ∷ xs) each one = elim one [
  | inl same ↦ each.0 same
  | inr later ↦ not_met n xs each.1 later
]

pub met_or : (n : ℕ) (xs : List ℕ) → IsOneOf n xs ⊎ Each (λ other. n ≢ other) xs
met_or n [] = inr tt
met_or n (x ∷ xs) = elim (eqb_tells n x) [
  | inl same ↦ inl (inl same.1)
  | inr other ↦ elim (met_or n xs) [
    | inl later ↦ inl (inr later)
    | inr apart ↦ inr (other.1, apart)
  ]
]

source_line : (source line : ℕ) → Source source ≡ line_input line → ⊥
source_line source line same = cc

abbrev source_number : InputId → ℕ
source_number (Line line) = line.0
source_number (Source source) = source

-- the end is one, where nothing more is followed
one_end : (taken : Taken) (passed : List ℕ) (element : ℕ) (end other : TraceEnd) → EndsAt taken passed element end → EndsAt taken passed element other → end ≡ other
one_end taken passed element (at_source a) (at_source b) ends others =
    ap at_source (ap source_number (same_Some (Source a) (Source b) (sym ends.1 ∙ others.1)))
one_end taken passed element (at_source a) (at_clock b) ends others = absurd (none-some (Source a) (sym others.1 ∙ ends.1))
one_end taken passed element (at_source a) (at_loop b) ends others = absurd (not_met element passed ends.0 others.0)
one_end taken passed element (at_clock a) (at_source b) ends others = absurd (none-some (Source b) (sym ends.1 ∙ others.1))
one_end taken passed element (at_clock a) (at_clock b) ends others = ap at_clock (ends.2 ∙ sym others.2)
one_end taken passed element (at_clock a) (at_loop b) ends others = absurd (not_met element passed ends.0 others.0)
one_end taken passed element (at_loop a) (at_source b) ends others = absurd (not_met element passed others.0 ends.0)
one_end taken passed element (at_loop a) (at_clock b) ends others = absurd (not_met element passed others.0 ends.0)
one_end taken passed element (at_loop a) (at_loop b) ends others = ap at_loop (ends.1 ∙ sym others.1)

no_end : (plan : Topology) (taken : Taken) (passed : List ℕ) (element line : ℕ) (end : TraceEnd) → EndsAt taken passed element end
    → Each (λ other. element ≢ other) passed → taken element ≡ Some (line_input line) → ⊥
no_end plan taken passed element line (at_source a) ends apart takes = source_line a line (same_Some (Source a) (line_input line) (sym ends.1 ∙ takes))
no_end plan taken passed element line (at_clock a) ends apart takes = none-some (line_input line) (sym ends.1 ∙ takes)
no_end plan taken passed element line (at_loop a) ends apart takes = not_met element passed apart ends.0

-- a trace is one
pub one_trace : (plan : Topology) (taken : Taken) (passed : List ℕ) (element : ℕ) (lines others : List ℕ) (end other : TraceEnd)
    → IsTraceAfter plan taken passed element lines end → IsTraceAfter plan taken passed element others other → (lines ≡ others) × (end ≡ other)
one_trace plan taken passed element [] [] end other trace then_trace = (refl, one_end taken passed element end other trace then_trace)
one_trace plan taken passed element [] (line ∷ others) end other trace then_trace =
    absurd (no_end plan taken passed element line end trace then_trace.0 then_trace.1)
one_trace plan taken passed element (line ∷ lines) [] end other trace then_trace =
    absurd (no_end plan taken passed element line other then_trace trace.0 trace.1)
one_trace plan taken passed element (line ∷ lines) (next ∷ others) end other trace then_trace =
    let same : line ≡ next = line_input-same line next (same_Some (line_input line) (line_input next) (sym trace.1 ∙ then_trace.1)) in
    let rest = one_trace plan taken (element ∷ passed) (sender_of plan line) lines others end other trace.2
    (subst (λ l. IsTraceAfter plan taken (element ∷ passed) (sender_of plan l) others other) (sym same) then_trace.2) in
    (rw (same, rest.0) refl, rest.1)

-- numbers below n that are apart are at most n
without : ℕ → List ℕ → List ℕ
without n [] = []
without n (x ∷ xs) = if nat_eq x n then without n xs else x ∷ without n xs

without_each : (P : ℕ → Type 0) (n : ℕ) (xs : List ℕ) → Each P xs → Each (λ x. P x × (x ≢ n)) (without n xs)
unfolding without
without_each P n [] each = tt
without_each P n (x ∷ xs) each = by (eqb_tells x n) (without_each P n xs each.1)
  where
    by : ((nat_eq x n ≡ true) × (x ≡ n)) ⊎ ((nat_eq x n ≡ false) × (x ≢ n)) → Each (λ y. P y × (y ≢ n)) (without n xs)
        → Each (λ y. P y × (y ≢ n)) (if nat_eq x n then without n xs else x ∷ without n xs)
    by tells rest = elim tells [
      | inl same ↦ rw (same.0) rest
      | inr other ↦ rw (other.0) ((each.0, other.1), rest)
    ]

without_keeps : (n : ℕ) (xs : List ℕ) → Each (λ other. n ≢ other) xs → without n xs ≡ xs
unfolding without
without_keeps n [] apart = refl
without_keeps n (x ∷ xs) apart = rw (ne_eqb x n (λ same. apart.0 (sym same)), without_keeps n xs apart.1) refl

without_apart : (n : ℕ) (xs : List ℕ) → AreApart xs → AreApart (without n xs)
unfolding without
without_apart n [] apart = tt
without_apart n (x ∷ xs) apart = by (nat_eq x n) (without_apart n xs apart.1)
  where
    first : Each (λ y. (x ≢ y) × (y ≢ n)) (without n xs)
    first = without_each (λ y. x ≢ y) n xs apart.0

    by : (b : Bool) → AreApart (without n xs) → AreApart (if b then without n xs else x ∷ without n xs)
    by true rest = rest
    by false rest = (Each-map (λ y. (x ≢ y) × (y ≢ n)) (λ y. x ≢ y) (λ y both. both.0) (without n xs) first, rest)

without_length : (n : ℕ) (xs : List ℕ) → AreApart xs → length xs ≤ suc (length (without n xs))
unfolding without
without_length n [] apart = omega arith
without_length n (x ∷ xs) apart = by (eqb_tells x n) (without_length n xs apart.1)
  where
    by : ((nat_eq x n ≡ true) × (x ≡ n)) ⊎ ((nat_eq x n ≡ false) × (x ≢ n)) → length xs ≤ suc (length (without n xs))
        → suc (length xs) ≤ suc (length (if nat_eq x n then without n xs else x ∷ without n xs))
    by tells rest = elim tells [
      | inl same ↦ rw (same.0) (omega (arith, ap length (without_keeps n xs (subst (λ k. Each (λ other. k ≢ other) xs) same.1 apart.0))))
      | inr other ↦ rw (other.0) (omega (arith, rest))
    ]

pub at_most : (n : ℕ) (xs : List ℕ) → AreApart xs → Each (λ x. x < n) xs → length xs ≤ n
at_most zero [] apart below = omega arith
at_most zero (x ∷ xs) apart below = absurd (omega (arith, below.0))
at_most (suc n) xs apart below =
    omega (
      arith,
      without_length n xs apart,
      at_most n (without n xs) (without_apart n xs apart)
          (Each-map (λ x. (x < suc n) × (x ≢ n)) (λ x. x < n) (λ x both. omega (arith, both.0, both.1)) (without n xs) (without_each (λ x. x < suc n) n xs below)),
    )

-- a trace, and its end
pub record HasTrace (plan : Topology) (taken : Taken) (passed : List ℕ) (element : ℕ) : Type 0 where
  pub lines : List ℕ
  pub end : TraceEnd
  pub is : IsTraceAfter plan taken passed element lines end

trace_step : (plan : Topology) (taken : Taken) (passed : List ℕ) (element : ℕ)
    → (Each (λ other. element ≢ other) passed → (line : ℕ) → taken element ≡ Some (line_input line) → HasTrace plan taken passed element)
    → HasTrace plan taken passed element
trace_step plan taken passed element go = elim (met_or element passed) [
  | inl met ↦ record { lines = []; end = at_loop element; is = (met, refl) }
  | inr new ↦ by new (taken element) refl
]
  where
    by : Each (λ other. element ≢ other) passed → (o : Option InputId) → taken element ≡ o → HasTrace plan taken passed element
    by new None is = record { lines = []; end = at_clock element; is = (new, is, refl) }
    by new (Some (Source source)) is = record { lines = []; end = at_source source; is = (new, is) }
    by new (Some (Line line)) is = go new line.0 is

-- there is one: among n elements it ends
trace_after : (plan : Topology) (taken : Taken) (n : ℕ) → ((element line : ℕ) → taken element ≡ Some (line_input line) → sender_of plan line < n)
    → (left : ℕ) (passed : List ℕ) (element : ℕ) → element < n → AreApart passed → Each (λ x. x < n) passed → n ≤ left + length passed
    → HasTrace plan taken passed element
trace_after plan taken n senders zero passed element within apart below few =
    trace_step plan taken passed element (λ new line is. absurd (omega (arith, few, at_most n (element ∷ passed) (new, apart) (within, below))))
trace_after plan taken n senders (suc left) passed element within apart below few =
    trace_step plan taken passed element (λ new line is.
    let rest = trace_after plan taken n senders left (element ∷ passed) (sender_of plan line) (senders element line is) (new, apart) (within, below) (omega (arith, few)) in
    record { lines = line ∷ rest.lines; end = rest.end; is = (new, is, rest.is) })

pub has_trace : (plan : Topology) (taken : Taken) (n : ℕ) → ((element line : ℕ) → taken element ≡ Some (line_input line) → sender_of plan line < n)
    → (element : ℕ) → element < n → HasTrace plan taken [] element
has_trace plan taken n senders element within = trace_after plan taken n senders n [] element within tt tt (omega arith)
