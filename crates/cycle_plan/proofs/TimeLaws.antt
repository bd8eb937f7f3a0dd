-- Where numbers rise over what bears on what, each nominated line has a time: by going back over the lines that bear on it, of
-- which there is an end.
use Rattle.std.proofs.Common.{◌≡◌, ◌≤◌, ◌<◌, ◌+◌, ◌⊎◌, ℕ, zero, suc, Bool, true, false, max, ◌&&◌, refl, ap, ◌∙◌, inl, inr, arith}
use Rattle.std.specs.Prelude.{◌==◌, if◌then◌else◌}
use Rattle.std.proofs.lemmas.Bool.{and_parts, cases_lt, eqb-true, eq-eqb}
use Rattle.sync_topo.specs.declared.returns.ReturnRule.TheVariants.{BarredFromLast}
use Rattle.sync_topo.specs.Topology.{Topology}
use Rattle.sync_topo.specs.Lines.{line_count, sender_of, receiver_of, delay_of, is_nominated, IsNominated}
use Rattle.sync_topo.specs.Hops.{bears_on}
use Rattle.sync_topo.proofs.HopLaws.{hop-meets}
use Rattle.sync_topo.proofs.LineLaws.{IsNominated-within}
use Rattle.reach_rules.specs.Agreement.{IsAgreeing}
use Rattle.reach_rules.specs.Failing.{IsTimeOf, AreTimes}

-- the greatest value of the first n numbers that pass a test, or 0 where none does
greatest_below : (ℕ → Bool) → (ℕ → ℕ) → ℕ → ℕ
greatest_below p f zero = 0
greatest_below p f (suc n) = if p n then max (f n) (greatest_below p f n) else greatest_below p f n

greatest-most : (p : ℕ → Bool) (f : ℕ → ℕ) (n m : ℕ) → m < n → p m ≡ true → f m ≤ greatest_below p f n
unfolding greatest_below
greatest-most p f zero m less passes = absurd (omega (arith, less))
greatest-most p f (suc n) m less passes = elim (cases_lt m n) [
  | inl earlier ↦ more (p n) (greatest-most p f n m earlier passes)
  | inr last ↦ let here : n ≡ m = omega (arith, less, last) in one (p n) (ap p here ∙ passes) (ap f here)
]
  where
    more : (b : Bool) → f m ≤ greatest_below p f n → f m ≤ (if b then max (f n) (greatest_below p f n) else greatest_below p f n)
    more true within = omega (arith, within)
    more false within = within

    one : (b : Bool) → b ≡ true → f n ≡ f m → f m ≤ (if b then max (f n) (greatest_below p f n) else greatest_below p f n)
    one true is same = omega (arith, same)
    one false is same = cc

greatest-reached : (p : ℕ → Bool) (f : ℕ → ℕ) (n : ℕ) → (greatest_below p f n ≡ 0) ⊎ ((m : ℕ) × (p m ≡ true) × (greatest_below p f n ≡ f m))
unfolding greatest_below
greatest-reached p f zero = inl refl
greatest-reached p f (suc n) = of (p n) refl (greatest-reached p f n)
  where
    of : (b : Bool) → p n ≡ b → (greatest_below p f n ≡ 0) ⊎ ((m : ℕ) × (p m ≡ true) × (greatest_below p f n ≡ f m))
        → ((if b then max (f n) (greatest_below p f n) else greatest_below p f n) ≡ 0)
        ⊎ ((m : ℕ) × (p m ≡ true) × ((if b then max (f n) (greatest_below p f n) else greatest_below p f n) ≡ f m))
    of false not before = before
    of true passes before = elim (cases_lt (f n) (greatest_below p f n)) [
      | inr high ↦ inr (n, passes, omega (arith, high))
      | inl low ↦
          let e : max (f n) (greatest_below p f n) ≡ greatest_below p f n = omega (arith, low) in
          elim before [
            | inl none ↦ inl (e ∙ none)
            | inr some ↦ inr (some.0, some.1, e ∙ some.2)
          ]
    ]

greatest-same : (p : ℕ → Bool) (f g : ℕ → ℕ) (n : ℕ) → ((m : ℕ) → p m ≡ true → f m ≡ g m) → greatest_below p f n ≡ greatest_below p g n
unfolding greatest_below
greatest-same p f g zero same = refl
greatest-same p f g (suc n) same = of (p n) refl (greatest-same p f g n same)
  where
    of : (b : Bool) → p n ≡ b → greatest_below p f n ≡ greatest_below p g n
        → (if b then max (f n) (greatest_below p f n) else greatest_below p f n) ≡ (if b then max (g n) (greatest_below p g n) else greatest_below p g n)
    of false not before = before
    of true passes before = rw (same n passes, before) refl

module _ (plan : Topology) (rank : ℕ → ℕ) (agreeing : IsAgreeing plan rank) where
  -- a nominated line leads into an element
  is_into : ℕ → ℕ → Bool
  is_into element before = is_nominated plan before && receiver_of plan before == element

  -- so far back
  late_by : ℕ → ℕ → ℕ
  late_by zero line = 0
  late_by (suc r) line =
      max (greatest_below (is_into (sender_of plan line)) (delay_of plan) (line_count plan))
      (greatest_below (λ before. bears_on plan before line) (λ before. late_by r before + delay_of plan before) (line_count plan))

  -- going farther back than its rank changes nothing
  late-same : (r s line : ℕ) → rank line < r → rank line < s → late_by r line ≡ late_by s line
  unfolding late_by
  late-same zero s line low other = absurd (omega (arith, low))
  late-same (suc r) zero line low other = absurd (omega (arith, other))
  late-same (suc r) (suc s) line low other =
      ap (λ n. max (greatest_below (is_into (sender_of plan line)) (delay_of plan) (line_count plan)) n)
      (greatest-same (λ before. bears_on plan before line) (λ before. late_by r before + delay_of plan before) (λ before. late_by s before + delay_of plan before) (line_count plan)
      (λ before bears. ap (λ n. n + delay_of plan before)
      (late-same r s before (omega (arith, low, agreeing before line bears)) (omega (arith, other, agreeing before line bears)))))

  pub time_by : ℕ → ℕ
  time_by line = late_by (suc (rank line)) line

  into-parts : (element before : ℕ) → is_into element before ≡ true → IsNominated plan before × (receiver_of plan before ≡ element)
  unfolding is_into
  into-parts element before is =
      let both = and_parts (is_nominated plan before) (receiver_of plan before == element) is in (both.0, eqb-true (receiver_of plan before) element both.1)

  into-passes : (element before : ℕ) → IsNominated plan before → receiver_of plan before ≡ element → is_into element before ≡ true
  unfolding is_into
  into-passes element before nominated into = rw (nominated, eq-eqb (receiver_of plan before) element into) refl

  pub times-exist : AreTimes plan time_by
  unfolding time_by late_by
  times-exist line nominated = record { most = most; reached = reached }
    where
      into : ℕ
      into = greatest_below (is_into (sender_of plan line)) (delay_of plan) (line_count plan)

      over : ℕ
      over = greatest_below (λ before. bears_on plan before line) (λ before. late_by (rank line) before + delay_of plan before) (line_count plan)

      earlier : (before : ℕ) → bears_on plan before line ≡ true → late_by (rank line) before ≡ time_by before
      earlier before bears = late-same (rank line) (suc (rank before)) before (agreeing before line bears) (omega arith)

      most : (n : ℕ) → IsTimeOf plan time_by line n → n ≤ time_by line
      most n (inl delay) =
          let within = greatest-most (is_into (sender_of plan line)) (delay_of plan) (line_count plan) delay.before (IsNominated-within plan delay.before delay.nominated)
          (into-passes (sender_of plan line) delay.before delay.nominated delay.into) in
          omega (arith, delay.is, within)
      most n (inr time) =
          let from = (hop-meets BarredFromLast plan time.before line time.hops).from in
          let within = greatest-most (λ before. bears_on plan before line) (λ before. late_by (rank line) before + delay_of plan before) (line_count plan) time.before
          (IsNominated-within plan time.before from) time.hops in
          omega (arith, time.is, earlier time.before time.hops, within)

      reached : (time_by line ≡ 0) ⊎ IsTimeOf plan time_by line (time_by line)
      reached = elim (cases_lt into over) [
        | inl less ↦
            let e : time_by line ≡ over = omega (arith, less) in
            elim (greatest-reached (λ before. bears_on plan before line) (λ before. late_by (rank line) before + delay_of plan before) (line_count plan)) [
              | inl none ↦ absurd (omega (arith, less, none))
              | inr some ↦ inr (inr (record {
                before = some.0;
                hops = some.1;
                is = e ∙ some.2 ∙ ap (λ n. n + delay_of plan some.0) (earlier some.0 some.1);
              }))
            ]
        | inr more ↦
            let e : time_by line ≡ into = omega (arith, more) in
            elim (greatest-reached (is_into (sender_of plan line)) (delay_of plan) (line_count plan)) [
              | inl none ↦ inl (e ∙ none)
              | inr some ↦
                  let parts = into-parts (sender_of plan line) some.0 some.1 in
                  inr (inl (record { before = some.0; nominated = parts.0; into = parts.1; is = e ∙ some.2 }))
            ]
      ]
