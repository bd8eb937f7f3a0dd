-- The bound after failures rests on what the law of agreement rests on; it is no greater than the agreed bound, and a plan has one.
use Rattle.std.proofs.Common.{◌≡◌, ◌≤◌, ◌<◌, ◌+◌, ◌-◌, ◌*◌, ℕ, zero, suc, Bool, true, false, ◌&&◌, List, length, None, slice_get, refl, ap, sym, subst, ◌∙◌, inl, inr, arith}
use Rattle.std.specs.Prelude.{IsTrue, nat_eq, if◌then◌else◌}
use Rattle.std.specs.List.{range_with_len}
use Rattle.std.proofs.Math.Decide.{dec_lt}
use Rattle.std.proofs.lemmas.Bool.{true≢false, eq-eqb}
use Rattle.std.proofs.lemmas.List.Folds.{list_any_at}
use Rattle.std.proofs.lemmas.List.FromFn.{length-range_with_len, get_or-range_with_len}
use Rattle.std.proofs.lemmas.Nat.{mul-le}
use Rattle.std.proofs.lemmas.Option.{slice_get_cases}
use Rattle.sync_ql.specs.Level.{place_of}
use Rattle.sync_topo.specs.declared.event.Event.{Event}
use Rattle.sync_topo.specs.declared.input.InputId.TheVariants.{Source}
use Rattle.sync_topo.specs.declared.returns.ReturnRule.TheVariants.{BarredFromLast}
use Rattle.sync_topo.specs.Topology.{Topology}
use Rattle.sync_topo.specs.WellFormed.{IsWellFormed}
use Rattle.sync_topo.specs.Lines.{delay_of, is_nominated_input, IsNominated}
use Rattle.sync_topo.specs.Hops.{bears_on}
use Rattle.sync_topo.proofs.HopLaws.{hop-meets}
use Rattle.net_rules.specs.Signals.{Signals, planned_level, signals_by}
use Rattle.net_rules.specs.History.{Levels, Obeys, out_at}
use Rattle.net_rules.specs.Settling.{IsGreatest, IsDelay}
use Rattle.net_rules.specs.Losing.{IsLosing, IsHoldoff, IsLineTime}
use Rattle.net_rules.proofs.BoundLaws.{rank_by, least-by, rises-by}
use Rattle.net_rules.proofs.FinalLaws.{obeys-well}
use Rattle.net_rules.proofs.HistoryLaws.{IsDelayed}
use Rattle.net_rules.proofs.LosingLaws.{losing-by_events, holdoff-most}
use Rattle.net_rules.proofs.PlanLaws.{IsDelayed-well}
use Rattle.net_rules.proofs.RunOutLaws.{losing-run_out}
use Rattle.reach_rules.specs.Agreement.{IsHighCount, IsAgreeing, IsAgreedBound}
use Rattle.reach_rules.specs.Failing.{AreTimes, count_below, IsFailureBound, AreTold, RestsAfterFailures, is_planned, AreLevelsKept, RestsSoon}
use Rattle.reach_rules.proofs.AgreeLaws.{AreLate, TakesTurn}
use Rattle.reach_rules.proofs.AgreedLaws.{Rests, agreeing-rises, rests-from}
use Rattle.reach_rules.proofs.FailureLaws.{level-kept}
use Rattle.reach_rules.proofs.ToldLaws.{never-carried}

-- times are late enough, and rise over what bears on what
times-late : (plan : Topology) (time : ℕ → ℕ) → AreTimes plan time → AreLate plan time
times-late plan time times = record {
  into = λ before line before_nominated nominated joins.
      (times line nominated).most (delay_of plan before) (inl (record { before = before; nominated = before_nominated; into = joins; is = refl }));
  over = λ before line bears.
      (times line (hop-meets BarredFromLast plan before line bears).to).most (time before + delay_of plan before) (inr (record { before = before; hops = bears; is = refl }));
}

times-rise : (plan : Topology) (time : ℕ → ℕ) → IsDelayed plan → AreTimes plan time → IsAgreeing plan time
times-rise plan time delayed times before line bears =
    omega (arith, (times-late plan time times).over before line bears, delayed before (hop-meets BarredFromLast plan before line bears).from)

-- all that the bound rests on
pub failed-rests : (told : ℕ → Bool) (plan : Topology) (signals : Signals) (out : Levels) (settled last bound : ℕ) → IsWellFormed plan → Obeys plan signals out
    → IsFailureBound told plan bound → IsLosing plan signals out settled last → AreTold told plan signals settled → Rests plan signals out last bound
failed-rests told plan signals out settled last bound well obeys is losing levels = record {
  time = is.time;
  turns = count_below told;
  wait = is.holdoff;
  delay = is.delay;
  step = is.longest;
  high = is.high;
  by = record {
    runs_out = losing-run_out plan signals out settled last losing delayed is.holdoff is.delay
        (λ line nominated. is.greatest_delay.most (delay_of plan line) (record { line = line; nominated = nominated; is = refl }))
        (holdoff-most plan is.holdoff is.greatest_holdoff);
    late = times-late plan is.time is.times;
    times = λ line nominated. is.greatest_time.most (is.time line) (record { line = line; nominated = nominated; is = refl });
    take = λ place below. take place below (told place) refl;
    are_high = is.are_high.high;
  };
  all = is.are_high.all;
  enough = omega (arith, is.is);
}
  where
    delayed : IsDelayed plan
    delayed = IsDelayed-well plan well

    take : (place : ℕ) → place < is.high → (b : Bool) → told place ≡ b → TakesTurn plan out last (count_below told) place
    take place below true here = inl (rw here refl)
    take place below false none =
        inr (
          rw none refl,
          never-carried plan signals out is.time settled last told place well obeys (agreeing-rises plan is.time (times-rise plan is.time delayed is.times)) losing levels
              (is.are_high.high place below) none,
        )

-- by any list of events
pub rests-after_failures : (told : ℕ → Bool) (plan : Topology) (bound : ℕ) → IsWellFormed plan → IsFailureBound told plan bound → RestsAfterFailures told plan bound
rests-after_failures told plan bound well is events fits settled last loses auto =
    rests-from plan events last bound well
    (failed-rests told plan (signals_by plan events) (out_at plan (signals_by plan events)) settled last bound well (obeys-well plan (signals_by plan events) well) is
    (losing-by_events plan events settled last loses.losses) loses.levels) auto

-- where no event changes a level each source has one of the plan's
pub planned-told : (plan : Topology) (events : List Event) (from : ℕ) → AreLevelsKept events → AreTold (is_planned plan) plan (signals_by plan events) from
planned-told plan events from kept source t nominated after =
    subst (λ l. IsTrue (is_planned plan (place_of l))) (sym (level-kept plan events kept source t)) (planned within)
  where
    unnominated : slice_get plan.sources source ≡ None → ⊥
    unnominated none = true≢false (sym nominated ∙ rw none refl)

    zero_add : (n : ℕ) → 0 + n ≡ n
    zero_add n = omega arith

    within : source < length plan.sources
    within = elim (slice_get_cases plan.sources source).1 [
      | inl there ↦ there.1
      | inr past ↦ absurd (unnominated past.1)
    ]

    test : ℕ → Bool
    test other = is_nominated_input plan (Source other) && nat_eq (place_of (planned_level plan other)) (place_of (planned_level plan source))

    planned : source < length plan.sources → IsTrue (is_planned plan (place_of (planned_level plan source)))
    planned within =
        list_any_at (λ other. is_nominated_input plan (Source other) && nat_eq (place_of (planned_level plan other)) (place_of (planned_level plan source)))
        (range_with_len 0 (length plan.sources)) source 0
        (subst (λ n. source < n) (sym (length-range_with_len 0 (length plan.sources))) within)
        (ap test (get_or-range_with_len 0 (length plan.sources) source 0 within ∙ zero_add source) ∙ rw (nominated, eq-eqb (place_of (planned_level plan source)) _ refl) refl)

pub rests-soon : (plan : Topology) (bound : ℕ) → IsWellFormed plan → IsFailureBound (is_planned plan) plan bound → RestsSoon plan bound
rests-soon plan bound well is events fits kept settled last losses auto =
    rests-after_failures (is_planned plan) plan bound well is events fits settled last (record { losses = losses; levels = planned-told plan events settled kept }) auto

-- the greatest of a kind is no greater than what bounds the kind
greatest-within : (One : ℕ → Type 0) (one other : ℕ) → IsGreatest One one → ((n : ℕ) → One n → n ≤ other) → one ≤ other
greatest-within One one other greatest within = elim greatest.reached [
  | inl nothing ↦ omega (arith, nothing)
  | inr is ↦ within one is
]

-- the count of high levels is one number
high-within : (plan : Topology) (one other : ℕ) → IsHighCount plan one → IsHighCount plan other → one ≤ other
high-within plan one other first second = elim (dec_lt other one) [
  | no within ↦ omega (arith, within)
  | yes below ↦ absurd (omega (arith, second.all other (omega (arith, below, first.within)) (first.high other below)))
]

count-within : (told : ℕ → Bool) (n : ℕ) → count_below told n ≤ n
count-within told zero = omega arith
count-within told (suc n) = of (told n) (count-within told n)
  where
    of : (b : Bool) → count_below told n ≤ n → (if b then suc (count_below told n) else count_below told n) ≤ suc n
    of true less = omega (arith, less)
    of false less = omega (arith, less)

count-more : (told : ℕ → Bool) (n k : ℕ) → count_below told n ≤ count_below told (k + n)
count-more told n zero = let e : n ≡ 0 + n = omega arith in subst (λ m. count_below told n ≤ count_below told m) e (omega arith)
count-more told n (suc k) =
    let e : suc (k + n) ≡ suc k + n = omega arith in
    subst (λ m. count_below told n ≤ count_below told m) e (of (told (k + n)) (count-more told n k))
  where
    of : (b : Bool) → count_below told n ≤ count_below told (k + n) → count_below told n ≤ (if b then suc (count_below told (k + n)) else count_below told (k + n))
    of true less = omega (arith, less)
    of false less = less

-- sums of what is within one another
sum-within : (holdoff count longest delay wait times step other : ℕ) → holdoff ≤ wait → count ≤ times → longest ≤ step → delay ≤ other
    → holdoff + count * longest + 2 * delay ≤ wait + times * step + 2 * other
sum-within holdoff count longest delay wait times step other first second third fourth =
    let product : count * longest ≤ times * step = mul-le count longest times step second third in
    omega (arith, first, product, fourth)

-- a plan has one such bound
module _ (told : ℕ → Bool) (plan : Topology) (well : IsWellFormed plan) (bound other : ℕ) (is : IsFailureBound told plan bound) (also : IsFailureBound told plan other) where
  time-same : (n line : ℕ) → IsNominated plan line → is.time line ≤ n → is.time line ≤ also.time line
  time-same zero line nominated low = omega (arith, low)
  time-same (suc n) line nominated low = elim (is.times line nominated).reached [
    | inl nothing ↦ omega (arith, nothing)
    | inr (inl into) ↦ (also.times line nominated).most (is.time line) (inl into)
    | inr (inr over) ↦
        let from = (hop-meets BarredFromLast plan over.before line over.hops).from in
        let earlier = time-same n over.before from (omega (arith, over.is, IsDelayed-well plan well over.before from, low)) in
        let there = (also.times line nominated).most (also.time over.before + delay_of plan over.before) (inr (record { before = over.before; hops = over.hops; is = refl })) in
        omega (arith, over.is, earlier, there)
  ]

  longest-same : is.longest ≤ also.longest
  longest-same =
      greatest-within (IsLineTime plan is.time) is.longest also.longest is.greatest_time
      (λ n here.
      let same = time-same (is.time here.line) here.line here.nominated (omega arith) in
      let there = also.greatest_time.most (also.time here.line) (record { line = here.line; nominated = here.nominated; is = refl }) in
      omega (arith, here.is, same, there))

  pub no-more : bound ≤ other
  no-more =
      let delay = greatest-within (IsDelay plan) is.delay also.delay is.greatest_delay also.greatest_delay.most in
      let holdoff = greatest-within (IsHoldoff plan) is.holdoff also.holdoff is.greatest_holdoff also.greatest_holdoff.most in
      let high : is.high ≤ also.high = high-within plan is.high also.high is.are_high also.are_high in
      let e : (also.high - is.high) + is.high ≡ also.high = omega (arith, high) in
      let count : count_below told is.high ≤ count_below told also.high =
      subst (λ n. count_below told is.high ≤ count_below told n) e (count-more told is.high (also.high - is.high)) in
      omega (
        arith,
        is.is,
        also.is,
        sum-within is.holdoff (count_below told is.high) is.longest is.delay also.holdoff (count_below told also.high) also.longest also.delay holdoff count longest-same delay,
      )

pub only-one : (told : ℕ → Bool) (plan : Topology) (bound other : ℕ) → IsWellFormed plan → IsFailureBound told plan bound → IsFailureBound told plan other → bound ≡ other
only-one told plan bound other well is also = omega (arith, no-more told plan well bound other is also, no-more told plan well other bound also is)

-- and it is no greater than the agreed bound
module _ (told : ℕ → Bool) (plan : Topology) (bound later : ℕ) (is : IsFailureBound told plan bound) (agreed : IsAgreedBound plan later) where
  abbrev rank : ℕ → ℕ
  rank = rank_by (bears_on plan) plan agreed.ranked

  rising : IsAgreeing plan rank
  rising = rises-by (bears_on plan) plan agreed.ranked (λ line next bears. let meets = hop-meets BarredFromLast plan line next bears in (meets.from, meets.to))

  delay-within : (line : ℕ) → IsNominated plan line → delay_of plan line ≤ agreed.delay
  delay-within line nominated = agreed.greatest_delay.most (delay_of plan line) (record { line = line; nominated = nominated; is = refl })

  time-step : (line : ℕ) → IsNominated plan line → ((before : ℕ) → IsTrue (bears_on plan before line) → is.time before ≤ (rank before + 1) * agreed.delay)
      → is.time line ≤ (rank line + 1) * agreed.delay
  time-step line nominated before = elim (is.times line nominated).reached [
    | inl nothing ↦ omega (arith, nothing)
    | inr (inl into) ↦
        let more : 1 * agreed.delay ≤ (rank line + 1) * agreed.delay = mul-le 1 agreed.delay (rank line + 1) agreed.delay (omega arith) (omega arith) in
        omega (arith, into.is, delay-within into.before into.nominated, more)
    | inr (inr over) ↦
        let from = (hop-meets BarredFromLast plan over.before line over.hops).from in
        let more : (rank over.before + 2) * agreed.delay ≤ (rank line + 1) * agreed.delay =
        mul-le (rank over.before + 2) agreed.delay (rank line + 1) agreed.delay (omega (arith, rising over.before line over.hops)) (omega arith) in
        omega (arith, over.is, before over.before over.hops, delay-within over.before from, more)
  ]

  time-rank : (r line : ℕ) → IsNominated plan line → rank line ≤ r → is.time line ≤ (rank line + 1) * agreed.delay
  time-rank zero line nominated low = time-step line nominated (λ before bears. absurd (omega (arith, rising before line bears, low)))
  time-rank (suc r) line nominated low =
      time-step line nominated
      (λ before bears. time-rank r before (hop-meets BarredFromLast plan before line bears).from (omega (arith, rising before line bears, low)))

  abbrev step : ℕ
  step = (agreed.rank + 1) * agreed.delay

  longest-within : is.longest ≤ step
  longest-within =
      greatest-within (IsLineTime plan is.time) is.longest step is.greatest_time
      (λ n here.
      let top = agreed.greatest_rank.most (rank here.line) (record { line = here.line; nominated = here.nominated; is = least-by (bears_on plan) plan agreed.ranked here.line here.nominated }) in
      let more : (rank here.line + 1) * agreed.delay ≤ (agreed.rank + 1) * agreed.delay =
      mul-le (rank here.line + 1) agreed.delay (agreed.rank + 1) agreed.delay (omega (arith, top)) (omega arith) in
      omega (arith, here.is, time-rank (rank here.line) here.line here.nominated (omega arith), more))

  holdoff-within : is.holdoff ≤ agreed.wait
  holdoff-within =
      greatest-within (IsHoldoff plan) is.holdoff agreed.wait is.greatest_holdoff
      (λ n here. agreed.greatest_wait.most n (inl (record { place = here.place; element = here.element; has = here.has; is = inl here.is })))

  pub sooner : bound ≤ later
  sooner =
      let delay = greatest-within (IsDelay plan) is.delay agreed.delay is.greatest_delay agreed.greatest_delay.most in
      let high : is.high ≤ agreed.high = high-within plan is.high agreed.high is.are_high agreed.are_high in
      let count : count_below told is.high ≤ agreed.high = omega (arith, count-within told is.high, high) in
      let one : 1 * agreed.delay ≤ step = mul-le 1 agreed.delay (agreed.rank + 1) agreed.delay (omega arith) (omega arith) in
      let more : (agreed.high + 1) * step ≡ agreed.high * step + step = one_more agreed.high step in
      omega (
        arith,
        is.is,
        agreed.is,
        one,
        more,
        sum-within is.holdoff (count_below told is.high) is.longest is.delay agreed.wait agreed.high step agreed.delay holdoff-within count longest-within delay,
      )
    where
      one_more : (n k : ℕ) → (n + 1) * k ≡ n * k + k
      one_more n k = omega arith
