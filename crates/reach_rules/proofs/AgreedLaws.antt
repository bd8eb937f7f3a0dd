-- From its bound on a network whose plan agrees is steady where a high level reaches, settled where one reaches everywhere, and at the best of these.
use Rattle.std.proofs.Common.{◌≡◌, ◌≤◌, ◌<◌, ◌+◌, ◌*◌, ◌⊎◌, ℕ, suc, Bool, true, false, not, length, List, Option, None, Some, refl, ap, sym, subst, ◌∙◌, inl, inr, arith}
use Rattle.std.proofs.lemmas.Bool.{and_parts, eq-eqb}
use Rattle.std.proofs.lemmas.Nat.{mul-le}
use Rattle.std.proofs.lemmas.Option.{slice_get_cases}
use Rattle.sync_ql.specs.Level.{place_of, do_not_use_of, IsBetter}
use Rattle.sync_ql.specs.Table.{levels_of}
use Rattle.sync_topo.specs.declared.input.InputId.{InputId}
use Rattle.sync_topo.specs.declared.input.InputId.TheVariants.{Line, Source}
use Rattle.sync_topo.specs.declared.returns.ReturnRule.TheVariants.{BarredFromLast}
use Rattle.sync_topo.specs.declared.event.Event.{Event}
use Rattle.sync_topo.specs.Topology.{Topology}
use Rattle.sync_topo.specs.WellFormed.{IsWellFormed}
use Rattle.sync_topo.specs.Lines.{line_count, sender_of, input_priority}
use Rattle.sync_topo.specs.Bundles.{are_bundled}
use Rattle.sync_topo.specs.Hops.{bears_on, hops_any, IsRising}
use Rattle.sync_topo.proofs.HopLaws.{hop-any, hop-meets}
use Rattle.sync_topo.proofs.LineLaws.{IsNominated-within}
use Rattle.net_rules.specs.Signals.{Signals, signals_by}
use Rattle.net_rules.specs.Settings.{own_level}
use Rattle.net_rules.specs.History.{Levels, taken_at, level_at, sent_level, Obeys, out_at}
use Rattle.net_rules.specs.Settled.{IsSettled}
use Rattle.net_rules.specs.Settling.{IsOneWay}
use Rattle.net_rules.specs.Staying.{IsQuietAfter}
use Rattle.net_rules.proofs.BoundLaws.{rank_by, least-by, rises-by, runs-out}
use Rattle.net_rules.proofs.EventLaws.{quiet-after}
use Rattle.net_rules.proofs.FinalLaws.{obeys-well}
use Rattle.net_rules.proofs.NetLaws.{not-taken}
use Rattle.net_rules.proofs.PlanLaws.{sender-within, IsDelayed-well}
use Rattle.net_rules.proofs.RunOutLaws.{RunsOut, constant-at}
use Rattle.net_rules.proofs.WaitLaws.{carried-settles}
use Rattle.reach_rules.specs.Ways.{IsReached}
use Rattle.reach_rules.specs.Reaching.{MayComeIn, Reaches, IsNoWorse, IsBestReaching}
use Rattle.reach_rules.specs.Agreement.{IsAgreeing, IsAgreedBound, AreAuto, IsTimed, AreTimed, IsSteadyAt, IsAtRestFrom, IsHigh, ComesToRest}
use Rattle.reach_rules.proofs.AgreeLaws.{AgreesBy, agreeing, base, settled-place, stays-in, level-from, no-worse-from}
use Rattle.reach_rules.proofs.AutoLaws.{auto-at}
use Rattle.reach_rules.proofs.KeptInputs.{AreCalm, takes-again}
use Rattle.reach_rules.proofs.KeptLines.{heard-keeps}
use Rattle.reach_rules.proofs.ReachLaws.{own-is, input-within, reached-within, ways-map, reach-best}

-- numbers that rise over what bears on what rise over hops, and where no link is nominated both ways those that rise over hops do over both
pub agreeing-rises : (plan : Topology) (rank : ℕ → ℕ) → IsAgreeing plan rank → IsRising plan rank
agreeing-rises plan rank agreeing line next hop =
    let parts = and_parts (hops_any plan line next) (not (are_bundled plan line next)) hop in
    agreeing line next (rw (parts.0, apart (are_bundled plan line next) parts.1) refl)
  where
    apart : (bundled : Bool) → not bundled ≡ true → bundled ≡ false
    apart false is = refl
    apart true is = cc

pub rising-agrees : (plan : Topology) (rank : ℕ → ℕ) → IsOneWay plan → IsRising plan rank → IsAgreeing plan rank
rising-agrees plan rank one_way rising line next bears = by (are_bundled plan line next) refl
  where
    meets : hops_any plan line next ≡ true
    meets = hop-any BarredFromLast plan line next bears

    by : (bundled : Bool) → are_bundled plan line next ≡ bundled → rank line < rank next
    by false is = rising line next (rw (meets, is) refl)
    by true is =
        let ends = hop-meets BarredFromLast plan line next bears in
        absurd (one_way line next ends.from ends.to (rw (eq-eqb _ _ ends.joined, is) refl))

sent-same : (plan : Topology) (signals : Signals) (out : Levels) (t u line : ℕ) → IsSteadyAt plan signals out t u (sender_of plan line)
    → sent_level plan signals out line u ≡ sent_level plan signals out line t
unfolding sent_level taken_at level_at
sent-same plan signals out t u line steady = rw (steady.taken, steady.level) refl

sent-steady : (plan : Topology) (signals : Signals) (out : Levels) (t u line : ℕ) → Obeys plan signals out → line < line_count plan
    → IsSteadyAt plan signals out t u (sender_of plan line) → out line u ≡ out line t
sent-steady plan signals out t u line obeys within steady =
    obeys line u within ∙ sent-same plan signals out t u line steady ∙ sym (obeys line t within)

-- all that a bound rests on
pub record Rests (plan : Topology) (signals : Signals) (out : Levels) (last bound : ℕ) : Type 0 where
  pub time : ℕ → ℕ
  pub turns : ℕ → ℕ
  pub wait : ℕ
  pub delay : ℕ
  pub step : ℕ
  pub high : ℕ
  pub by : AgreesBy plan signals out time turns last wait delay step high
  pub all : (place : ℕ) → place < length (levels_of plan.option) → IsHigh plan place → place < high
  pub enough : wait + turns high * step + 2 * delay ≤ bound

-- the agreed bound does: ranks times the greatest delay are times, and each high level takes a turn
pub agreed-rests : (plan : Topology) (signals : Signals) (out : Levels) (last bound : ℕ) → IsAgreedBound plan bound → IsQuietAfter signals last
    → Rests plan signals out last bound
agreed-rests plan signals out last bound is quiet = record {
  time = λ line. (rank line + 1) * is.delay;
  turns = λ place. place;
  wait = is.wait;
  delay = is.delay;
  step = (is.rank + 1) * is.delay;
  high = is.high;
  by = record {
    runs_out = run_out;
    late = record {
      into = λ before line before_nominated nominated joins. omega (arith, run_out.delays before before_nominated);
      over = λ before line bears.
          let meets = hop-meets BarredFromLast plan before line bears in
          let more : (rank before + 2) * is.delay ≤ (rank line + 1) * is.delay =
          mul-le (rank before + 2) is.delay (rank line + 1) is.delay (omega (arith, rising before line bears)) (omega arith) in
          omega (arith, more, run_out.delays before meets.from);
    };
    times = λ line nominated.
        mul-le (rank line + 1) is.delay (is.rank + 1) is.delay
        (omega (arith, is.greatest_rank.most (rank line) (record { line = line; nominated = nominated; is = least-by (bears_on plan) plan is.ranked line nominated })))
        (omega arith);
    take = λ place below. inl refl;
    are_high = is.are_high.high;
  };
  all = is.are_high.all;
  enough = omega (arith, is.is);
}
  where
    rank : ℕ → ℕ
    rank = rank_by (bears_on plan) plan is.ranked

    rising : IsAgreeing plan (rank_by (bears_on plan) plan is.ranked)
    rising = rises-by (bears_on plan) plan is.ranked (λ line next bears. let meets = hop-meets BarredFromLast plan line next bears in (meets.from, meets.to))

    run_out : RunsOut plan signals out last is.wait is.delay
    run_out = runs-out plan signals out last is.wait is.delay is.greatest_delay is.greatest_wait quiet

module _ (plan : Topology) (signals : Signals) (out : Levels) (last bound : ℕ) (rests : Rests plan signals out last bound) (well : IsWellFormed plan)
    (obeys : Obeys plan signals out) (auto : AreAuto plan signals out last) where
  -- the millisecond from which every high level is carried always or never, and heard so
  abbrev pub start : ℕ
  start = base plan signals out rests.time rests.turns last rests.wait rests.delay rests.step rests.high rests.by well obeys auto + rests.delay

  pub starts-in-time : start + rests.delay ≤ last + bound
  starts-in-time = omega (arith, rests.enough)

  level-high : (element : ℕ) (timed : IsTimed plan signals out last element) → place_of (signals.source_level timed.source last) < rests.high
  level-high element timed =
      let within = reached-within plan signals out (signals.source_level timed.source last) last timed.source timed.lines element well timed.reaches.way in
      rests.all (place_of (signals.source_level timed.source last)) (row within) timed.worse
    where
      row : element < length plan.elements → place_of (signals.source_level timed.source last) < length (levels_of plan.option)
      row within = elim (slice_get_cases plan.elements element).1 [
        | inl there ↦
            let own : own_level plan element ≡ there.0.own = rw there.2 refl in
            let last_row : place_of there.0.own < length (levels_of plan.option) =
            subst (λ o. place_of there.0.own < length (levels_of o)) (well.elements_fit element there.0 there.2).own_is_clock_level.of_option there.0.own.is_row in
            omega (arith, timed.worse element within, ap place_of own, last_row)
        | inr past ↦ absurd (omega (arith, within, past.0))
      ]

  module _ (element : ℕ) (timed : IsTimed plan signals out last element) where
    pub no-worse : (t : ℕ) → start ≤ t → IsNoWorse (level_at plan signals out element t) (signals.source_level timed.source last)
    no-worse t after =
        no-worse-from plan signals out rests.time rests.turns last rests.wait rests.delay rests.step rests.high rests.by well obeys auto timed.source (signals.source_level timed.source last) refl
        (level-high element timed) timed.reaches.above timed.lines element timed.reaches.way t after

    pub takes-some : (t : ℕ) → start ≤ t → (input : InputId) × (taken_at plan signals out element t ≡ Some input)
    takes-some t after = of (taken_at plan signals out element t) refl
      where
        within : element < length plan.elements
        within = reached-within plan signals out (signals.source_level timed.source last) last timed.source timed.lines element well timed.reaches.way

        of : (o : Option InputId) → taken_at plan signals out element t ≡ o → (input : InputId) × (taken_at plan signals out element t ≡ Some input)
        of (Some input) takes = (input, takes)
        of None none =
            let own : level_at plan signals out element t ≡ own_level plan element = not-taken plan signals out element t none ∙ own-is plan element in
            absurd (omega (arith, no-worse t after, ap place_of own, timed.worse element within))

    calm : (t number : ℕ) → start ≤ t → AreCalm plan signals out element t (place_of (level_at plan signals out element t)) number
    calm t number after (Source source) input_is good level hears as_good = ap Some (rests.by.runs_out.quiet.source_level source t (omega (arith, after)))
    calm t number after (Line line) input_is good level hears as_good =
        heard-keeps plan signals out last rests.wait rests.delay rests.by.runs_out well (IsDelayed-well plan well) obeys auto line.0 (place_of level) t level input_is.nominated
        (record {
          from = base plan signals out rests.time rests.turns last rests.wait rests.delay rests.step rests.high rests.by well obeys auto;
          late = omega arith;
          soon = omega (arith, after, rests.by.runs_out.delays line.0 input_is.nominated);
          keeps = settled-place plan signals out rests.time rests.turns last rests.wait rests.delay rests.step rests.high rests.by well obeys auto line.0 (place_of level) (low as_good) input_is.nominated;
        })
        (omega (arith, after)) good hears refl
      where
        low : (place_of level < place_of (level_at plan signals out element t))
            ⊎ ((place_of level ≡ place_of (level_at plan signals out element t)) × (input_priority plan (Line line) ≤ number)) → place_of level < rests.high
        low (inl less) = omega (arith, less, no-worse t after, level-high element timed)
        low (inr same) = omega (arith, same.0, no-worse t after, level-high element timed)

    pub steady-next : (t : ℕ) → start ≤ t → IsSteadyAt plan signals out t (suc t) element
    steady-next t after =
        let takes = takes-some t after in
        takes-again plan signals out last rests.wait rests.delay rests.by.runs_out (IsDelayed-well plan well) obeys element
        (auto element (reached-within plan signals out (signals.source_level timed.source last) last timed.source timed.lines element well timed.reaches.way)) t (omega (arith, after))
        (place_of (level_at plan signals out element t)) (input_priority plan takes.0) takes.0 (calm t (input_priority plan takes.0) after)
        (record { taken = takes.1; place_is = refl; number_is = omega arith })

    pub steady-from-bound : (t : ℕ) → last + bound ≤ t → IsSteadyAt plan signals out (last + bound) t element
    steady-from-bound t after = record {
      taken = constant-at (taken_at plan signals out element) (last + bound) t (λ u since. (steady-next u (omega (arith, since, starts-in-time))).taken) after;
      level = constant-at (level_at plan signals out element) (last + bound) t (λ u since. (steady-next u (omega (arith, since, starts-in-time))).level) after;
    }

  -- where every element takes the same from one millisecond to the next, the network is settled
  pub settled-where : ((element : ℕ) → element < length plan.elements → (t : ℕ) → start ≤ t → IsSteadyAt plan signals out t (suc t) element)
      → (t : ℕ) → last + bound ≤ t → IsSettled plan signals out t
  settled-where steady t after =
      carried-settles plan signals out last rests.wait rests.delay rests.by.runs_out (IsDelayed-well plan well) obeys start t
      (λ line nominated u since.
      let within = IsNominated-within plan line nominated in
      sent-steady plan signals out u (suc u) line obeys within
      (steady (sender_of plan line) (sender-within plan well line within) u since))
      (omega arith) (omega (arith, after, starts-in-time)) (omega (arith, after, starts-in-time))

  pub settled-from-bound : AreTimed plan signals out last → (t : ℕ) → last + bound ≤ t → IsSettled plan signals out t
  settled-from-bound timed = settled-where (λ element within. steady-next element (timed element within))

  -- a way that leads somewhere after the last event leads there later
  reaches-later : (source t : ℕ) (lines : List ℕ) (element : ℕ) → last ≤ t → Reaches plan signals out last source lines element → Reaches plan signals out t source lines element
  reaches-later source t lines element after reaches =
      let same : signals.source_level source last ≡ signals.source_level source t =
      sym (level-from plan signals out rests.time rests.turns last rests.wait rests.delay rests.step rests.high rests.by well obeys auto source t after) in
      record {
        above = subst (λ l. IsBetter l (do_not_use_of l.option)) same reaches.above;
        way = subst (λ l. IsReached plan (MayComeIn plan signals out l t) source lines element) same
            (all-within lines element reaches.way);
      }
    where
      all-within : (lines : List ℕ) (element : ℕ) → IsReached plan (MayComeIn plan signals out (signals.source_level source last) last) source lines element
          → IsReached plan (MayComeIn plan signals out (signals.source_level source last) t) source lines element
      all-within lines element way =
          ways-map plan (MayComeIn plan signals out (signals.source_level source last) last) (MayComeIn plan signals out (signals.source_level source last) t)
          (λ e input may. stays-in plan signals out rests.time rests.turns last rests.wait rests.delay rests.step rests.high rests.by well obeys auto (signals.source_level source last) t e input after
          (input-within plan e input well may.of) may) source lines element way

  pub best-where : (t element : ℕ) → last + bound ≤ t → IsSettled plan signals out t → IsTimed plan signals out last element
      → IsBestReaching plan signals out t element (level_at plan signals out element t)
  best-where t element after settled here =
      let late : last ≤ t = omega (arith, after) in
      let same : signals.source_level here.source last ≡ signals.source_level here.source t =
      sym (level-from plan signals out rests.time rests.turns last rests.wait rests.delay rests.step rests.high rests.by well obeys auto here.source t late) in
      reach-best plan signals out rests.time t here.source here.lines element well obeys
      (agreeing-rises plan rests.time (agreeing plan signals out rests.time rests.turns last rests.wait rests.delay rests.step rests.high rests.by well obeys auto)) settled
      (λ e inside. (auto-at plan signals out e last t rests.by.runs_out.quiet (auto e inside) late).0.unforced)
      (λ e inside. subst (λ l. IsBetter l (own_level plan e)) same (here.worse e inside))
      (reaches-later here.source t here.lines element late here.reaches)

  pub best-from-bound : AreTimed plan signals out last → (t element : ℕ) → last + bound ≤ t → element < length plan.elements
      → IsBestReaching plan signals out t element (level_at plan signals out element t)
  best-from-bound timed t element after within = best-where t element after (settled-from-bound timed t after) (timed element within)

-- by any list of events
pub rests-from : (plan : Topology) (events : List Event) (last bound : ℕ) → IsWellFormed plan
    → Rests plan (signals_by plan events) (out_at plan (signals_by plan events)) last bound → AreAuto plan (signals_by plan events) (out_at plan (signals_by plan events)) last
    → IsAtRestFrom plan events last (last + bound)
rests-from plan events last bound well rests auto = record {
  steady = λ element t timed after. steady-from-bound plan signals out last bound rests well obeys auto element timed t after;
  settled = settled-from-bound plan signals out last bound rests well obeys auto;
  best = λ timed t after element within. best-from-bound plan signals out last bound rests well obeys auto timed t element after within;
}
  where
    signals : Signals
    signals = signals_by plan events

    out : Levels
    out = out_at plan signals

    obeys : Obeys plan (signals_by plan events) (out_at plan (signals_by plan events))
    obeys = obeys-well plan (signals_by plan events) well

pub comes-to-rest : (plan : Topology) (bound : ℕ) → IsWellFormed plan → IsAgreedBound plan bound → ComesToRest plan bound
comes-to-rest plan bound well is events fits last none auto =
    rests-from plan events last bound well
    (agreed-rests plan (signals_by plan events) (out_at plan (signals_by plan events)) last bound is (quiet-after plan events last none)) auto
