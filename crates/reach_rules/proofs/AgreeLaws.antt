-- Where priorities agree with the ways of timing, one high level after another comes to rest, line by line as times rise.
use Rattle.std.proofs.Common.{◌≡◌, ◌≤◌, ◌<◌, ◌+◌, ◌-◌, ◌*◌, ◌⊎◌, ℕ, zero, suc, Bool, true, false, not, length, List, [], ◌∷◌, Some, refl, ap, sym, subst, ◌∙◌, inl, inr, arith}
use Rattle.std.specs.Prelude.{IsTrue}
use Rattle.std.proofs.Math.Decide.{dec_lt}
use Rattle.std.proofs.lemmas.Bool.{and_parts, cases_lt}
use Rattle.std.proofs.lemmas.Option.{same_Some, none-some}
use Rattle.sync_ql.specs.declared.levels.Level.{Level}
use Rattle.sync_ql.specs.Level.{place_of, do_not_use_of, IsBetter}
use Rattle.sync_ql.specs.Switches.{is_locked}
use Rattle.sync_topo.specs.declared.input.InputId.{InputId}
use Rattle.sync_topo.specs.declared.input.InputId.TheVariants.{Line, Source}
use Rattle.sync_topo.specs.Topology.{Topology}
use Rattle.sync_topo.specs.WellFormed.{IsWellFormed}
use Rattle.sync_topo.specs.Lines.{line_count, line_input, sender_of, receiver_of, delay_of, IsNominated}
use Rattle.sync_topo.specs.Hops.{bears_on}
use Rattle.sync_topo.specs.declared.returns.ReturnRule.TheVariants.{BarredFromLast}
use Rattle.sync_topo.proofs.HopLaws.{hop-meets}
use Rattle.sync_topo.proofs.LineLaws.{IsNominated-within}
use Rattle.net_rules.specs.Signals.{Signals}
use Rattle.net_rules.specs.Inputs.{IsInputOf}
use Rattle.net_rules.specs.History.{Levels, heard, failed_by, taken_at, level_at, is_way_back, Obeys}
use Rattle.net_rules.proofs.Backs.{back-receiver}
use Rattle.net_rules.proofs.HistoryLaws.{IsDelayed}
use Rattle.net_rules.proofs.NetLaws.{taken-is}
use Rattle.net_rules.proofs.PassingOn.{sent-own, goes-back-from}
use Rattle.net_rules.proofs.PlanLaws.{sender-within, IsDelayed-well}
use Rattle.net_rules.proofs.RunOutLaws.{RunsOut, constant-at}
use Rattle.net_rules.proofs.SettlingLaws.{AreLateOver}
use Rattle.net_rules.proofs.WaitLaws.{up-from, speaks-from, good-up, speaking-heard}
use Rattle.reach_rules.specs.Ways.{IsReached}
use Rattle.reach_rules.specs.Reaching.{says_at, switches_in, MayComeIn, IsNoWorse}
use Rattle.reach_rules.specs.Agreement.{IsHigh, IsAgreeing, AreAuto}
use Rattle.reach_rules.proofs.AutoLaws.{auto-at}
use Rattle.reach_rules.proofs.KeptLines.{Keeps, keeps-later, sends-on, carries-on}
use Rattle.reach_rules.proofs.ReachLaws.{input-within, no-worse-in, level-above}

-- each line's time is no less than the delay of a nominated line into its sender, nor than the time of a line that bears on it and
-- that one's delay
pub record AreLate (plan : Topology) (time : ℕ → ℕ) : Type 0 where
  pub into : (before line : ℕ) → IsNominated plan before → IsNominated plan line → receiver_of plan before ≡ sender_of plan line → delay_of plan before ≤ time line
  pub over : AreLateOver (bears_on plan) plan time

-- from a millisecond on no line carries a level of a place
abbrev pub IsNeverCarried : Topology → Levels → ℕ → ℕ → Type 0
IsNeverCarried plan out from place = (line t : ℕ) → IsNominated plan line → from ≤ t → place_of (out line t) ≡ place → ⊥

-- a place takes a turn of its own, or is never carried
abbrev pub TakesTurn : Topology → Levels → ℕ → (ℕ → ℕ) → ℕ → Type 0
TakesTurn plan out last turns place =
    (turns (suc place) ≡ suc (turns place)) ⊎ ((turns (suc place) ≡ turns place) × IsNeverCarried plan out last place)

-- what the bound rests on: times of lines that are at most `step`, in which one level comes to rest; so many turns; and all else
-- has run out
pub record AgreesBy (plan : Topology) (signals : Signals) (out : Levels) (time turns : ℕ → ℕ) (last wait delay step high : ℕ) : Type 0 where
  pub runs_out : RunsOut plan signals out last wait delay
  pub late : AreLate plan time
  pub times : (line : ℕ) → IsNominated plan line → time line ≤ step
  pub take : (place : ℕ) → place < high → TakesTurn plan out last turns place
  pub are_high : (place : ℕ) → place < high → IsHigh plan place

module _ (plan : Topology) (signals : Signals) (out : Levels) (time turns : ℕ → ℕ) (last wait delay step high : ℕ)
    (by : AgreesBy plan signals out time turns last wait delay step high) (well : IsWellFormed plan) (obeys : Obeys plan signals out)
    (auto : AreAuto plan signals out last) where
  pub delayed : IsDelayed plan
  delayed = IsDelayed-well plan well

  bears-nominated : (line next : ℕ) → IsTrue (bears_on plan line next) → IsNominated plan line
  bears-nominated line next bears = (hop-meets BarredFromLast plan line next bears).from

  -- times rise over what bears on what
  pub agreeing : IsAgreeing plan time
  agreeing line next bears = omega (arith, by.late.over line next bears, delayed line (bears-nominated line next bears))

  -- one place among the levels, line by line
  module _ (place from : ℕ) (below : place < high) (late : last + wait ≤ from)
      (lower : (line better : ℕ) → better < place → IsNominated plan line → Keeps out better line from) where
    carries-step : (line : ℕ) → IsNominated plan line
        → ((before : ℕ) → IsTrue (bears_on plan before line) → Keeps out place before (from + time before)) → Keeps out place line (from + time line)
    carries-step line nominated bears t since here =
        carries-on plan signals out last wait delay by.runs_out well delayed obeys auto line place t nominated (by.are_high place below)
        (omega (arith, late, since))
        (λ before better less before_nominated joins. record {
          from = from;
          late = omega (arith, late);
          soon = omega (arith, since, by.late.into before line before_nominated nominated joins);
          keeps = lower before better less before_nominated;
        })
        (λ before bears_here. record {
          from = from + time before;
          late = omega (arith, late);
          soon = omega (arith, since, by.late.over before line bears_here);
          keeps = bears before bears_here;
        }) here

    by-time : (r line : ℕ) → IsNominated plan line → time line ≤ r → Keeps out place line (from + time line)
    by-time zero line nominated low = carries-step line nominated (λ before bears. absurd (omega (arith, agreeing before line bears, low)))
    by-time (suc r) line nominated low =
        carries-step line nominated (λ before bears. by-time r before (bears-nominated before line bears) (omega (arith, agreeing before line bears, low)))

    pub one-place : (line : ℕ) → IsNominated plan line → Keeps out place line (from + step)
    one-place line nominated =
        keeps-later out place line (from + time line) (from + step) (omega (arith, by.times line nominated)) (by-time (time line) line nominated (omega arith))

  never-keeps : (place line from : ℕ) → IsNominated plan line → IsNeverCarried plan out last place → last ≤ from → Keeps out place line from
  never-keeps place line from nominated never late t since (inl now) = absurd (never line t nominated (omega (arith, late, since)) now)
  never-keeps place line from nominated never late t since (inr next) = absurd (never line (suc t) nominated (omega (arith, late, since)) next)

  -- and one place after another
  places-below : (k line place : ℕ) → k ≤ high → place < k → IsNominated plan line → Keeps out place line (last + wait + turns k * step)
  places-below zero line place most less nominated = absurd (omega (arith, less))
  places-below (suc k) line place most less nominated =
      of (by.take k (omega (arith, most))) (λ other better before other_nominated. places-below k other better (omega (arith, most)) before other_nominated)
    where
      k_below : k < high
      k_below = omega (arith, most)

      of : TakesTurn plan out last turns k
          → ((other better : ℕ) → better < k → IsNominated plan other → Keeps out better other (last + wait + turns k * step))
          → Keeps out place line (last + wait + turns (suc k) * step)
      of (inl one) earlier = elim (dec_lt place k) [
        | yes below ↦
            keeps-later out place line (last + wait + turns k * step) (last + wait + turns (suc k) * step) more (earlier line place below nominated)
        | no last_one ↦
            let here : k ≡ place = omega (arith, less, last_one) in
            subst (λ p. Keeps out p line (last + wait + turns (suc k) * step)) here
            (keeps-later out k line (last + wait + turns k * step + step) (last + wait + turns (suc k) * step) enough
            (one-place k (last + wait + turns k * step) k_below (omega arith)
            (λ other better before other_nominated. earlier other better before other_nominated) line nominated))
      ]
        where
          turn : turns (suc k) * step ≡ suc (turns k) * step
          turn = ap (λ n. n * step) one

          more : last + wait + turns k * step ≤ last + wait + turns (suc k) * step
          more = omega (arith, turn)

          enough : last + wait + turns k * step + step ≤ last + wait + turns (suc k) * step
          enough = omega (arith, turn)
      of (inr none) earlier = elim (dec_lt place k) [
        | yes below ↦
            keeps-later out place line (last + wait + turns k * step) (last + wait + turns (suc k) * step) same (earlier line place below nominated)
        | no last_one ↦
            let here : k ≡ place = omega (arith, less, last_one) in
            subst (λ p. Keeps out p line (last + wait + turns (suc k) * step)) here
            (never-keeps k line (last + wait + turns (suc k) * step) nominated none.1 (omega arith))
      ]
        where
          same : last + wait + turns k * step ≤ last + wait + turns (suc k) * step
          same = omega (arith, ap (λ n. n * step) none.0)

  -- from here on each line carries each high level always or never
  abbrev pub base : ℕ
  base = last + wait + turns high * step

  pub settled-place : (line place : ℕ) → place < high → IsNominated plan line → Keeps out place line base
  settled-place line place below nominated = places-below high line place (omega arith) below nominated

  -- so what it carries once it carries always
  later-one : (line place u k : ℕ) → Keeps out place line base → base ≤ u → place_of (out line u) ≡ place → out line (k + u) ≡ out line u
  later-one line place u zero keeps after is = ap (out line) (omega arith)
  later-one line place u (suc k) keeps after is =
      let so_far = later-one line place u k keeps after is in
      let e : suc k + u ≡ suc (k + u) = omega arith in
      ap (out line) e ∙ keeps (k + u) (omega (arith, after)) (inl (ap place_of so_far ∙ is)) ∙ so_far

  earlier-one : (line place u k t : ℕ) → Keeps out place line base → base ≤ t → t + k ≡ u → place_of (out line u) ≡ place → out line t ≡ out line u
  earlier-one line place u zero t keeps after at is = ap (out line) (omega (arith, at))
  earlier-one line place u (suc k) t keeps after at is =
      let next = earlier-one line place u k (suc t) keeps (omega (arith, after)) (omega (arith, at)) is in
      sym (keeps t after (inr (ap place_of next ∙ is))) ∙ next

  one-level : (line u t : ℕ) → IsNominated plan line → place_of (out line u) < high → base ≤ u → base ≤ t → out line t ≡ out line u
  one-level line u t nominated below after since = elim (cases_lt t u) [
    | inl before ↦ earlier-one line (place_of (out line u)) u (u - t) t keeps since (omega (arith, before)) refl
    | inr later ↦
        let e : (t - u) + u ≡ t = omega (arith, later) in
        ap (out line) (sym e) ∙ later-one line (place_of (out line u)) u (t - u) keeps after refl
  ]
    where
      keeps : Keeps out (place_of (out line u)) line base
      keeps = settled-place line (place_of (out line u)) below nominated

  pub base-late : last + wait ≤ base
  base-late = omega arith

  -- what comes in after the last event may come in later
  pub stays-in : (level : Level) (t element : ℕ) (input : InputId) → last ≤ t → element < length plan.elements
      → MayComeIn plan signals out level last element input → MayComeIn plan signals out level t element input
  stays-in level t element input after within may =
      let switches = auto-at plan signals out element last t by.runs_out.quiet (auto element within) after in
      record {
        of = may.of;
        says = says input may.says;
        place = may.place;
        there = may.there;
        unlocked = unlocked switches.1;
        unforced = switches.0.unforced;
        not_below = may.not_below;
      }
    where
      says : (input : InputId) → says_at signals input last ≡ true → says_at signals input t ≡ true
      says (Line line) speaks = speaks-from plan signals out last wait delay by.runs_out delayed obeys line.0 t after ∙ speaks
      says (Source source) up = up-from plan signals out last wait delay by.runs_out delayed obeys (Source source) t after ∙ up

      unlocked : (switches_in plan signals out element t).locked ≡ (switches_in plan signals out element last).locked
          → is_locked (switches_in plan signals out element t) may.place ≡ false
      unlocked same = rw same may.unlocked

  up-good : (element : ℕ) (input : InputId) (t : ℕ) → IsInputOf plan element input → last + wait ≤ t → signals.up input t ≡ true → failed_by plan signals input t ≡ false
  up-good element input t is after up = by.runs_out.steady input is.has is.nominated t after ∙ ap not up

  pub level-from : (source t : ℕ) → last ≤ t → signals.source_level source t ≡ signals.source_level source last
  level-from source t after = constant-at (signals.source_level source) last t (λ u since. by.runs_out.quiet.source_level source u since) after

  -- along a way of a high level each element is no worse from then on
  module _ (source : ℕ) (level : Level) (level_is : level ≡ signals.source_level source last) (below : place_of level < high)
      (above : IsBetter level (do_not_use_of level.option)) where
    NoWorse : ℕ → Type 0
    NoWorse element = (t : ℕ) → base + delay ≤ t → IsNoWorse (level_at plan signals out element t) level

    from-source : (element : ℕ) → MayComeIn plan signals out level last element (Source source) → NoWorse element
    unfolding NoWorse
    from-source element may t after =
        let waited : last + wait ≤ t = omega (arith, after, base-late) in
        let within = input-within plan element (Source source) well may.of in
        let now = stays-in level t element (Source source) (omega (arith, waited)) within may in
        no-worse-in plan signals out level t element (Source source) level now (omega arith) (up-good element (Source source) t may.of waited now.says)
        (ap Some (level-from source t (omega (arith, waited)) ∙ sym level_is)) above

    one-more : (line element : ℕ) → MayComeIn plan signals out level last element (line_input line) → NoWorse (sender_of plan line) → NoWorse element
    unfolding NoWorse
    one-more line element may before t after = back (is_way_back plan (taken_at plan signals out sender u) line) refl
      where
        sender : ℕ
        sender = sender_of plan line

        -- the millisecond in which the sender is looked at
        u : ℕ
        u = base + delay

        waited : last + wait ≤ t
        waited = omega (arith, after, base-late)

        no_worse : IsNoWorse (level_at plan signals out (sender_of plan line) (base + delay)) level
        no_worse = before (base + delay) (omega arith)

        line_within : line < line_count plan
        line_within = may.of.has

        now : MayComeIn plan signals out level t element (line_input line)
        now = stays-in level t element (line_input line) (omega (arith, waited)) (input-within plan element (line_input line) well may.of) may

        up : signals.up (line_input line) t ≡ true
        up = (and_parts (signals.up (line_input line) t) (signals.esmc line t) now.says).0

        back : (b : Bool) → is_way_back plan (taken_at plan signals out sender u) line ≡ b → IsNoWorse (level_at plan signals out element t) level
        back false elsewhere =
            let sent : out line u ≡ level_at plan signals out sender u = obeys line u line_within ∙ sent-own plan signals out line u elsewhere in
            let d : ℕ = delay_of plan line in
            let high_there : place_of (out line u) < high = omega (arith, ap place_of sent, no_worse, below) in
            let same : out line (t - d) ≡ level_at plan signals out sender u =
            one-level line u (t - d) may.of.nominated high_there (omega arith) (omega (arith, after, by.runs_out.delays line may.of.nominated)) ∙ sent in
            let hears : heard plan signals out line t ≡ Some (level_at plan signals out sender u) =
            speaking-heard plan signals out last wait delay by.runs_out delayed obeys line t (omega (arith, after, base-late, by.runs_out.delays line may.of.nominated)) now.says ∙ ap Some same in
            no-worse-in plan signals out level t element (line_input line) (level_at plan signals out sender u) now no_worse
            (up-good element (line_input line) t may.of waited up) hears (level-above plan signals out sender u well (sender-within plan well line line_within))
        back true returns =
            let from = goes-back-from plan (taken_at plan signals out sender u) line returns in
            let taken = taken-is plan signals out sender u (line_input from.before) from.is in
            let nominated : IsNominated plan from.before = taken.of.nominated in
            let d : ℕ = delay_of plan from.before in
            let joins : element ≡ sender_of plan from.before =
            sym may.of.of_element ∙ back-receiver plan from.before line well nominated may.of.nominated from.back in
            came from.before d refl nominated taken.good joins taken.has_level
          where
            said-then : (before d : ℕ) → d ≡ delay_of plan before → IsNominated plan before → failed_by plan signals (line_input before) u ≡ false
                → heard plan signals out before u ≡ Some (level_at plan signals out sender u) → d ≤ delay → out before (u - d) ≡ level_at plan signals out sender u
            said-then before d d_is nominated good hears short = of (signals.esmc before u) refl
              where
                up_then : signals.up (line_input before) u ≡ true
                up_then =
                    good-up plan signals out last wait delay by.runs_out delayed obeys (line_input before) u (IsNominated-within plan before nominated) nominated
                    (omega (arith, base-late)) good

                of : (esmc : Bool) → signals.esmc before u ≡ esmc → out before (u - d) ≡ level_at plan signals out sender u
                of true on =
                    ap (λ n. out before (u - n)) d_is
                    ∙ same_Some _ _ (sym (speaking-heard plan signals out last wait delay by.runs_out delayed obeys before u (omega (arith, base-late, d_is, short)) (rw (up_then, on) refl)) ∙ hears)
                of false off =
                    absurd (none-some (level_at plan signals out sender u)
                    (sym (by.runs_out.silent before nominated u (omega (arith, base-late)) up_then off) ∙ hears))

            came : (before d : ℕ) → d ≡ delay_of plan before → IsNominated plan before → failed_by plan signals (line_input before) u ≡ false → element ≡ sender_of plan before
                → heard plan signals out before u ≡ Some (level_at plan signals out sender u) → IsNoWorse (level_at plan signals out element t) level
            came before d d_is nominated good joins hears =
                let short : d ≤ delay = subst (λ n. n ≤ delay) (sym d_is) (by.runs_out.delays before nominated) in
                let said : out before (u - d) ≡ level_at plan signals out sender u = said-then before d d_is nominated good hears short in
                let high_then : place_of (out before (u - d)) < high = omega (arith, ap place_of said, no_worse, below) in
                let same : out before t ≡ out before (u - d) = one-level before (u - d) t nominated high_then (omega (arith, short)) (omega (arith, after)) in
                let place_now : place_of (out before t) < high = omega (arith, ap place_of same, high_then) in
                let sends = sends-on plan signals out last wait delay by.runs_out well delayed obeys auto before t (place_of (out before t))
                (IsNominated-within plan before nominated) (by.are_high (place_of (out before t)) place_now) refl in
                let here : out before t ≡ level_at plan signals out element t = sends.level ∙ ap (λ e. level_at plan signals out e t) (sym joins) in
                omega (arith, ap place_of here, ap place_of same, ap place_of said, no_worse)

    pub no-worse-from : (lines : List ℕ) (element : ℕ) → IsReached plan (MayComeIn plan signals out level last) source lines element → (t : ℕ) → base + delay ≤ t
        → IsNoWorse (level_at plan signals out element t) level
    unfolding NoWorse
    no-worse-from [] element way = from-source element way
    no-worse-from (line ∷ before) element way = one-more line element way.0 (no-worse-from before (sender_of plan line) way.1)
