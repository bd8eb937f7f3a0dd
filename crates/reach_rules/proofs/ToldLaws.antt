-- A level better than every own clock that no source has is carried by no line, where a network only loses parts out of a settled
-- millisecond: what is heard later came since, or was on its way then and is what was heard.
use Rattle.std.proofs.Common.{◌≡◌, ◌≤◌, ◌<◌, ◌+◌, ◌-◌, ℕ, zero, suc, Bool, true, false, not, length, List, [], ◌∷◌, Option, None, Some, refl, ap, sym, subst, ◌∙◌, inl, inr, arith}
use Rattle.std.specs.Prelude.{IsTrue}
use Rattle.std.proofs.Math.Decide.{dec_lt}
use Rattle.std.proofs.lemmas.Bool.{true≢false}
use Rattle.std.proofs.lemmas.Option.{none-some, same_Some, slice_get_cases}
use Rattle.sync_ql.specs.declared.levels.Level.{Level}
use Rattle.sync_ql.specs.Level.{place_of, do_not_use_of}
use Rattle.sync_ql.specs.Pasts.{past_of}
use Rattle.sync_ql.specs.Messages.{came, heard_at}
use Rattle.sync_topo.specs.declared.input.InputId.{InputId}
use Rattle.sync_topo.specs.declared.input.InputId.TheVariants.{Line, Source}
use Rattle.sync_topo.specs.Topology.{Topology}
use Rattle.sync_topo.specs.WellFormed.{IsWellFormed}
use Rattle.sync_topo.specs.Lines.{line_count, line_input, sender_of, delay_of, IsInput, IsNominated, is_nominated_input}
use Rattle.sync_topo.specs.Hops.{IsRising}
use Rattle.sync_topo.proofs.LineLaws.{IsNominated-within}
use Rattle.net_rules.specs.Signals.{Signals, speaks_at}
use Rattle.net_rules.specs.Settings.{own_level}
use Rattle.net_rules.specs.History.{Levels, line_moment_at, heard, failed_by, taken_at, level_at, is_way_back, Obeys}
use Rattle.net_rules.specs.Settled.{IsSteady}
use Rattle.net_rules.specs.Safety.{taken_in, IsEndLevel}
use Rattle.net_rules.specs.Walks.{TraceEnd, at_source, at_clock, at_loop, IsTraceAfter}
use Rattle.net_rules.specs.Losing.{IsLosing}
use Rattle.net_rules.proofs.Arrivals.{came-or_not, came-said, heard-came}
use Rattle.net_rules.proofs.FinalLaws.{traced-here}
use Rattle.net_rules.proofs.HistoryLaws.{IsDelayed}
use Rattle.net_rules.proofs.NetLaws.{taken-is, not-taken}
use Rattle.net_rules.proofs.PairLaws.{sent-back, said-sent, is_heard, was_heard}
use Rattle.net_rules.proofs.PassingOn.{sent-own}
use Rattle.net_rules.proofs.PlanLaws.{sender-within, IsDelayed-well}
use Rattle.net_rules.proofs.QuietLaws.{steady-next}
use Rattle.net_rules.proofs.SettledLaws.{rising-loop_free, settled-heard}
use Rattle.reach_rules.specs.Agreement.{IsHigh}
use Rattle.reach_rules.specs.Failing.{AreTold}
use Rattle.reach_rules.proofs.AgreeLaws.{IsNeverCarried}
use Rattle.reach_rules.proofs.ReachLaws.{own-is}

-- a trace that ends at a source ends where it is taken
source-taken : (plan : Topology) (signals : Signals) (out : Levels) (t source : ℕ) (passed : List ℕ) (element : ℕ) (lines : List ℕ)
    → IsTraceAfter plan (taken_in plan signals out t) passed element lines (at_source source) → (at : ℕ) × (taken_at plan signals out at t ≡ Some (Source source))
source-taken plan signals out t source passed element [] trace = (element, trace.1)
source-taken plan signals out t source passed element (line ∷ rest) trace = source-taken plan signals out t source (element ∷ passed) (sender_of plan line) rest trace.2

module _ (plan : Topology) (signals : Signals) (out : Levels) (rank : ℕ → ℕ) (settled last : ℕ) (told : ℕ → Bool) (place : ℕ) (well : IsWellFormed plan)
    (obeys : Obeys plan signals out) (rising : IsRising plan rank) (losing : IsLosing plan signals out settled last) (levels : AreTold told plan signals settled)
    (high : IsHigh plan place) (untold : told place ≡ false) where
  delayed : IsDelayed plan
  delayed = IsDelayed-well plan well

  -- neither an own clock nor do-not-use has it
  own-below : (element : ℕ) → element < length plan.elements → place_of (own_level plan element) < place_of (do_not_use_of plan.option)
  own-below element within = elim (slice_get_cases plan.elements element).1 [
    | inl there ↦ rw there.2 ((well.elements_fit element there.0 there.2).own_is_clock_level.above_do_not_use)
    | inr past ↦ absurd (omega (arith, within, past.0))
  ]

  own-other : (element clock : ℕ) → element < length plan.elements → place_of (own_level plan clock) ≡ place → ⊥
  own-other element clock within is = elim (slice_get_cases plan.elements clock).1 [
    | inl there ↦ omega (arith, is, high clock there.1)
    | inr past ↦
        let none : own_level plan clock ≡ do_not_use_of plan.option = rw past.1 refl in
        omega (arith, is, ap place_of none, high element within, own-below element within)
  ]

  source-other : (source t : ℕ) → IsTrue (is_nominated_input plan (Source source)) → settled ≤ t → place_of (signals.source_level source t) ≡ place → ⊥
  source-other source t nominated after is = true≢false (sym (levels source t nominated after) ∙ ap told is ∙ untold)

  -- no element has it in the settled millisecond
  level-then : (element : ℕ) → element < length plan.elements → place_of (level_at plan signals out element settled) ≡ place → ⊥
  level-then element within is = of trace.1 trace.2 ((rising-loop_free plan signals out rank well obeys rising settled).traced losing.rests element trace.0 trace.1 trace.2)
    where
      trace : (lines : List ℕ) × (end : TraceEnd) × IsTraceAfter plan (taken_in plan signals out settled) [] element lines end
      trace = traced-here plan signals out element settled well within

      of : (end : TraceEnd) → IsTraceAfter plan (taken_in plan signals out settled) [] element trace.0 end
          → IsEndLevel plan signals settled (level_at plan signals out element settled) end → ⊥
      of (at_source source) ends level =
          let taken = source-taken plan signals out settled source [] element trace.0 ends in
          source-other source settled (taken-is plan signals out taken.0 settled (Source source) taken.1).of.nominated (omega arith) (ap place_of (sym level) ∙ is)
      of (at_clock clock) ends level = own-other element clock within (ap place_of (sym level) ∙ is)
      of (at_loop again) ends level = level

  -- a line carries it only where its sender has it
  carries-level : (line t : ℕ) → line < line_count plan → place_of (out line t) ≡ place → place_of (level_at plan signals out (sender_of plan line) t) ≡ place
  carries-level line t line_within is = back (is_way_back plan (taken_at plan signals out (sender_of plan line) t) line) refl
    where
      within : sender_of plan line < length plan.elements
      within = sender-within plan well line line_within

      back : (b : Bool) → is_way_back plan (taken_at plan signals out (sender_of plan line) t) line ≡ b → place_of (level_at plan signals out (sender_of plan line) t) ≡ place
      back true returns =
          let none : out line t ≡ do_not_use_of plan.option = obeys line t line_within ∙ sent-back plan signals out line t returns in
          absurd (omega (arith, sym is ∙ ap place_of none, high (sender_of plan line) within, own-below (sender_of plan line) within))
      back false elsewhere = ap place_of (sym (obeys line t line_within ∙ sent-own plan signals out line t elsewhere)) ∙ is

  -- an input that was down then is failed for good
  down-since : (input : InputId) (k : ℕ) → IsInput plan input → IsTrue (is_nominated_input plan input) → signals.up input settled ≡ false
      → (signals.up input (k + settled) ≡ false) × IsSteady plan signals input (k + settled)
  down-since input zero has nominated down =
      let e : settled ≡ 0 + settled = omega arith in
      (ap (signals.up input) (sym e) ∙ down, subst (IsSteady plan signals input) e (losing.rests.steady input has nominated))
  down-since input (suc k) has nominated down =
      let before = down-since input k has nominated down in
      let e : suc (k + settled) ≡ suc k + settled = omega arith in
      let next : signals.up input (suc (k + settled)) ≡ false = of (signals.up input (suc (k + settled))) refl before.0 in (
        ap (signals.up input) (sym e) ∙ next,
        subst (IsSteady plan signals input) e (steady-next plan signals input (k + settled) before.1 (next ∙ sym before.0)),
      )
    where
      of : (up : Bool) → signals.up input (suc (k + settled)) ≡ up → signals.up input (k + settled) ≡ false → signals.up input (suc (k + settled)) ≡ false
      of false is now = is
      of true is now = absurd (true≢false (sym (losing.quick.up input (k + settled) (omega arith) is) ∙ now))

  good-then : (input : InputId) (t : ℕ) → IsInput plan input → IsTrue (is_nominated_input plan input) → settled ≤ t → failed_by plan signals input t ≡ false
      → signals.up input settled ≡ true
  good-then input t has nominated after good = of (signals.up input settled) refl
    where
      of : (up : Bool) → signals.up input settled ≡ up → signals.up input settled ≡ true
      of true is = is
      of false is =
          let e : (t - settled) + settled ≡ t = omega (arith, after) in
          let since = down-since input (t - settled) has nominated is in
          let failed : failed_by plan signals input t ≡ true = subst (λ n. failed_by plan signals input n ≡ true) e (since.1 ∙ ap not since.0) in
          absurd (true≢false (sym failed ∙ good))

  -- up to a millisecond no line carries it, and on none that was up then it is heard
  record NoneUntil (n : ℕ) : Type 0 where
    sent : (line t : ℕ) → line < line_count plan → settled ≤ t → t ≤ n → place_of (out line t) ≡ place → ⊥
    hears : (line : ℕ) (level : Level) → IsNominated plan line → signals.up (line_input line) settled ≡ true → heard plan signals out line n ≡ Some level
        → place_of level ≡ place → ⊥

  begins : NoneUntil settled
  begins = record {
    sent = sent-then;
    hears = λ line level nominated up has is. of line level nominated up has is (signals.esmc line settled) refl;
  }
    where
      sent-then : (line t : ℕ) → line < line_count plan → settled ≤ t → t ≤ settled → place_of (out line t) ≡ place → ⊥
      sent-then line t within after until is =
          let here : t ≡ settled = omega (arith, after, until) in
          level-then (sender_of plan line) (sender-within plan well line within) (carries-level line settled within (ap (λ n. place_of (out line n)) (sym here) ∙ is))

      of : (line : ℕ) (level : Level) → IsNominated plan line → signals.up (line_input line) settled ≡ true → heard plan signals out line settled ≡ Some level
          → place_of level ≡ place → (esmc : Bool) → signals.esmc line settled ≡ esmc → ⊥
      of line level nominated up has is true on =
          let speaks : speaks_at signals line settled ≡ true = rw (up, on) refl in
          let same : out line settled ≡ level =
          same_Some _ _ (sym (settled-heard plan signals out line settled losing.rests nominated speaks) ∙ has) in
          sent-then line settled (IsNominated-within plan line nominated) (omega arith) (omega arith) (ap place_of same ∙ is)
      of line level nominated up has is false off = none-some level (sym (losing.rests.silent line nominated up off) ∙ has)

  next-heard : (n : ℕ) → settled ≤ n → NoneUntil n → (line : ℕ) (level : Level) → IsNominated plan line → signals.up (line_input line) settled ≡ true
      → heard plan signals out line (suc n) ≡ Some level → place_of level ≡ place → ⊥
  next-heard n after before line level nominated up has is =
      elim (heard-came (line_moment_at signals out line) (delay_of plan line) n level (was_heard plan signals out line (suc n) level has)) [
        | inl arrived ↦ arrives arrived
        | inr earlier ↦ before.hears line level nominated up (is-heard earlier) is
      ]
    where
      is-heard : heard_at (delay_of plan line) (past_of (line_moment_at signals out line) (suc n)) ≡ Some level → heard plan signals out line n ≡ Some level
      is-heard earlier = is_heard plan signals out line n earlier

      said : (from : ℕ) → suc n ≡ delay_of plan line + from → came (delay_of plan line) (past_of (line_moment_at signals out line) (suc (suc n))) ≡ Some level → out line from ≡ level
      said from ago arrived = said-sent signals out line from level (came-said (line_moment_at signals out line) (delay_of plan line) from (suc n) level ago arrived)

      arrives : came (delay_of plan line) (past_of (line_moment_at signals out line) (suc (suc n))) ≡ Some level → ⊥
      arrives arrived = elim (came-or_not (line_moment_at signals out line) (delay_of plan line) (suc n)) [
        | inr nothing ↦ none-some level (sym nothing ∙ arrived)
        | inl c ↦ elim (dec_lt c.from settled) [
          | no since ↦
              before.sent line c.from (IsNominated-within plan line nominated) (omega (arith, since)) (omega (arith, c.ago, delayed line nominated))
              (ap place_of (said c.from c.ago arrived) ∙ is)
          | yes old ↦
              let carried = losing.rests.carried line nominated up c.from c.sent (record {
                begun = omega (arith, old);
                recent = omega (arith, c.ago, after);
                up = λ u since until. c.up u since (omega (arith, until, after));
              }) in
              then-heard (out line c.from) carried (ap place_of (said c.from c.ago arrived) ∙ is)
        ]
      ]
        where
          then-heard : (one : Level) → heard plan signals out line settled ≡ Some one → place_of one ≡ place → ⊥
          then-heard one heard_then of_place = begins.hears line one nominated up heard_then of_place

  next-level : (n : ℕ) → settled ≤ n
      → ((line : ℕ) (level : Level) → IsNominated plan line → signals.up (line_input line) settled ≡ true → heard plan signals out line (suc n) ≡ Some level → place_of level ≡ place → ⊥)
      → (element : ℕ) → element < length plan.elements → place_of (level_at plan signals out element (suc n)) ≡ place → ⊥
  next-level n after none element within is = of (taken_at plan signals out element (suc n)) refl
    where
      of : (o : Option InputId) → taken_at plan signals out element (suc n) ≡ o → ⊥
      of None nothing = own-other element element within (ap place_of (sym (not-taken plan signals out element (suc n) nothing ∙ own-is plan element)) ∙ is)
      of (Some (Source source)) takes =
          let taken = taken-is plan signals out element (suc n) (Source source) takes in
          source-other source (suc n) taken.of.nominated (omega (arith, after)) (ap place_of (same_Some _ _ taken.has_level) ∙ is)
      of (Some (Line line)) takes =
          let taken = taken-is plan signals out element (suc n) (Line line) takes in
          none line.0 (level_at plan signals out element (suc n)) taken.of.nominated
          (good-then (line_input line.0) (suc n) taken.of.has taken.of.nominated (omega (arith, after)) taken.good) taken.has_level is

  next-none : (n : ℕ) → settled ≤ n → NoneUntil n → NoneUntil (suc n)
  next-none n after before = record { sent = sent; hears = next-heard n after before }
    where
      sent : (line t : ℕ) → line < line_count plan → settled ≤ t → t ≤ suc n → place_of (out line t) ≡ place → ⊥
      sent line t within since until is = elim (dec_lt n t) [
        | no earlier ↦ before.sent line t within since (omega (arith, earlier)) is
        | yes now ↦
            let here : t ≡ suc n = omega (arith, now, until) in
            next-level n after (next-heard n after before) (sender_of plan line) (sender-within plan well line within)
            (carries-level line (suc n) within (ap (λ u. place_of (out line u)) (sym here) ∙ is))
      ]

  none-until : (k : ℕ) → NoneUntil (k + settled)
  none-until zero = let e : settled ≡ 0 + settled = omega arith in subst NoneUntil e begins
  none-until (suc k) = let e : suc (k + settled) ≡ suc k + settled = omega arith in subst NoneUntil e (next-none (k + settled) (omega arith) (none-until k))

  pub never-carried : IsNeverCarried plan out last place
  never-carried line t nominated after is =
      let e : (t - settled) + settled ≡ t = omega (arith, after, losing.later) in
      (none-until (t - settled)).sent line t (IsNominated-within plan line nominated) (omega (arith, after, losing.later)) (omega (arith, e)) is
