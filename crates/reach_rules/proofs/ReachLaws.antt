-- Levels reach along ways.
use Rattle.std.proofs.Common.{◌≡◌, ◌<◌, ℕ, suc, Bool, true, false, not, ◌&&◌, List, [], ◌∷◌, length, Option, None, Some, IsSome, slice_get, refl, ap, sym, subst, ◌∙◌, inl, inr, arith}
use Rattle.std.specs.Prelude.{if◌then◌else◌, IfSome, option_and_then}
use Rattle.std.proofs.lemmas.Bool.{and_parts}
use Rattle.std.proofs.lemmas.Bool.Decides.{nat_tests}
use Rattle.std.proofs.lemmas.Option.{slice_get_cases, same_Some, none-some}
use Rattle.sync_ql.specs.declared.levels.Level.{Level}
use Rattle.sync_ql.specs.Level.{place_of, do_not_use_of, IsBetter}
use Rattle.sync_ql.specs.Messages.{said_in}
use Rattle.sync_ql.specs.Selection.{is_better}
use Rattle.sync_ql.specs.Taken.{MayBeTaken}
use Rattle.sync_ql.specs.Moment.{level_now, selection_at}
use Rattle.sync_ql.proofs.QuietMoments.{selection_at-within}
use Rattle.sync_ql.proofs.TakenInputs.{taken_may_be_taken}
use Rattle.sync_topo.specs.declared.input.InputId.{InputId}
use Rattle.sync_topo.specs.declared.input.InputId.TheVariants.{Line, Source}
use Rattle.sync_topo.specs.Topology.{Topology}
use Rattle.sync_topo.specs.Lines.{line_input, line_count, sender_of, receiver_of, element_of_source, inputs_of, IsNominated}
use Rattle.sync_topo.specs.Hops.{IsRising}
use Rattle.sync_topo.specs.WellFormed.{IsWellFormed}
use Rattle.sync_topo.proofs.LineLaws.{IsNominated-within}
use Rattle.net_rules.specs.Inputs.{IsInputOf}
use Rattle.net_rules.specs.Signals.{Signals}
use Rattle.net_rules.specs.Settings.{own_level}
use Rattle.net_rules.specs.History.{Levels, settings_of, element_past, moment_at, heard, line_moment_at, input_level, failed_by, taken_at, level_at, is_way_back, sent_level, Obeys}
use Rattle.net_rules.specs.Settled.{IsSettled, IsSteady}
use Rattle.net_rules.specs.Safety.{taken_in}
use Rattle.net_rules.specs.Walks.{TraceEnd, at_source, at_clock, at_loop, IsTraceAfter}
use Rattle.net_rules.proofs.Backs.{back-receiver}
use Rattle.net_rules.proofs.FinalLaws.{traced-here}
use Rattle.net_rules.proofs.NetLaws.{IsTakenAt, taken-is, not-taken, sent-on, many-inputs, failed-at, level-at, IsSelected, selected-taken}
use Rattle.net_rules.proofs.PairLaws.{speaks-said}
use Rattle.net_rules.proofs.PassingOn.{sent-own, goes-back-from}
use Rattle.net_rules.proofs.PlanLaws.{sender-within, receiver-within}
use Rattle.net_rules.proofs.SettledLaws.{settled-heard, settled-follows, rising-loop_free}
use Rattle.reach_rules.specs.Ways.{IsReached}
use Rattle.reach_rules.specs.Reaching.{says_at, switches_in, IsNotBelow, MayComeIn, Reaches, IsNoWorse, IsAtRest, IsRestingOn, IsBestReaching, AreUnforced, AreOwnWorse}
use Rattle.reach_rules.proofs.BestChoice.{selected-no-worse}

-- an element of an input is one of the plan
pub input-within : (plan : Topology) (element : ℕ) (input : InputId) → IsWellFormed plan → IsInputOf plan element input → element < length plan.elements
input-within plan element (Line line) well of =
    subst (λ e. e < length plan.elements) of.of_element (receiver-within plan well line.0 of.has)
input-within plan element (Source source) well of = elim (slice_get_cases plan.sources source).1 [
  | inl there ↦ subst (λ e. e < length plan.elements) (sym (at there.0 there.2) ∙ of.of_element) (well.sources_fit source there.0 there.2).at_is_element
  | inr past ↦ absurd (omega (arith, past.0, of.has))
]
  where
    at : (s : _) → slice_get plan.sources source ≡ Some s → element_of_source plan source ≡ s.at
    at s is = rw is refl

-- the level of an element is better than do-not-use
pub own-above : (plan : Topology) (element : ℕ) → IsWellFormed plan → element < length plan.elements
    → IsBetter (settings_of plan element).own (do_not_use_of (settings_of plan element).own.option)
unfolding settings_of
own-above plan element well within = elim (slice_get_cases plan.elements element).1 [
  | inl there ↦
      let fits = (well.elements_fit element there.0 there.2).own_is_clock_level in
      rw there.2 (subst (λ option. IsBetter there.0.own (do_not_use_of option)) (sym fits.of_option) fits.above_do_not_use)
  | inr past ↦ absurd (omega (arith, within, past.0))
]

pub own-is : (plan : Topology) (element : ℕ) → (settings_of plan element).own ≡ own_level plan element
unfolding settings_of
own-is plan element = refl

pub level-above : (plan : Topology) (signals : Signals) (out : Levels) (element t : ℕ) → IsWellFormed plan → element < length plan.elements
    → IsBetter (level_at plan signals out element t) (do_not_use_of (level_at plan signals out element t).option)
level-above plan signals out element t well within = by (taken_at plan signals out element t) refl
  where
    by : (o : Option InputId) → taken_at plan signals out element t ≡ o
        → IsBetter (level_at plan signals out element t) (do_not_use_of (level_at plan signals out element t).option)
    by None is = subst (λ l. IsBetter l (do_not_use_of l.option)) (sym (not-taken plan signals out element t is)) (own-above plan element well within)
    by (Some input) is = (taken-is plan signals out element t input is).above_do_not_use

-- the input at the place that is selected is taken, so its level is the element's
pub taken-there : (plan : Topology) (signals : Signals) (out : Levels) (element t place : ℕ) (input : InputId)
    → selection_at (settings_of plan element) (element_past plan signals out element (suc t)) ≡ Some place
    → slice_get (inputs_of plan element) place ≡ Some input → taken_at plan signals out element t ≡ Some input
unfolding taken_at
taken-there plan signals out element t place input selected there = ap (option_and_then (slice_get (inputs_of plan element))) selected ∙ there

pub level-there : (plan : Topology) (signals : Signals) (out : Levels) (element t place : ℕ) (level : Level) → place < length (inputs_of plan element)
    → selection_at (settings_of plan element) (element_past plan signals out element (suc t)) ≡ Some place
    → level_now place (element_past plan signals out element (suc t)) ≡ Some level → level_at plan signals out element t ≡ level
level-there plan signals out element t place level within selected has = elim (slice_get_cases (inputs_of plan element) place).1 [
  | inl there ↦
      let taken = taken-is plan signals out element t there.0 (taken-there plan signals out element t place there.0 selected there.2) in
      same_Some _ _ (sym taken.has_level ∙ sym (level-at plan signals out element t place there.0 there.2) ∙ has)
  | inr past ↦ absurd (omega (arith, within, past.0))
]

-- an input that says something and isn't failed, with a level that may come in, is taken, or one that is no worse
module _ (plan : Topology) (signals : Signals) (out : Levels) (level : Level) (t element : ℕ) (input : InputId) where
  pub no-worse-in : (heard_level : Level) → MayComeIn plan signals out level t element input → IsNoWorse heard_level level
      → failed_by plan signals input t ≡ false → input_level signals (heard plan signals out) input t ≡ Some heard_level
      → IsBetter heard_level (do_not_use_of heard_level.option)
      → IsNoWorse (level_at plan signals out element t) level
  no-worse-in heard_level may no_worse good has above =
      let chosen = selected-no-worse (settings_of plan element) (moment_at plan signals (heard plan signals out) element t) (element_past plan signals out element t)
      may.place heard_level within may.unlocked may.unforced
      (failed-at plan signals out element t may.place input may.there may.of.of_element ∙ good)
      (level-at plan signals out element t may.place input may.there ∙ has) above
      (floor-no-worse (settings_of plan element).floor heard_level level no_worse may.not_below) in
      let is = level-there plan signals out element t chosen.place chosen.which (inside chosen.place chosen.selected) chosen.selected chosen.has in
      subst (λ l. IsNoWorse l level) (sym is) (omega (arith, chosen.no_worse, no_worse))
    where
      within : may.place < length (settings_of plan element).priorities
      within = elim (slice_get_cases (inputs_of plan element) may.place).1 [
        | inl there ↦ subst (λ n. may.place < n) (sym (many-inputs plan element)) there.1
        | inr past ↦ absurd (none-some input (sym past.1 ∙ may.there))
      ]

      inside : (place : ℕ) → selection_at (settings_of plan element) (element_past plan signals out element (suc t)) ≡ Some place
          → place < length (inputs_of plan element)
      inside place selected =
          subst (λ n. place < n) (many-inputs plan element)
          (subst (λ o. IfSome o (λ k. k < length (settings_of plan element).priorities)) selected
          (selection_at-within (settings_of plan element) (moment_at plan signals (heard plan signals out) element t) (element_past plan signals out element t)))

      floor-no-worse : (floor : Option Level) (one other : Level) → IsNoWorse one other → is_better floor (Some other) ≡ false → is_better floor (Some one) ≡ false
      floor-no-worse None one other less not_below = refl
      floor-no-worse (Some floor) one other less not_below = grind (arith, nat_tests)

-- what is at rest and up isn't failed
rest-good : (plan : Topology) (signals : Signals) (input : InputId) (t : ℕ) → IsSteady plan signals input t → signals.up input t ≡ true → failed_by plan signals input t ≡ false
rest-good plan signals input t steady up = steady ∙ ap not up

-- a line at rest that is heard with a level says it
heard-said : (plan : Topology) (signals : Signals) (out : Levels) (line t : ℕ) (level : Level) → IsAtRest plan signals out t (line_input line)
    → failed_by plan signals (line_input line) t ≡ false → heard plan signals out line t ≡ Some level → out line t ≡ level
heard-said plan signals out line t level rest good hears =
    by (signals.up (line_input line) t) (signals.esmc line t) refl (sym (rest.1 up) ∙ hears)
  where
    up-where : (up : Bool) → not up ≡ false → up ≡ true
    up-where true is = refl
    up-where false is = cc

    up : signals.up (line_input line) t ≡ true
    up = up-where (signals.up (line_input line) t) (sym rest.0 ∙ good)

    by : (up esmc : Bool) → signals.up (line_input line) t ≡ up → (if up && esmc then Some (out line t) else None) ≡ Some level → out line t ≡ level
    by true true is says = same_Some _ _ says
    by true false is says = cc
    by false esmc is says = cc

-- the law: one line more
one-more : (plan : Topology) (signals : Signals) (out : Levels) (level : Level) (t line element : ℕ) → IsWellFormed plan → Obeys plan signals out
    → MayComeIn plan signals out level t element (line_input line) → IsRestingOn plan signals out t element (line_input line)
    → IsNoWorse (level_at plan signals out (sender_of plan line) t) level → IsNoWorse (level_at plan signals out element t) level
one-more plan signals out level t line element well obeys may rests no_worse =
    by (is_way_back plan (taken_at plan signals out sender t) line) refl
  where
    sender : ℕ
    sender = sender_of plan line

    within : line < line_count plan
    within = may.of.has

    up : signals.up (line_input line) t ≡ true
    up = (and_parts (signals.up (line_input line) t) (signals.esmc line t) may.says).0

    by : (back : Bool) → is_way_back plan (taken_at plan signals out sender t) line ≡ back → IsNoWorse (level_at plan signals out element t) level
    by false not_back =
        let sent : out line t ≡ level_at plan signals out sender t = obeys line t within ∙ sent-own plan signals out line t not_back in
        let hears : heard plan signals out line t ≡ Some (level_at plan signals out sender t) =
        rests.0.1 up ∙ speaks-said signals out line t may.says ∙ ap Some sent in
        no-worse-in plan signals out level t element (line_input line) (level_at plan signals out sender t) may no_worse
        (rest-good plan signals (line_input line) t rests.0.0 up) hears (level-above plan signals out sender t well (sender-within plan well line within))
    by true back =
        let from = goes-back-from plan (taken_at plan signals out sender t) line back in
        let taken = taken-is plan signals out sender t (line_input from.before) from.is in
        let rest = rests.1 from.before taken.of.nominated from.back in
        let said : out from.before t ≡ level_at plan signals out sender t = heard-said plan signals out from.before t (level_at plan signals out sender t) rest taken.good taken.has_level in
        let sent : sent_level plan signals out from.before t ≡ level_at plan signals out sender t = sym (obeys from.before t taken.of.has) ∙ said in
        let on = sent-on plan signals out from.before t (subst (λ l. IsBetter l (do_not_use_of l.option)) (sym sent) taken.above_do_not_use) in
        let joins : element ≡ sender_of plan from.before =
        sym may.of.of_element ∙ back-receiver plan from.before line well taken.of.nominated may.of.nominated from.back in
        let same : level_at plan signals out element t ≡ level_at plan signals out sender t =
        ap (λ e. level_at plan signals out e t) joins ∙ sym on.level ∙ sent in
        subst (λ l. IsNoWorse l level) (sym same) no_worse

pub reach-here : (plan : Topology) (signals : Signals) (out : Levels) (t source : ℕ) (lines : List ℕ) (element : ℕ) → IsWellFormed plan → Obeys plan signals out
    → IsReached plan (IsRestingOn plan signals out t) source lines element → Reaches plan signals out t source lines element
    → IsNoWorse (level_at plan signals out element t) (signals.source_level source t)
reach-here plan signals out t source lines element well obeys rests reaches = go lines element rests reaches.way
  where
    level : Level
    level = signals.source_level source t

    go : (lines : List ℕ) (element : ℕ) → IsReached plan (IsRestingOn plan signals out t) source lines element
        → IsReached plan (MayComeIn plan signals out level t) source lines element → IsNoWorse (level_at plan signals out element t) level
    go [] element rests may =
        no-worse-in plan signals out level t element (Source source) level may (omega arith) (rest-good plan signals (Source source) t rests may.says) refl reaches.above
    go (line ∷ before) element rests may =
        one-more plan signals out level t line element well obeys may.0 rests.0 (go before (sender_of plan line) rests.1 may.1)

-- in a settled millisecond each nominated input is at rest
settled-line : (plan : Topology) (signals : Signals) (out : Levels) (line t : ℕ) → IsSettled plan signals out t → IsNominated plan line
    → IsAtRest plan signals out t (line_input line)
settled-line plan signals out line t settled nominated = (
  settled.steady (line_input line) (IsNominated-within plan line nominated) nominated,
  λ up. by (signals.esmc line t) refl up,
)
  where
    by : (esmc : Bool) → signals.esmc line t ≡ esmc → signals.up (line_input line) t ≡ true
        → heard plan signals out line t ≡ said_in (line_moment_at signals out line t)
    by true on up = settled-heard plan signals out line t settled nominated (rw (up, on) refl) ∙ rw (up, on) refl
    by false off up = settled.silent line nominated up off ∙ rw (up, off) refl

settled-input : (plan : Topology) (signals : Signals) (out : Levels) (t element : ℕ) (input : InputId) → IsSettled plan signals out t → IsInputOf plan element input
    → IsRestingOn plan signals out t element input
settled-input plan signals out t element (Line line) settled of =
    (settled-line plan signals out line.0 t settled of.nominated, λ taken nominated back. settled-line plan signals out taken t settled nominated)
settled-input plan signals out t element (Source source) settled of = settled.steady (Source source) of.has of.nominated

-- what holds of each input on a way
pub ways-map : (plan : Topology) (P Q : ℕ → InputId → Type 0) → ((element : ℕ) (input : InputId) → P element input → Q element input)
    → (source : ℕ) (lines : List ℕ) (element : ℕ) → IsReached plan P source lines element → IsReached plan Q source lines element
ways-map plan P Q f source [] element way = f element (Source source) way
ways-map plan P Q f source (line ∷ before) element way =
    (f element (line_input line) way.0, ways-map plan P Q f source before (sender_of plan line) way.1)

pub reach-settled : (plan : Topology) (signals : Signals) (out : Levels) (t source : ℕ) (lines : List ℕ) (element : ℕ) → IsWellFormed plan → Obeys plan signals out
    → IsSettled plan signals out t → Reaches plan signals out t source lines element
    → IsNoWorse (level_at plan signals out element t) (signals.source_level source t)
reach-settled plan signals out t source lines element well obeys settled reaches =
    reach-here plan signals out t source lines element well obeys
    (ways-map plan (MayComeIn plan signals out (signals.source_level source t) t) (IsRestingOn plan signals out t)
    (λ e input may. settled-input plan signals out t e input settled may.of) source lines element reaches.way) reaches

-- where the own clock is worse, something is taken
pub reach-taken : (plan : Topology) (signals : Signals) (out : Levels) (t source : ℕ) (lines : List ℕ) (element : ℕ) → IsWellFormed plan → Obeys plan signals out
    → IsSettled plan signals out t → Reaches plan signals out t source lines element → IsBetter (signals.source_level source t) (own_level plan element)
    → IsSome (taken_at plan signals out element t)
reach-taken plan signals out t source lines element well obeys settled reaches worse = by (taken_at plan signals out element t) refl
  where
    by : (o : Option InputId) → taken_at plan signals out element t ≡ o → IsSome o
    by (Some input) is = refl
    by None is =
        let level : level_at plan signals out element t ≡ own_level plan element = not-taken plan signals out element t is ∙ own-is plan element in
        let no_worse = reach-settled plan signals out t source lines element well obeys settled reaches in
        absurd (omega (arith, worse, no_worse, ap place_of level))

-- where no switch is forced, what is taken in a settled millisecond comes in
taken-in : (plan : Topology) (signals : Signals) (out : Levels) (t element : ℕ) (input : InputId) → Obeys plan signals out → IsSettled plan signals out t
    → (switches_in plan signals out element t).forced ≡ None → taken_at plan signals out element t ≡ Some input
    → MayComeIn plan signals out (level_at plan signals out element t) t element input
taken-in plan signals out t element input obeys settled unforced takes =
    let taken = taken-is plan signals out element t input takes in
    let selected = selected-taken plan signals out element t input takes in
    let may = may-be selected in
    let level : level_at plan signals out element t ≡ may.level =
    same_Some _ _ (sym taken.has_level ∙ sym (level-at plan signals out element t selected.place input selected.there) ∙ may.level_is) in
    record {
      of = taken.of;
      says = says input taken;
      place = selected.place;
      there = selected.there;
      unlocked = may.not_locked;
      unforced = unforced;
      not_below = subst (λ l. IsNotBelow plan element l) (sym level) may.not_below;
    }
  where
    up-where : (up : Bool) → not up ≡ false → up ≡ true
    up-where true is = refl
    up-where false is = cc

    speaks-where : (up esmc : Bool) → up ≡ true → (esmc ≡ false → ⊥) → (up && esmc) ≡ true
    speaks-where true true is on = refl
    speaks-where true false is on = absurd (on refl)
    speaks-where false esmc is on = cc

    may-be : (selected : IsSelected plan signals out element t input)
        → MayBeTaken (settings_of plan element) (element_past plan signals out element (suc t)) selected.place
    may-be selected =
        subst (λ o. IfSome o (MayBeTaken (settings_of plan element) (element_past plan signals out element (suc t)))) selected.selected
        (taken_may_be_taken (settings_of plan element) (moment_at plan signals (heard plan signals out) element t) (element_past plan signals out element t))

    up : (input : InputId) → IsTakenAt plan signals out element t input → signals.up input t ≡ true
    up input taken = up-where (signals.up input t) (sym (settled.steady input taken.of.has taken.of.nominated) ∙ taken.good)

    says : (input : InputId) → IsTakenAt plan signals out element t input → says_at signals input t ≡ true
    says (Source source) taken = up (Source source) taken
    says (Line line) taken = speaks-where (signals.up (line_input line.0) t) (signals.esmc line.0 t) (up (line_input line.0) taken)
        (λ off. none-some (level_at plan signals out element t) (sym (settled.silent line.0 taken.of.nominated (up (line_input line.0) taken) off) ∙ taken.has_level))

-- a trace to a source is a way on which its level comes
trace-way : (plan : Topology) (signals : Signals) (out : Levels) (t source : ℕ) → IsWellFormed plan → Obeys plan signals out → IsSettled plan signals out t
    → AreUnforced plan signals out t → (level : Level) (passed : List ℕ) (lines : List ℕ) (element : ℕ) → element < length plan.elements
    → level_at plan signals out element t ≡ level → IsTraceAfter plan (taken_in plan signals out t) passed element lines (at_source source)
    → IsReached plan (MayComeIn plan signals out level t) source lines element
trace-way plan signals out t source well obeys settled unforced level passed [] element within is trace =
    subst (λ l. MayComeIn plan signals out l t element (Source source)) is
    (taken-in plan signals out t element (Source source) obeys settled (unforced element within) trace.1)
trace-way plan signals out t source well obeys settled unforced level passed (line ∷ before) element within is trace =
    let taken = taken-is plan signals out element t (line_input line) trace.1 in
    let takes : taken_at plan signals out (receiver_of plan line) t ≡ Some (line_input line) = ap (λ e. taken_at plan signals out e t) taken.of.of_element ∙ trace.1 in
    let follows = settled-follows plan signals out line t obeys settled takes in
    let level_before : level_at plan signals out (sender_of plan line) t ≡ level =
    sym follows.level ∙ ap (λ e. level_at plan signals out e t) taken.of.of_element ∙ is in (
      subst (λ l. MayComeIn plan signals out l t element (line_input line)) is
          (taken-in plan signals out t element (line_input line) obeys settled (unforced element within) trace.1),
      trace-way plan signals out t source well obeys settled unforced level (element ∷ passed) before (sender_of plan line)
          (sender-within plan well line taken.of.has) level_before trace.2,
    )

-- a trace that ends at an own clock ends at an element of the plan
trace-clock : (plan : Topology) (signals : Signals) (out : Levels) (t clock : ℕ) → IsWellFormed plan → (passed : List ℕ) (lines : List ℕ) (element : ℕ) → element < length plan.elements
    → IsTraceAfter plan (taken_in plan signals out t) passed element lines (at_clock clock) → clock < length plan.elements
trace-clock plan signals out t clock well passed [] element within trace = subst (λ e. e < length plan.elements) (sym trace.2) within
trace-clock plan signals out t clock well passed (line ∷ before) element within trace =
    trace-clock plan signals out t clock well (element ∷ passed) before (sender_of plan line)
    (sender-within plan well line (taken-is plan signals out element t (line_input line) trace.1).of.has) trace.2

pub reached-within : (plan : Topology) (signals : Signals) (out : Levels) (level : Level) (t source : ℕ) (lines : List ℕ) (element : ℕ) → IsWellFormed plan
    → IsReached plan (MayComeIn plan signals out level t) source lines element → element < length plan.elements
reached-within plan signals out level t source [] element well way = input-within plan element (Source source) well way.of
reached-within plan signals out level t source (line ∷ before) element well way = input-within plan element (line_input line) well way.0.of

-- where ranks rise, the level is the best of those that reach the element
pub reach-best : (plan : Topology) (signals : Signals) (out : Levels) (rank : ℕ → ℕ) (t source : ℕ) (lines : List ℕ) (element : ℕ) → IsWellFormed plan
    → Obeys plan signals out → IsRising plan rank → IsSettled plan signals out t → AreUnforced plan signals out t
    → AreOwnWorse plan (signals.source_level source t) → Reaches plan signals out t source lines element
    → IsBestReaching plan signals out t element (level_at plan signals out element t)
reach-best plan signals out rank t source lines element well obeys rising settled unforced worse reaches =
    of trace.0 trace.1 trace.2
  where
    within : element < length plan.elements
    within = reached-within plan signals out (signals.source_level source t) t source lines element well reaches.way

    no_worse : IsNoWorse (level_at plan signals out element t) (signals.source_level source t)
    no_worse = reach-settled plan signals out t source lines element well obeys settled reaches

    trace : (lines : List ℕ) × (end : TraceEnd) × IsTraceAfter plan (taken_in plan signals out t) [] element lines end
    trace = traced-here plan signals out element t well within

    above : IsBetter (level_at plan signals out element t) (do_not_use_of (level_at plan signals out element t).option)
    above = level-above plan signals out element t well within

    of : (lines : List ℕ) (end : TraceEnd) → IsTraceAfter plan (taken_in plan signals out t) [] element lines end
        → IsBestReaching plan signals out t element (level_at plan signals out element t)
    of lines (at_loop again) trace = absurd ((rising-loop_free plan signals out rank well obeys rising t).traced settled element lines (at_loop again) trace)
    of lines (at_clock clock) trace =
        let level : level_at plan signals out element t ≡ own_level plan clock =
        (rising-loop_free plan signals out rank well obeys rising t).traced settled element lines (at_clock clock) trace in
        absurd (omega (arith, no_worse, ap place_of level, worse clock (trace-clock plan signals out t clock well [] lines element within trace)))
    of lines (at_source from) trace =
        let level : level_at plan signals out element t ≡ signals.source_level from t =
        (rising-loop_free plan signals out rank well obeys rising t).traced settled element lines (at_source from) trace in
        record {
          source = from;
          lines = lines;
          reaches = record {
            above = subst (λ l. IsBetter l (do_not_use_of l.option)) level above;
            way = trace-way plan signals out t from well obeys settled unforced (signals.source_level from t) [] lines element within level trace;
          };
          level_is = level;
          best = λ other others reaches. reach-settled plan signals out t other others element well obeys settled reaches;
        }
