-- A plan that is protected and agrees survives each failure: who is in reach is timed, and who is gone is timed too or takes nothing.
use Rattle.std.proofs.Common.{◌≡◌, ◌≤◌, ◌<◌, ◌+◌, ◌⊎◌, ℕ, suc, Bool, true, false, ◌&&◌, List, [], ◌∷◌, length, Option, None, Some, IsSome, refl, ap, sym, subst, ◌∙◌, inl, inr, arith}
use Rattle.std.specs.Prelude.{if◌then◌else◌, IsNone, nat_eq}
use Rattle.std.specs.Option.{option_map_or}
use Rattle.std.proofs.lemmas.Bool.{true≢false, eqb-true}
use Rattle.std.proofs.lemmas.Option.{none-some, slice_get_cases}
use Rattle.sync_text.specs.Each.{Each}
use Rattle.sync_ql.specs.declared.levels.Level.{Level}
use Rattle.sync_ql.specs.Level.{place_of, do_not_use_of, IsBetter}
use Rattle.sync_topo.specs.declared.link.Link.{Link}
use Rattle.sync_topo.specs.declared.event.Event.{Event}
use Rattle.sync_topo.specs.declared.input.InputId.{InputId}
use Rattle.sync_topo.specs.declared.input.InputId.TheVariants.{Line, Source}
use Rattle.sync_topo.specs.Topology.{Topology}
use Rattle.sync_topo.specs.WellFormed.{IsWellFormed}
use Rattle.sync_topo.specs.Lines.{line_input, sender_of, receiver_of, ends_at_b, inputs_of, IsNominated}
use Rattle.sync_topo.proofs.LineLaws.{IsNominated-within}
use Rattle.net_rules.specs.Inputs.{IsInputOf}
use Rattle.net_rules.specs.Signals.{Signals, up_at, esmc_at, planned_level, signals_by}
use Rattle.net_rules.specs.History.{Levels, settings_of, heard, input_level, taken_at, level_at, out_at, Obeys}
use Rattle.net_rules.specs.Settings.{own_level}
use Rattle.net_rules.specs.Settled.{IsSettled}
use Rattle.net_rules.specs.Staying.{IsQuietAfter}
use Rattle.net_rules.proofs.BoundLaws.{runs-out}
use Rattle.net_rules.proofs.EventLaws.{quiet-after}
use Rattle.net_rules.proofs.FinalLaws.{obeys-well}
use Rattle.net_rules.proofs.HistoryLaws.{IsDelayed}
use Rattle.net_rules.proofs.InputLaws.{inputs-are, each-input}
use Rattle.net_rules.proofs.NetLaws.{taken-is, not-taken}
use Rattle.net_rules.proofs.PlanLaws.{HasLink, line-link, sender-within, IsDelayed-well}
use Rattle.net_rules.proofs.LosingLaws.{losing-by_events}
use Rattle.net_rules.proofs.RunOutLaws.{RunsOut}
use Rattle.net_rules.proofs.WaitLaws.{up-from, speaks-from, good-up}
use Rattle.reach_rules.specs.declared.failure.Failure.{Failure}
use Rattle.reach_rules.specs.declared.failure.Failure.TheVariants as fails
use Rattle.reach_rules.specs.declared.group.Group.{Group}
use Rattle.reach_rules.specs.Ways.{IsReached}
use Rattle.reach_rules.specs.Reaching.{says_at, MayComeIn, IsNoWorse, AreOwnWorse}
use Rattle.reach_rules.specs.Protection.{is_input_gone, is_element_gone, IsServing, IsServed, IsInReach, IsProtectedFrom, IsProtected, IsProtectedWith, AreWithoutCommands}
use Rattle.reach_rules.specs.Agreement.{IsAgreedBound, AreAuto, IsTimed, IsSteadyAt}
use Rattle.reach_rules.specs.Survival.{AreOfFailure, IsClockSource, AreClocksBetter, IsIdle, AreOthersInReach, AreGoneApart, IsSurvivedFrom, SurvivesOne, Survives, SurvivesWith}
use Rattle.reach_rules.proofs.AgreedLaws.{Rests, agreed-rests, start, starts-in-time, no-worse, takes-some, steady-next, steady-from-bound, settled-where, best-where}
use Rattle.reach_rules.specs.Failing.{is_planned, IsFailureBound, SurvivesSoon, SurvivesEachSoon, SurvivesSoonWith}
use Rattle.reach_rules.proofs.FailingLaws.{failed-rests, planned-told}
use Rattle.reach_rules.proofs.FailureLaws.{kept-up, esmc-on, level-planned, no-command, no-levels}
use Rattle.reach_rules.proofs.ProtectionLaws.{no-commands, always-off, free-without, stands-among, way-source, floor-lets}
use Rattle.reach_rules.proofs.ReachLaws.{input-within, ways-map}

-- without commands no element is ever under a forced or a manual switch
pub auto-without : (plan : Topology) (events : List Event) (out : Levels) (t : ℕ) → AreWithoutCommands events → AreAuto plan (signals_by plan events) out t
auto-without plan events out t without element within =
    let off = always-off plan (signals_by plan events) out element (no-commands plan events without element) (suc t) in
    record { unforced = off.unforced; unswitched = off.unswitched }

-- an element none of whose inputs says anything takes nothing once each time has run out
module _ (plan : Topology) (signals : Signals) (out : Levels) (last wait delay : ℕ) (by : RunsOut plan signals out last wait delay)
    (delayed : IsDelayed plan) (obeys : Obeys plan signals out) (element : ℕ) (idle : IsIdle plan signals last element) where
  says-nothing : (input : InputId) (t : ℕ) → last ≤ t → says_at signals input last ≡ false → says_at signals input t ≡ false
  says-nothing (Line line) t after none = speaks-from plan signals out last wait delay by delayed obeys line.0 t after ∙ none
  says-nothing (Source source) t after none = up-from plan signals out last wait delay by delayed obeys (Source source) t after ∙ none

  -- since it isn't heard
  unheard : (input : InputId) (t : ℕ) (level : Level) → IsInputOf plan element input → last + wait ≤ t → says_at signals input t ≡ false → signals.up input t ≡ true
      → input_level signals (heard plan signals out) input t ≡ Some level → ⊥
  unheard (Source source) t level is after none up has = true≢false (sym up ∙ none)
  unheard (Line line) t level is after none up has =
      none-some level (sym (by.silent line.0 is.nominated t after up (off (signals.up (line_input line.0) t) (signals.esmc line.0 t) up none)) ∙ has)
    where
      off : (one esmc : Bool) → one ≡ true → (one && esmc) ≡ false → esmc ≡ false
      off true esmc here is = is
      off false esmc here is = cc

  pub idle-takes : (t : ℕ) → last + wait ≤ t → taken_at plan signals out element t ≡ None
  idle-takes t after = of (taken_at plan signals out element t) refl
    where
      of : (o : Option InputId) → taken_at plan signals out element t ≡ o → taken_at plan signals out element t ≡ None
      of None is = is
      of (Some input) is =
          let taken = taken-is plan signals out element t input is in
          let up : signals.up input t ≡ true =
          good-up plan signals out last wait delay by delayed obeys input t taken.of.has taken.of.nominated after taken.good in
          absurd (unheard input t (level_at plan signals out element t) taken.of after (says-nothing input t (omega (arith, after)) (idle input taken.of)) up taken.has_level)

  pub idle-steady : (t : ℕ) → last + wait ≤ t → IsSteadyAt plan signals out t (suc t) element
  idle-steady t after =
      let now = idle-takes t after in
      let next = idle-takes (suc t) (omega (arith, after)) in
      record {
        taken = next ∙ sym now;
        level = not-taken plan signals out element (suc t) next ∙ sym (not-taken plan signals out element t now);
      }

-- a nominated input of an element that says something
pub record IsOpen (plan : Topology) (events : List Event) (t element : ℕ) (input : InputId) : Type 0 where
  pub of : IsInputOf plan element input
  pub says : says_at (signals_by plan events) input t ≡ true

-- one stands in a list, or none of the list says anything
abbrev HasOpen : Topology → List Event → ℕ → ℕ → List InputId → Type 0
HasOpen plan events t element inputs =
    ((input : InputId) × IsOpen plan events t element input) ⊎ Each (λ input. says_at (signals_by plan events) input t ≡ false) inputs

one-more-open : (plan : Topology) (events : List Event) (t element : ℕ) (input : InputId) (inputs : List InputId) (says : Bool) → IsInputOf plan element input
    → says_at (signals_by plan events) input t ≡ says → HasOpen plan events t element inputs → HasOpen plan events t element (input ∷ inputs)
one-more-open plan events t element input inputs true is says rest = inl (input, record { of = is; says = says })
one-more-open plan events t element input inputs false is none (inl found) = inl found
one-more-open plan events t element input inputs false is none (inr rest) = inr (none, rest)

has-open : (plan : Topology) (events : List Event) (t element : ℕ) (inputs : List InputId) → Each (IsInputOf plan element) inputs
    → HasOpen plan events t element inputs
has-open plan events t element [] each = inr tt
has-open plan events t element (input ∷ inputs) each =
    one-more-open plan events t element input inputs (says_at (signals_by plan events) input t) each.0 refl (has-open plan events t element inputs each.1)

-- so an element has one, or none of its inputs says anything
open-or-idle : (plan : Topology) (events : List Event) (t element : ℕ)
    → ((input : InputId) × IsOpen plan events t element input) ⊎ IsIdle plan (signals_by plan events) t element
open-or-idle plan events t element = elim (has-open plan events t element (inputs_of plan element) (inputs-are plan element)) [
  | inl found ↦ inl found
  | inr none ↦ inr (each-input (λ input. says_at (signals_by plan events) input t ≡ false) plan element none)
]

-- a line ends elsewhere than where it begins
ends-apart : (plan : Topology) (line : ℕ) → HasLink plan line → sender_of plan line ≡ receiver_of plan line → ⊥
ends-apart plan line has same =
    of (ends_at_b line)
    (sym (ap (λ o. option_map_or (λ (link : Link). if ends_at_b line then link.a else link.b) o 0) has.is)
    ∙ same
    ∙ ap (λ o. option_map_or (λ (link : Link). if ends_at_b line then link.b else link.a) o 0) has.is)
  where
    of : (b : Bool) → (if b then has.link.a else has.link.b) ≡ (if b then has.link.b else has.link.a) → ⊥
    of true joined = has.joins.apart joined
    of false joined = has.joins.apart (sym joined)

-- so a line into an element that is gone begins at one that isn't: there is one alone, or the line says nothing
apart-sender : (plan : Topology) (failure : Failure) (events : List Event) (t line : ℕ) → IsWellFormed plan → AreGoneApart plan failure (signals_by plan events) t
    → IsNominated plan line → says_at (signals_by plan events) (line_input line) t ≡ true → is_element_gone failure (receiver_of plan line) ≡ true
    → is_element_gone failure (sender_of plan line) ≡ false
apart-sender plan (fails.Group group) events t line well apart nominated says gone = apart line nominated says gone
apart-sender plan (fails.Element element) events t line well apart nominated says gone = by (nat_eq (sender_of plan line) element) refl
  where
    by : (b : Bool) → nat_eq (sender_of plan line) element ≡ b → nat_eq (sender_of plan line) element ≡ false
    by false kept = kept
    by true too =
        absurd (ends-apart plan line (line-link plan line well (IsNominated-within plan line nominated))
        (eqb-true (sender_of plan line) element too ∙ sym (eqb-true (receiver_of plan line) element gone)))
apart-sender plan fails.Nothing events t line well apart nominated says gone = cc
apart-sender plan (fails.Link link) events t line well apart nominated says gone = cc
apart-sender plan (fails.Bundle link) events t line well apart nominated says gone = cc
apart-sender plan (fails.Source source) events t line well apart nominated says gone = cc

-- elements that are apart by the end are so after the last event
apart-earlier : (plan : Topology) (failure : Failure) (signals : Signals) (t u : ℕ)
    → ((line : ℕ) → says_at signals (line_input line) u ≡ says_at signals (line_input line) t) → AreGoneApart plan failure signals u
    → AreGoneApart plan failure signals t
apart-earlier plan (fails.Group group) signals t u same apart = λ line nominated says gone. apart line nominated (same line ∙ says) gone
apart-earlier plan fails.Nothing signals t u same apart = tt
apart-earlier plan (fails.Link link) signals t u same apart = tt
apart-earlier plan (fails.Bundle link) signals t u same apart = tt
apart-earlier plan (fails.Source source) signals t u same apart = tt
apart-earlier plan (fails.Element element) signals t u same apart = tt

-- a level that is better than every own clock is better than do-not-use, since own clocks are
clock-above : (plan : Topology) (source element : ℕ) → IsWellFormed plan → IsInputOf plan element (Source source) → AreOwnWorse plan (planned_level plan source)
    → IsBetter (planned_level plan source) (do_not_use_of (planned_level plan source).option)
clock-above plan source element well of worse =
    subst (λ o. IsBetter (planned_level plan source) (do_not_use_of o)) (sym option) (omega (arith, worse element within, own_above))
  where
    within : element < length plan.elements
    within = input-within plan element (Source source) well of

    own_above : place_of (own_level plan element) < place_of (do_not_use_of plan.option)
    own_above = elim (slice_get_cases plan.elements element).1 [
      | inl there ↦ rw there.2 ((well.elements_fit element there.0 there.2).own_is_clock_level.above_do_not_use)
      | inr past ↦ absurd (omega (arith, within, past.0))
    ]

    option : (planned_level plan source).option ≡ plan.option
    option = elim (slice_get_cases plan.sources source).1 [
      | inl there ↦ rw there.2 (well.sources_fit source there.0 there.2).of_option
      | inr past ↦ absurd (omega (arith, of.has, past.0))
    ]

module _ (plan : Topology) (failure : Failure) (events : List Event) (worst : Level) (well : IsWellFormed plan) (of_failure : AreOfFailure plan failure events)
    (better : AreClocksBetter plan worst) (out : Levels) (last : ℕ) where
  abbrev signals : Signals
  signals = signals_by plan events

  serving-open : (element : ℕ) (input : InputId) → IsServing plan failure element input → IsOpen plan events last element input
  serving-open element input serves = record { of = serves.of; says = kept-says input serves.kept }
    where
      both : (a b : Bool) → a ≡ true → b ≡ true → (a && b) ≡ true
      both true b here there = there
      both false b here there = here

      kept-says : (input : InputId) → is_input_gone plan failure input ≡ false → says_at (signals_by plan events) input last ≡ true
      kept-says (Line line) kept =
          both (up_at events (line_input line.0) last) (esmc_at events line.0 last) (kept-up plan failure events of_failure (line_input line.0) last kept)
          (esmc-on plan failure events of_failure line.0 last kept)
      kept-says (Source source) kept = kept-up plan failure events of_failure (Source source) last kept

  level-is : (source : ℕ) → signals.source_level source last ≡ planned_level plan source
  level-is source = level-planned plan failure events of_failure source last

  -- a level no worse than the worst comes in where an input says something
  comes : (level : Level) → IsNoWorse level worst → (element : ℕ) (input : InputId) → IsOpen plan events last element input
      → MayComeIn plan signals out level last element input
  comes level no_worse element input is_open =
      let stands = stands-among plan element input is_open.of in
      let free = free-without plan events out (no-command plan failure events of_failure) last element in
      record {
        of = is_open.of;
        says = is_open.says;
        place = stands.0;
        there = stands.1;
        unlocked = free.unlocked stands.0;
        unforced = free.unforced;
        not_below = floor-lets (settings_of plan element).floor level worst no_worse (better.floors element (input-within plan element input well is_open.of));
      }

  -- so over a way of such inputs an element is timed
  timed-by : (source : ℕ) (lines : List ℕ) (element : ℕ) → IsReached plan (IsOpen plan events last) source lines element → IsTimed plan signals out last element
  timed-by source lines element way =
      let from = way-source plan (IsOpen plan events last) source lines element way in
      let clock : IsClockSource plan source = from.1.of.nominated in
      let is = level-is source in
      record {
        source = source;
        lines = lines;
        reaches = record {
          above = subst (λ l. IsBetter l (do_not_use_of l.option)) (sym is) (clock-above plan source from.0 well from.1.of (better.own_worse source clock));
          way = ways-map plan (IsOpen plan events last) (MayComeIn plan signals out (signals.source_level source last) last)
              (comes (signals.source_level source last) (subst (λ l. IsNoWorse l worst) (sym is) (better.least source clock))) source lines element way;
        };
        worse = subst (λ l. AreOwnWorse plan l) (sym is) (better.own_worse source clock);
      }

  pub served-timed : (element : ℕ) → IsServed plan failure element → IsTimed plan signals out last element
  served-timed element (source, lines, way) =
      timed-by source lines element (ways-map plan (IsServing plan failure) (IsOpen plan events last) serving-open source lines element way)

  -- the source of a timed element is no worse than the worst
  pub timed-worst : (element : ℕ) (timed : IsTimed plan signals out last element) → IsNoWorse (signals.source_level timed.source last) worst
  timed-worst element timed =
      let from =
      way-source plan (MayComeIn plan signals out (signals.source_level timed.source last) last) timed.source timed.lines element timed.reaches.way in
      subst (λ l. IsNoWorse l worst) (sym (level-is timed.source)) (better.least timed.source from.1.of.nominated)

  -- where all others are in reach, and those that are gone apart, each of these is timed over an input that still says something, or idle
  module _ (others : AreOthersInReach plan failure) (apart : AreGoneApart plan failure (signals_by plan events) last) (protected : IsProtectedFrom plan failure) where
    gone-timed : (element : ℕ) (input : InputId) → is_element_gone failure element ≡ true → IsOpen plan events last element input
        → IsTimed plan signals out last element
    gone-timed element (Source source) gone is_open = timed-by source [] element is_open
    gone-timed element (Line line) gone is_open =
        let kept = apart-sender plan failure events last line.0 well apart is_open.of.nominated is_open.says (ap (is_element_gone failure) is_open.of.of_element ∙ gone) in
        let served = protected (sender_of plan line.0) (others (sender_of plan line.0) (sender-within plan well line.0 is_open.of.has) kept) in
        timed-by served.0 (line.0 ∷ served.1) element
        (is_open, ways-map plan (IsServing plan failure) (IsOpen plan events last) serving-open served.0 served.1 (sender_of plan line.0) served.2)

    pub timed-or-idle : (element : ℕ) → element < length plan.elements
        → IsTimed plan signals out last element ⊎ IsIdle plan signals last element
    timed-or-idle element within = by (is_element_gone failure element) refl
      where
        by : (gone : Bool) → is_element_gone failure element ≡ gone → IsTimed plan signals out last element ⊎ IsIdle plan signals last element
        by false kept = inl (served-timed element (protected element (others element within kept)))
        by true gone = elim (open-or-idle plan events last element) [
          | inl found ↦ inl (gone-timed element found.0 gone found.1)
          | inr idle ↦ inr idle
        ]

-- the law, by whatever bound
module _ (plan : Topology) (bound : ℕ) (well : IsWellFormed plan) (failure : Failure) (protected : IsProtectedFrom plan failure) (worst : Level)
    (better : AreClocksBetter plan worst) (events : List Event) (of_failure : AreOfFailure plan failure events) (last : ℕ)
    (rests : Rests plan (signals_by plan events) (out_at plan (signals_by plan events)) last bound) where
  abbrev told : Signals
  told = signals_by plan events

  abbrev out : Levels
  out = out_at plan (signals_by plan events)

  obeys : Obeys plan told out
  obeys = obeys-well plan (signals_by plan events) well

  auto : AreAuto plan told out last
  auto = auto-without plan events out last (no-command plan failure events of_failure)

  timed : (element : ℕ) → IsInReach plan failure element → IsTimed plan told out last element
  timed element reach = served-timed plan failure events worst well of_failure better out last element (protected element reach)

  begun : (t : ℕ) → last + bound ≤ t → start plan told out last bound rests well obeys auto ≤ t
  begun t after = omega (arith, after, starts-in-time plan told out last bound rests well obeys auto)

  takes : (element t : ℕ) → IsInReach plan failure element → last + bound ≤ t → IsSome (taken_at plan told out element t)
  takes element t reach after =
      let some = takes-some plan told out last bound rests well obeys auto element (timed element reach) t (begun t after) in
      subst (λ o. IsSome o) (sym some.1) refl

  no-worse-here : (element t : ℕ) → IsInReach plan failure element → last + bound ≤ t → IsNoWorse (level_at plan told out element t) worst
  no-worse-here element t reach after =
      let here = timed element reach in
      omega (
        arith,
        no-worse plan told out last bound rests well obeys auto element here t (begun t after),
        timed-worst plan failure events worst well of_failure better out last element here,
      )

  settles : AreOthersInReach plan failure → AreGoneApart plan failure told (last + bound) → (t : ℕ) → last + bound ≤ t → IsSettled plan told out t
  settles others apart = settled-where plan told out last bound rests well obeys auto steady
    where
      apart_before : AreGoneApart plan failure told last
      apart_before =
          apart-earlier plan failure told last (last + bound)
          (λ line. speaks-from plan told out last rests.wait rests.delay rests.by.runs_out (IsDelayed-well plan well) obeys line (last + bound) (omega arith)) apart

      steady : (element : ℕ) → element < length plan.elements → (t : ℕ) → start plan told out last bound rests well obeys auto ≤ t
          → IsSteadyAt plan told out t (suc t) element
      steady element within t after = elim (timed-or-idle plan failure events worst well of_failure better out last others apart_before protected element within) [
        | inl here ↦ steady-next plan told out last bound rests well obeys auto element here t after
        | inr idle ↦
            idle-steady plan told out last rests.wait rests.delay rests.by.runs_out (IsDelayed-well plan well) obeys element idle t
            (omega (arith, after))
      ]

  pub survived-from : IsSurvivedFrom plan failure events worst (last + bound)
  survived-from = record {
    takes = takes;
    steady = λ element t reach after. steady-from-bound plan told out last bound rests well obeys auto element (timed element reach) t after;
    no_worse = no-worse-here;
    settled = settles;
    best = λ others apart element t reach after.
        best-where plan told out last bound rests well obeys auto t element after (settles others apart t after) (timed element reach);
  }

pub survives-one : (plan : Topology) (bound : ℕ) (failure : Failure) → IsWellFormed plan → IsAgreedBound plan bound → IsProtectedFrom plan failure
    → SurvivesOne plan bound failure
survives-one plan bound failure well is protected worst better events fits of_failure last none =
    survived-from plan bound well failure protected worst better events of_failure last
    (agreed-rests plan (signals_by plan events) (out_at plan (signals_by plan events)) last bound is (quiet-after plan events last none))

pub survives-each : (plan : Topology) (bound : ℕ) → IsWellFormed plan → IsAgreedBound plan bound → IsProtected plan → Survives plan bound
survives-each plan bound well is protected failure of = survives-one plan bound failure well is (protected failure of)

pub survives-with : (plan : Topology) (bound : ℕ) (groups : List Group) → IsWellFormed plan → IsAgreedBound plan bound → IsProtectedWith plan groups
    → SurvivesWith plan bound groups
survives-with plan bound groups well is protected failure of = survives-one plan bound failure well is (protected failure of)

-- by the bound an element none of whose inputs says anything takes nothing
pub idle-from-bound : (plan : Topology) (signals : Signals) (out : Levels) (last bound element t : ℕ) → IsWellFormed plan → Obeys plan signals out
    → IsAgreedBound plan bound → IsQuietAfter signals last → IsIdle plan signals last element → last + bound ≤ t → IsNone (taken_at plan signals out element t)
idle-from-bound plan signals out last bound element t well obeys is quiet idle after =
    subst (λ o. IsNone o)
    (sym (idle-takes plan signals out last is.wait is.delay (runs-out plan signals out last is.wait is.delay is.greatest_delay is.greatest_wait quiet)
    (IsDelayed-well plan well) obeys element idle t (omega (arith, after, is.is))))
    refl

-- so soon after the parts of a failure went down out of a settled millisecond
pub survives-soon : (plan : Topology) (bound : ℕ) (failure : Failure) → IsWellFormed plan → IsFailureBound (is_planned plan) plan bound → IsProtectedFrom plan failure
    → SurvivesSoon plan bound failure
survives-soon plan bound failure well is protected worst better events fits of_failure settled last losses =
    survived-from plan bound well failure protected worst better events of_failure last
    (failed-rests (is_planned plan) plan (signals_by plan events) (out_at plan (signals_by plan events)) settled last bound well (obeys-well plan (signals_by plan events) well) is
    (losing-by_events plan events settled last losses)
    (planned-told plan events settled (no-levels plan failure events of_failure)))

pub survives-each_soon : (plan : Topology) (bound : ℕ) → IsWellFormed plan → IsFailureBound (is_planned plan) plan bound → IsProtected plan → SurvivesEachSoon plan bound
survives-each_soon plan bound well is protected failure of = survives-soon plan bound failure well is (protected failure of)

pub survives-soon_with : (plan : Topology) (bound : ℕ) (groups : List Group) → IsWellFormed plan → IsFailureBound (is_planned plan) plan bound
    → IsProtectedWith plan groups → SurvivesSoonWith plan bound groups
survives-soon_with plan bound groups well is protected failure of = survives-soon plan bound failure well is (protected failure of)
