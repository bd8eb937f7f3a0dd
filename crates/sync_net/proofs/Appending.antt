-- A network stands for later events too, and for events in another order that touch each element
-- alike.
use Rattle.std.proofs.Common.{◌≡◌, ◌≤◌, ◌<◌, ◌+◌, ◌*◌, ◌/◌, ◌⊎◌, inl, inr, ℕ, zero, suc, Bool, true, false, ◌||◌, List, [], ◌∷◌, ◌++◌, filter, length, slice_index_or, Option, None, Some, IfSome, refl, ap, sym, subst, ◌∙◌, arith}
use Rattle.std.specs.Prelude.{nat_eq, nat_lt, unwrap_or, if◌then◌else◌}
use Rattle.std.specs.List.{All}
use Rattle.std.specs.Option.{option_or}
use Rattle.std.proofs.lemmas.Bool.{true≢false, le-ltb, eqb-true, eq-eqb, or_left, or_right}
use Rattle.std.proofs.lemmas.Bool.Decides.{eqb_tells}
use Rattle.std.proofs.lemmas.List.{append-nil}
use Rattle.std.proofs.lemmas.List.Elements.{filter-append}
use Rattle.std.proofs.lemmas.Option.{slice_get_cases}
use Rattle.sync_ql.proofs.SameMoments.{line_moment}
use Rattle.sync_text.proofs.Each.{Each-map, each-all, filter-none}
use Rattle.sync_ql.specs.Pasts.{past_of}
use Rattle.sync_ql.specs.Messages.{heard_at, line_until}
use Rattle.sync_ql.specs.Told.{moments_until}
use Rattle.sync_element.specs.ElementState.{ElementState}
use Rattle.sync_element.specs.StandsFor as Element
use Rattle.link_model.specs.LineState.{LineState}
use Rattle.link_model.specs.StandsFor as Line
use Rattle.sync_topo.specs.declared.input.InputId.TheVariants.{Source}
use Rattle.sync_topo.specs.declared.event.Part.{Part}
use Rattle.sync_topo.specs.declared.event.Part.TheVariants as part
use Rattle.sync_topo.specs.declared.event.What.{What}
use Rattle.sync_topo.specs.declared.event.What.TheVariants.{Down, Up, EsmcOff, EsmcOn, SourceLevel, Lockout, Unlock, Forced, Manual, Clear, ClearWtr}
use Rattle.sync_topo.specs.declared.event.Event.{Event}
use Rattle.sync_topo.specs.Topology.{Topology}
use Rattle.sync_topo.specs.Lines.{line_count, line_input, receiver_of, delay_of, element_of_source}
use Rattle.sync_topo.specs.WellFormed.{IsWellFormed}
use Rattle.sync_topo.proofs.LineLaws.{IsNominated-within}
use Rattle.net_rules.specs.Signals.{Signals, signals_by, events_before, last_word, says_up, says_esmc, says_level, is_of_part, up_at, esmc_at, source_level_before, source_level_at, planned_level}
use Rattle.net_rules.specs.Inputs.{IsInputOf}
use Rattle.net_rules.specs.History.{Levels, settings_of, line_moment_at, element_past, out_at}
use Rattle.net_rules.specs.Activity.{is_part_at, touches, TouchAlike}
use Rattle.net_rules.proofs.Lists.{past-same}
use Rattle.net_rules.proofs.TouchLaws.{up-silent, esmc-silent, level-silent}
use Rattle.net_rules.proofs.HistoryLaws.{until_same}
use Rattle.net_rules.proofs.PlanLaws.{IsDelayed-well, sender-within, receiver-within}
use Rattle.net_rules.proofs.OrderLaws.{later-same, touch-same}
use Rattle.net_rules.proofs.FinalLaws.{later-pasts, order-pasts}
use Rattle.sync_net.specs.NetState.{NetState, line_in}
use Rattle.sync_net.specs.Standing.{ElementStands, LineStands, IsNominatedSource, IsOfPast}
use Rattle.net_words.specs.Before.{up_before, esmc_before, said_before}

-- two lists of events say the same of elements, lines and sources before a millisecond
record IsSameBefore (plan : Topology) (events others : List Event) (n : ℕ) : Type 0 where
  elements : (element k : ℕ) → element < length plan.elements → k ≤ n
      → element_past plan (signals_by plan others) (out_at plan (signals_by plan others)) element k
      ≡ element_past plan (signals_by plan events) (out_at plan (signals_by plan events)) element k
  lines : (line s : ℕ) → line < line_count plan → s < n
      → line_moment_at (signals_by plan others) (out_at plan (signals_by plan others)) line s
      ≡ line_moment_at (signals_by plan events) (out_at plan (signals_by plan events)) line s
  line_up : (line : ℕ) → line < line_count plan → up_before others (line_input line) n ≡ up_before events (line_input line) n
  line_esmc : (line : ℕ) → line < line_count plan → esmc_before others line n ≡ esmc_before events line n
  source_up : (source : ℕ) → IsNominatedSource plan source → up_before others (Source source) n ≡ up_before events (Source source) n
  source_said : (source : ℕ) → IsNominatedSource plan source → said_before plan others source n ≡ said_before plan events source n
  source_level : (source : ℕ) → IsNominatedSource plan source → source_level_before plan others source n ≡ source_level_before plan events source n

-- an element that stands for one history stands for another that is the same so far
element-moved : (plan : Topology) (signals : Signals) (out : Levels) (others : Signals) (out_then : Levels) (place n : ℕ) (element : ElementState)
    → ((k : ℕ) → k ≤ n → element_past plan others out_then place k ≡ element_past plan signals out place k)
    → ElementStands plan signals out place n element → ElementStands plan others out_then place n element
element-moved plan signals out others out_then place n element same is =
    let last = same element.next is.in_time.later in
    record {
      settings = is.settings;
      in_time = is.in_time;
      stands = subst (Element.StandsFor element) (sym last) is.stands;
      quiet = same n (omega arith) ∙ is.quiet ∙ ap (moments_until (settings_of plan place) n) (sym last);
    }

-- and so a line
line-moved : (plan : Topology) (signals : Signals) (out : Levels) (others : Signals) (out_then : Levels) (line n : ℕ) (state : LineState)
    → ((k : ℕ) → k ≤ n → past_of (line_moment_at others out_then line) k ≡ past_of (line_moment_at signals out line) k)
    → LineStands plan signals out line n state → LineStands plan others out_then line n state
line-moved plan signals out others out_then line n state same is =
    let last = same is.called is.later in
    record {
      delay = is.delay;
      in_turn = is.in_turn;
      until_due = is.until_due;
      called = is.called;
      later = is.later;
      first = is.first;
      stands = subst (Line.StandsFor state) (sym last) is.stands;
      unchanged = same n (omega arith) ∙ is.unchanged ∙ ap (line_until n) (sym last);
    }

-- a line's past is the same
line-past : (plan : Topology) (events others : List Event) (n : ℕ) → IsSameBefore plan events others n → (line k : ℕ) → line < line_count plan → k ≤ n
    → past_of (line_moment_at (signals_by plan others) (out_at plan (signals_by plan others)) line) k
    ≡ past_of (line_moment_at (signals_by plan events) (out_at plan (signals_by plan events)) line) k
line-past plan events others n same line k within early =
    past-same (line_moment_at (signals_by plan others) (out_at plan (signals_by plan others)) line)
    (line_moment_at (signals_by plan events) (out_at plan (signals_by plan events)) line) k
    (λ s before. same.lines line s within (omega (arith, before, early)))

-- so a network stands for them too
stands-moved : (net : NetState) (events others : List Event) (n : ℕ) → IsSameBefore net.plan events others n
    → IsOfPast net events n → IsOfPast net others n
stands-moved net events others n same is = record {
  first = is.first;
  later = is.later;
  elements = λ element other within.
      element-moved net.plan (signals_by net.plan events) (out_at net.plan (signals_by net.plan events)) (signals_by net.plan others) (out_at net.plan (signals_by net.plan others))
      element n (slice_index_or net.elements element other) (λ k early. same.elements element k within early) (is.elements element other within);
  lines = λ line within. of line within (line_in net.lines line) (is.lines line within);
  signals = record {
    line_up = λ line nominated. is.signals.line_up line nominated ∙ sym (same.line_up line (IsNominated-within net.plan line nominated));
    line_esmc = λ line nominated. is.signals.line_esmc line nominated ∙ sym (same.line_esmc line (IsNominated-within net.plan line nominated));
    source_up = λ source nominated. is.signals.source_up source nominated ∙ sym (same.source_up source nominated);
    source_said = λ source nominated. is.signals.source_said source nominated ∙ sym (same.source_said source nominated);
    source_level = λ source nominated. is.signals.source_level source nominated ∙ sym (same.source_level source nominated);
  };
  heards = λ line nominated. is.heards line nominated
      ∙ sym (ap (heard_at (delay_of net.plan line)) (line-past net.plan events others n same line n (IsNominated-within net.plan line nominated) (omega arith)));
}
  where
    of : (line : ℕ) → line < line_count net.plan → (state : Option LineState)
        → IfSome state (LineStands net.plan (signals_by net.plan events) (out_at net.plan (signals_by net.plan events)) line n)
        → IfSome state (LineStands net.plan (signals_by net.plan others) (out_at net.plan (signals_by net.plan others)) line n)
    of line within None stands = tt
    of line within (Some state) stands =
        line-moved net.plan (signals_by net.plan events) (out_at net.plan (signals_by net.plan events)) (signals_by net.plan others) (out_at net.plan (signals_by net.plan others))
        line n state (λ k early. line-past net.plan events others n same line k within early) stands

-- up and ESMC in a millisecond, by the events before the next one
up-now : (events : List Event) (line t : ℕ) → up_at events (line_input line) t ≡ up_before events (line_input line) (suc t)
unfolding up_at
up-now events line t = refl

-- and whether its ESMC is on
esmc-now : (events : List Event) (line t : ℕ) → esmc_at events line t ≡ esmc_before events line (suc t)
unfolding esmc_at
esmc-now events line t = refl

-- a line's millisecond is the same where what is said of the line and sent on it is the same
line-moment : (plan : Topology) (events others : List Event) (line s : ℕ)
    → up_before others (line_input line) (suc s) ≡ up_before events (line_input line) (suc s)
    → esmc_before others line (suc s) ≡ esmc_before events line (suc s)
    → out_at plan (signals_by plan others) line s ≡ out_at plan (signals_by plan events) line s
    → line_moment_at (signals_by plan others) (out_at plan (signals_by plan others)) line s
    ≡ line_moment_at (signals_by plan events) (out_at plan (signals_by plan events)) line s
line-moment plan events others line s up esmc level =
    line_moment _ _ _ _ _ _
    (up-now others line s ∙ up ∙ sym (up-now events line s))
    (esmc-now others line s ∙ esmc ∙ sym (esmc-now events line s)) level

-- the level of a source before a later millisecond
level-now : (plan : Topology) (events : List Event) (source t : ℕ) → source_level_at plan events source t ≡ source_level_before plan events source (suc t)
unfolding source_level_at
level-now plan events source t = refl

-- later events aren't before a millisecond
before-appended : (events more : List Event) (n k : ℕ) → k ≤ n → All (λ event. n ≤ event.at) more → events_before k (events ++ more) ≡ events_before k events
before-appended events more n k early later =
    filter-append (λ event. nat_lt event.at k) events more
    ∙ ap (λ kept. events_before k events ++ kept) (filter-none (λ event. nat_lt event.at k) more
    (Each-map (λ event. n ≤ event.at) (λ event. nat_lt event.at k ≡ false) (λ event after. le-ltb event.at k (omega (arith, early, after))) more
    (each-all (λ event. n ≤ event.at) more later)))
    ∙ append-nil (events_before k events)

-- what isn't before the next millisecond is after this one
strictly : (more : List Event) (t : ℕ) → All (λ event. suc t ≤ event.at) more → All (λ event. t < event.at) more
strictly more t later k d within = let after = later k d within in omega (arith, after)

-- with later events an element's past is the same
later-past : (plan : Topology) (events more : List Event) (n element k : ℕ) → IsWellFormed plan → All (λ event. n ≤ event.at) more
    → element < length plan.elements → k ≤ n
    → element_past plan (signals_by plan (events ++ more)) (out_at plan (signals_by plan (events ++ more))) element k
    ≡ element_past plan (signals_by plan events) (out_at plan (signals_by plan events)) element k
later-past plan events more n element zero well later within early = refl
later-past plan events more zero element (suc k) well later within early = absurd (omega (arith, early))
later-past plan events more (suc t) element (suc k) well later within early =
    later-pasts plan events more t well (strictly more t later) element (suc k) within early

-- what is sent on a line is the same
later-out : (plan : Topology) (events more : List Event) (n line s : ℕ) → IsWellFormed plan → All (λ event. n ≤ event.at) more
    → line < line_count plan → s < n
    → out_at plan (signals_by plan (events ++ more)) line s ≡ out_at plan (signals_by plan events) line s
later-out plan events more zero line s well later within early = absurd (omega (arith, early))
later-out plan events more (suc t) line s well later within early =
    until_same plan (IsDelayed-well plan well) (sender-within plan well) (signals_by plan (events ++ more)) (signals_by plan events) t
    (later-same plan events more t (strictly more t later)) line s within (omega (arith, early))

-- and the level of a source is the same
later-level : (plan : Topology) (events more : List Event) (n source : ℕ) → All (λ event. n ≤ event.at) more → IsNominatedSource plan source
    → source_level_before plan (events ++ more) source n ≡ source_level_before plan events source n
later-level plan events more zero source later is = refl
later-level plan events more (suc t) source later is =
    sym (level-now plan (events ++ more) source t)
    ∙ (later-same plan events more t (strictly more t later)).source_level source t is.has is.nominated (omega arith)
    ∙ level-now plan events source t

-- so later events say nothing before a millisecond
later-before : (plan : Topology) (events more : List Event) (n : ℕ) → IsWellFormed plan → All (λ event. n ≤ event.at) more
    → IsSameBefore plan events (events ++ more) n
later-before plan events more n well later = record {
  elements = λ element k within early. later-past plan events more n element k well later within early;
  lines = λ line s within early.
      line-moment plan events (events ++ more) line s
      (ap (λ kept. unwrap_or (last_word (says_up (line_input line)) kept) true) (before-appended events more n (suc s) early later))
      (ap (λ kept. unwrap_or (last_word (says_esmc line) kept) true) (before-appended events more n (suc s) early later))
      (later-out plan events more n line s well later within early);
  line_up = λ line within. ap (λ kept. unwrap_or (last_word (says_up (line_input line)) kept) true) (before-appended events more n n (omega arith) later);
  line_esmc = λ line within. ap (λ kept. unwrap_or (last_word (says_esmc line) kept) true) (before-appended events more n n (omega arith) later);
  source_up = λ source is. ap (λ kept. unwrap_or (last_word (says_up (Source source)) kept) true) (before-appended events more n n (omega arith) later);
  source_said = λ source is. ap (λ kept. unwrap_or (last_word (says_level source) kept) (planned_level plan source)) (before-appended events more n n (omega arith) later);
  source_level = λ source is. later-level plan events more n source later is;
}

-- later events change nothing
pub stands-appended : (net : NetState) (events more : List Event) (n : ℕ) → IsWellFormed net.plan → All (λ event. n ≤ event.at) more
    → IsOfPast net events n → IsOfPast net (events ++ more) n
stands-appended net events more n well later is = stands-moved net events (events ++ more) n (later-before net.plan events more n well later) is

-- what doesn't touch an element may be left out
touched-word : {A : Type 0} (says : What → Option A) (touch test : Event → Bool) (events : List Event) → ((event : Event) → touch event ≡ false → says event.what ≡ None)
    → last_word says (filter test events) ≡ last_word says (filter test (filter touch events))
touched-word says touch test [] silent = refl
touched-word {A = A} says touch test (event ∷ events) silent = of (touch event) (test event) refl refl (touched-word says touch test events silent)
  where
    nothing : (o : Option A) → says event.what ≡ None → option_or o (says event.what) ≡ o
    nothing None none = none
    nothing (Some x) none = refl

    of : (touched passes : Bool) → touch event ≡ touched → test event ≡ passes → last_word says (filter test events) ≡ last_word says (filter test (filter touch events))
        → last_word says (if test event then event ∷ filter test events else filter test events) ≡ last_word says (filter test (if touched then event ∷ filter touch events else filter touch events))
    of true true is at rest = rw (at) (ap (λ o. option_or o (says event.what)) rest)
    of true false is at rest = rw (at) rest
    of false true is at rest = rw (at) (nothing (last_word says (filter test events)) (silent event is) ∙ rest)
    of false false is at rest = rw (at) rest

-- the events that touch an element
abbrev touching : Topology → ℕ → Event → Bool
touching plan element event = touches plan element event.what

-- so events that touch an element alike have the same last word on what only such events say
alike-word : {A : Type 0} (plan : Topology) (element n : ℕ) (says : What → Option A) (events others : List Event)
    → ((what : What) → touches plan element what ≡ false → says what ≡ None) → filter (touching plan element) events ≡ filter (touching plan element) others
    → last_word says (events_before n others) ≡ last_word says (events_before n events)
alike-word plan element n says events others silent same =
    touched-word says (touching plan element) (λ event. nat_lt event.at n) others (λ event none. silent event.what none)
    ∙ ap (λ kept. last_word says (events_before n kept)) (sym same)
    ∙ sym (touched-word says (touching plan element) (λ event. nat_lt event.at n) events (λ event none. silent event.what none))

-- a part that a line is of, nominated or not, is at its receiver
line-part : (plan : Topology) (line : ℕ) (part : Part) → is_of_part (line_input line) part ≡ true → is_part_at plan (receiver_of plan line) part ≡ true
line-part plan line (part.Link link) is = by (halves line link (eqb-true (line / 2) link is))
  where
    halves : (n k : ℕ) → n / 2 ≡ k → (n ≡ 2 * k) ⊎ (n ≡ 2 * k + 1)
    halves n k half = elim (eqb_tells n (2 * k)) [
      | inl even ↦ inl even.1
      | inr odd ↦ inr (omega (arith, half, odd.1))
    ]

    by : (line ≡ 2 * link) ⊎ (line ≡ 2 * link + 1) → (nat_eq (receiver_of plan (2 * link)) (receiver_of plan line) || nat_eq (receiver_of plan (2 * link + 1)) (receiver_of plan line)) ≡ true
    by which = elim which [
      | inl even ↦ or_left (nat_eq (receiver_of plan (2 * link)) (receiver_of plan line)) (nat_eq (receiver_of plan (2 * link + 1)) (receiver_of plan line))
          (eq-eqb (receiver_of plan (2 * link)) (receiver_of plan line) (ap (receiver_of plan) (sym even)))
      | inr odd ↦ or_right (nat_eq (receiver_of plan (2 * link)) (receiver_of plan line)) (nat_eq (receiver_of plan (2 * link + 1)) (receiver_of plan line))
          (eq-eqb (receiver_of plan (2 * link + 1)) (receiver_of plan line) (ap (receiver_of plan) (sym odd)))
    ]
line-part plan line (part.Line other) is = eq-eqb (receiver_of plan other.0) (receiver_of plan line) (ap (receiver_of plan) (sym (eqb-true line other.0 is)))
line-part plan line (part.Source source) is = cc

-- a word that is said only at an element isn't said elsewhere
if_none : (of at word : Bool) → (of ≡ true → at ≡ true) → at ≡ false → (if of then Some word else None) ≡ None
if_none false at word here none = refl
if_none true at word here none = absurd (true≢false (sym (here refl) ∙ none))

-- so what doesn't touch the receiver says nothing of whether the line is up
line-silent : (plan : Topology) (line : ℕ) (what : What) → touches plan (receiver_of plan line) what ≡ false → says_up (line_input line) what ≡ None
line-silent plan line (Down part) none = if_none (is_of_part (line_input line) part) (is_part_at plan (receiver_of plan line) part) false (line-part plan line part) none
line-silent plan line (Up part) none = if_none (is_of_part (line_input line) part) (is_part_at plan (receiver_of plan line) part) true (line-part plan line part) none
line-silent plan line (EsmcOff other) none = refl
line-silent plan line (EsmcOn other) none = refl
line-silent plan line (SourceLevel source level) none = refl
line-silent plan line (Lockout input) none = refl
line-silent plan line (Unlock input) none = refl
line-silent plan line (Forced input) none = refl
line-silent plan line (Manual input) none = refl
line-silent plan line (Clear element) none = refl
line-silent plan line (ClearWtr input) none = refl

-- a nominated source is at an element of the plan
source-within : (plan : Topology) (source : ℕ) → IsWellFormed plan → IsNominatedSource plan source → element_of_source plan source < length plan.elements
source-within plan source well is = elim (slice_get_cases plan.sources source).1 [
  | inl there ↦ rw (there.2) ((well.sources_fit source there.0 there.2).at_is_element)
  | inr past ↦ absurd (let has = is.has in omega (arith, has, past.0))
]

-- and an input of that element
source-own : (plan : Topology) (source : ℕ) → IsNominatedSource plan source → IsInputOf plan (element_of_source plan source) (Source source)
source-own plan source is = record { has = is.has; nominated = is.nominated; of_element = refl }

-- events that touch each element alike
module _ (plan : Topology) (events others : List Event) (well : IsWellFormed plan) (alike : TouchAlike plan events others) where
  -- a line is up alike
  order-up : (line n : ℕ) → line < line_count plan → up_before others (line_input line) n ≡ up_before events (line_input line) n
  order-up line n within =
      ap (λ o. unwrap_or o true) (alike-word plan (receiver_of plan line) n (says_up (line_input line)) events others (line-silent plan line)
      (alike (receiver_of plan line) (receiver-within plan well line within)))

  -- its ESMC is on alike
  order-esmc : (line n : ℕ) → line < line_count plan → esmc_before others line n ≡ esmc_before events line n
  order-esmc line n within =
      ap (λ o. unwrap_or o true) (alike-word plan (receiver_of plan line) n (says_esmc line) events others (esmc-silent plan line (receiver_of plan line) refl)
      (alike (receiver_of plan line) (receiver-within plan well line within)))

  -- the same is sent on it
  order-out : (line s : ℕ) → line < line_count plan → out_at plan (signals_by plan others) line s ≡ out_at plan (signals_by plan events) line s
  order-out line s within =
      sym (until_same plan (IsDelayed-well plan well) (sender-within plan well) (signals_by plan events) (signals_by plan others) s
      (touch-same plan events others s well alike) line s within (omega arith))

  -- a source has the same level
  order-level : (source n : ℕ) → IsNominatedSource plan source → source_level_before plan others source n ≡ source_level_before plan events source n
  order-level source zero is = refl
  order-level source (suc t) is =
      sym (level-now plan others source t)
      ∙ sym ((touch-same plan events others t well alike).source_level source t is.has is.nominated (omega arith))
      ∙ level-now plan events source t

  -- so they say the same before each millisecond
  order-before : (n : ℕ) → IsSameBefore plan events others n
  order-before n = record {
    elements = λ element k within early. sym (order-pasts plan events others well alike element k within);
    lines = λ line s within early. line-moment plan events others line s (order-up line (suc s) within) (order-esmc line (suc s) within) (order-out line s within);
    line_up = λ line within. order-up line n within;
    line_esmc = λ line within. order-esmc line n within;
    source_up = λ source is.
        ap (λ o. unwrap_or o true) (alike-word plan (element_of_source plan source) n (says_up (Source source)) events others
        (up-silent plan (Source source) (element_of_source plan source) (source-own plan source is))
        (alike (element_of_source plan source) (source-within plan source well is)));
    source_said = λ source is.
        ap (λ o. unwrap_or o (planned_level plan source)) (alike-word plan (element_of_source plan source) n (says_level source) events others
        (level-silent plan source (element_of_source plan source) (source-own plan source is))
        (alike (element_of_source plan source) (source-within plan source well is)));
    source_level = λ source is. order-level source n is;
  }

-- of all events only the order in which they touch each element counts
pub stands-ordered : (net : NetState) (events others : List Event) (n : ℕ) → IsWellFormed net.plan → TouchAlike net.plan events others
    → IsOfPast net events n → IsOfPast net others n
stands-ordered net events others n well alike is = stands-moved net events others n (order-before net.plan events others well alike n) is
