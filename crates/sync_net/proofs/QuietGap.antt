-- What a network stands for while no event comes and nothing is due.
use Rattle.std.proofs.Common.{◌≡◌, ◌≢◌, ◌≤◌, ◌<◌, ◌⊎◌, inl, inr, ℕ, zero, suc, true, false, List, [], ◌∷◌, slice_index_or, Option, None, Some, IfSome, refl, ap, sym, subst, ◌∙◌, arith}
use Rattle.std.specs.Prelude.{nat_eq, unwrap_or, if◌then◌else◌, IsSome}
use Rattle.std.proofs.Math.Decide.{dec_lt}
use Rattle.std.proofs.lemmas.Bool.{true≢false}
use Rattle.std.proofs.lemmas.Bool.Decides.{eqb_tells}
use Rattle.sync_ql.proofs.Staying.{earlier_too}
use Rattle.sync_text.proofs.Each.{Each-map}
use Rattle.sync_text.specs.Each.{Each}
use Rattle.sync_ql.proofs.SameMoments.{line_moment}
use Rattle.sync_ql.specs.Switches.{unswitched}
use Rattle.sync_element.specs.ElementState.{ElementState}
use Rattle.link_model.specs.LineState.{LineState}
use Rattle.sync_topo.specs.declared.input.InputId.TheVariants.{Source}
use Rattle.sync_topo.specs.declared.event.What.{What}
use Rattle.sync_topo.specs.declared.event.Event.{Event}
use Rattle.sync_topo.specs.Topology.{Topology}
use Rattle.sync_topo.specs.Lines.{line_count, line_input, sender_of, IsNominated}
use Rattle.sync_topo.specs.WellFormed.{IsWellFormed}
use Rattle.sync_topo.proofs.LineLaws.{IsNominated-within}
use Rattle.net_rules.specs.Signals.{Signals, signals_by, events_at, says_up, says_esmc, says_level, esmc_at, planned_level}
use Rattle.net_rules.specs.History.{Levels, settings_of, line_moment_at, heard, out_at}
use Rattle.net_rules.proofs.EventLaws.{same-before, up-same}
use Rattle.net_rules.proofs.PlanLaws.{IsDelayed-well, sender-within}
use Rattle.net_rules.proofs.FinalLaws.{obeys-well}
use Rattle.sync_net.specs.Kept.{Kept}
use Rattle.sync_net.specs.NetState.{NetState, line_in, NoneDueBefore}
use Rattle.sync_net.specs.Sound.{IsSoundLine, AreSound}
use Rattle.sync_net.specs.Standing.{LineStands, heard_before, AreSignals, IsOfPast, NoneFrom}
use Rattle.sync_net.proofs.QuietObjects.{HasNoNews, element-quiet, element-sends, line-quiet, line-heard}
use Rattle.sync_net.proofs.NoNews.{IsHeardSame, source-stays, no-news}

-- an element, to ask for one by place in a list that has it
abbrev pub some_element : Topology → ElementState
some_element plan = record {
  settings = settings_of plan 0;
  next = 0;
  due = None;
  later_steps = 0;
  kept = record {
    inputs = record { watched = []; dues = []; candidates = [] };
    switches = unswitched 0;
    selection = None;
    was_locked = false;
  };
}

-- a list that begins isn't empty
no_cons : {A : Type 0} (x : A) (xs : List A) → x ∷ xs ≡ [] → ⊥
no_cons x xs same = cc

-- where no event stands at a millisecond, each event is at another
pub none-there : (events : List Event) (t : ℕ) → events_at t events ≡ [] → Each (λ event. event.at ≢ t) events
none-there [] t none = tt
none-there (event ∷ events) t none = by (eqb_tells event.at t) none (none-there events t)
  where
    by : ((nat_eq event.at t ≡ true) × (event.at ≡ t)) ⊎ ((nat_eq event.at t ≡ false) × (event.at ≢ t))
        → (if nat_eq event.at t then event ∷ events_at t events else events_at t events) ≡ []
        → (events_at t events ≡ [] → Each (λ e. e.at ≢ t) events)
        → Each (λ e. e.at ≢ t) (event ∷ events)
    by tells none rest = elim tells [
      | inl here ↦ absurd (no_cons event (events_at t events) (rw (here.0) at none))
      | inr other ↦ (other.1, rest (rw (other.0) at none))
    ]

-- and none speaks of anything there
pub none-speaks : {A : Type 0} (says : What → Option A) (events : List Event) (t : ℕ) → events_at t events ≡ []
    → Each (λ event. (event.at ≢ t) ⊎ (says event.what ≡ None)) events
none-speaks says events t none =
    Each-map (λ event. event.at ≢ t) (λ event. (event.at ≢ t) ⊎ (says event.what ≡ None)) (λ event other. inl other) events (none-there events t none)

-- what is kept of lines and sources is right a millisecond later
signals-stay : (plan : Topology) (kept : Kept) (events : List Event) (t : ℕ) → events_at (suc t) events ≡ []
    → AreSignals plan kept events (suc t) → AreSignals plan kept events (suc (suc t))
signals-stay plan kept events t none is = record {
  line_up = λ line nominated. is.line_up line nominated
      ∙ ap (λ o. unwrap_or o true) (sym (same-before (says_up (line_input line)) events (suc t) (none-speaks (says_up (line_input line)) events (suc t) none)));
  line_esmc = λ line nominated. is.line_esmc line nominated
      ∙ ap (λ o. unwrap_or o true) (sym (same-before (says_esmc line) events (suc t) (none-speaks (says_esmc line) events (suc t) none)));
  source_up = λ source nominated. is.source_up source nominated
      ∙ ap (λ o. unwrap_or o true) (sym (same-before (says_up (Source source)) events (suc t) (none-speaks (says_up (Source source)) events (suc t) none)));
  source_said = λ source nominated. is.source_said source nominated
      ∙ ap (λ o. unwrap_or o (planned_level plan source)) (sym (same-before (says_level source) events (suc t) (none-speaks (says_level source) events (suc t) none)));
  source_level = λ source nominated. is.source_level source nominated
      ∙ sym (source-stays plan events source t (none-speaks (says_up (Source source)) events (suc t) none) (none-speaks (says_level source) events (suc t) none));
}

-- its ESMC stays on or off
esmc-stays : (events : List Event) (line t : ℕ) → events_at (suc t) events ≡ [] → esmc_at events line (suc t) ≡ esmc_at events line t
unfolding esmc_at
esmc-stays events line t none = ap (λ o. unwrap_or o true) (same-before (says_esmc line) events (suc t) (none-speaks (says_esmc line) events (suc t) none))

-- so a line is as before in a millisecond without events, if its sender sends the same
moment-stays : (plan : Topology) (events : List Event) (out : Levels) (line t : ℕ) → events_at (suc t) events ≡ [] → out line (suc t) ≡ out line t
    → line_moment_at (signals_by plan events) out line (suc t) ≡ line_moment_at (signals_by plan events) out line t
moment-stays plan events out line t none same =
    line_moment _ _ _ _ _ _ (up-same events (line_input line) t (none-speaks (says_up (line_input line)) events (suc t) none)) (esmc-stays events line t none) same

-- the level that is heard in a millisecond is that after it
pub heard-then : (plan : Topology) (signals : Signals) (out : Levels) (line t : ℕ) → heard plan signals out line t ≡ heard_before plan signals out line (suc t)
unfolding heard
heard-then plan signals out line t = refl

-- one millisecond without an event, before anything is due
module _ (net : NetState) (events : List Event) (t : ℕ) (well : IsWellFormed net.plan) (sound : AreSound net) (is : IsOfPast net events (suc t))
    (none : events_at (suc t) events ≡ []) (due : NoneDueBefore net (suc (suc t))) where
  -- the same is heard on each nominated line
  heard-stays : (line : ℕ) → IsNominated net.plan line
      → heard_before net.plan (signals_by net.plan events) (out_at net.plan (signals_by net.plan events)) line (suc (suc t))
      ≡ heard_before net.plan (signals_by net.plan events) (out_at net.plan (signals_by net.plan events)) line (suc t)
  heard-stays line nominated =
      of (line_in net.lines line) (sound.lines line within) (is.lines line within) (due.lines line within) (sound.every line nominated)
    where
      within : line < line_count net.plan
      within = IsNominated-within net.plan line nominated

      of : (state : Option LineState) → IfSome state (IsSoundLine net.plan line)
          → IfSome state (LineStands net.plan (signals_by net.plan events) (out_at net.plan (signals_by net.plan events)) line (suc t))
          → IfSome state (λ state. IfSome state.due (λ due. suc (suc t) ≤ due)) → IsSome state
          → heard_before net.plan (signals_by net.plan events) (out_at net.plan (signals_by net.plan events)) line (suc (suc t))
          ≡ heard_before net.plan (signals_by net.plan events) (out_at net.plan (signals_by net.plan events)) line (suc t)
      of None good stands later has = absurd (true≢false (sym has))
      of (Some state) good stands later has =
          line-heard net.plan (signals_by net.plan events) (out_at net.plan (signals_by net.plan events)) line t state good stands later
          (IsDelayed-well net.plan well line nominated)
          (up-same events (line_input line) t (none-speaks (says_up (line_input line)) events (suc t) none))

  -- so what comes to an element is as before
  heard-same : (element : ℕ) → IsHeardSame net.plan (signals_by net.plan events) (out_at net.plan (signals_by net.plan events)) element t
  heard-same element line nominated of =
      heard-then net.plan (signals_by net.plan events) (out_at net.plan (signals_by net.plan events)) line (suc t)
      ∙ heard-stays line nominated
      ∙ sym (heard-then net.plan (signals_by net.plan events) (out_at net.plan (signals_by net.plan events)) line t)

  -- nothing is told of an element
  quiet-element : (element : ℕ) → HasNoNews net.plan (signals_by net.plan events) (out_at net.plan (signals_by net.plan events)) element t
  quiet-element element = no-news net.plan events (out_at net.plan (signals_by net.plan events)) element t none (heard-same element)

  -- each line is sent what it was sent
  out-stays : (line : ℕ) → line < line_count net.plan
      → out_at net.plan (signals_by net.plan events) line (suc t) ≡ out_at net.plan (signals_by net.plan events) line t
  out-stays line within =
      let inside = sender-within net.plan well line within in
      element-sends net.plan (signals_by net.plan events) (out_at net.plan (signals_by net.plan events)) (sender_of net.plan line) t line
      (slice_index_or net.elements (sender_of net.plan line) (some_element net.plan))
      (sound.elements (sender_of net.plan line) (some_element net.plan) inside)
      (is.elements (sender_of net.plan line) (some_element net.plan) inside)
      (quiet-element (sender_of net.plan line))
      (due.elements (sender_of net.plan line) (some_element net.plan) inside)
      refl within (obeys-well net.plan (signals_by net.plan events) well)

  -- and each line stands a millisecond later
  line-stays : (line : ℕ) → line < line_count net.plan
      → IfSome (line_in net.lines line) (LineStands net.plan (signals_by net.plan events) (out_at net.plan (signals_by net.plan events)) line (suc (suc t)))
  line-stays line within = of (line_in net.lines line) (is.lines line within) (due.lines line within)
    where
      of : (state : Option LineState)
          → IfSome state (LineStands net.plan (signals_by net.plan events) (out_at net.plan (signals_by net.plan events)) line (suc t))
          → IfSome state (λ state. IfSome state.due (λ due. suc (suc t) ≤ due))
          → IfSome state (LineStands net.plan (signals_by net.plan events) (out_at net.plan (signals_by net.plan events)) line (suc (suc t)))
      of None stands later = tt
      of (Some state) stands later =
          line-quiet net.plan (signals_by net.plan events) (out_at net.plan (signals_by net.plan events)) line t state stands
          (moment-stays net.plan events (out_at net.plan (signals_by net.plan events)) line t none (out-stays line within)) later

  -- so the network stands a millisecond later
  pub stands-quiet : IsOfPast net events (suc (suc t))
  stands-quiet = record {
    first = λ never. absurd (let begun = is.first never in omega (arith, begun));
    later = (let later = is.later in omega (arith, later));
    elements = λ element other within.
        element-quiet net.plan (signals_by net.plan events) (out_at net.plan (signals_by net.plan events)) element t (slice_index_or net.elements element other)
        (is.elements element other within) (quiet-element element) (due.elements element other within);
    lines = line-stays;
    signals = signals-stay net.plan net.kept events t none is.signals;
    heards = λ line nominated. is.heards line nominated ∙ sym (heard-stays line nominated);
  }

-- what isn't due before a millisecond isn't before an earlier one
pub none_due-earlier : (net : NetState) (m n : ℕ) → m ≤ n → NoneDueBefore net n → NoneDueBefore net m
none_due-earlier net m n early none = record {
  elements = λ element other within. earlier_too (slice_index_or net.elements element other).due m n early (none.elements element other within);
  lines = λ line within. of (line_in net.lines line) (none.lines line within);
}
  where
    of : (state : Option LineState) → IfSome state (λ state. IfSome state.due (λ due. n ≤ due)) → IfSome state (λ state. IfSome state.due (λ due. m ≤ due))
    of None later = tt
    of (Some state) later = earlier_too state.due m n early later

-- the last millisecond of a gap
last-quiet : (net : NetState) (events : List Event) (n : ℕ) → 0 < n → IsWellFormed net.plan → AreSound net → IsOfPast net events n
    → events_at n events ≡ [] → NoneDueBefore net (suc n) → IsOfPast net events (suc n)
last-quiet net events zero some well sound is none due = absurd (omega (arith, some))
last-quiet net events (suc t) some well sound is none due = stands-quiet net events t well sound is none due

-- and over a whole gap
pub stands-later : (net : NetState) (events : List Event) (m n : ℕ) → IsWellFormed net.plan → AreSound net → IsOfPast net events m
    → m ≤ n → (net.next ≡ 0 → n ≡ 0) → NoneFrom m n events → NoneDueBefore net n → IsOfPast net events n
stands-later net events m zero well sound is early begun none due =
    let same : m ≡ 0 = omega (arith, early) in subst (IsOfPast net events) same is
stands-later net events m (suc n) well sound is early begun none due =
    by (dec_lt n m) (λ still.
    stands-later net events m n well sound is still (λ never. absurd (let at = begun never in omega (arith, at)))
    (λ t after before. none t after (omega (arith, before))) (none_due-earlier net n (suc n) (omega arith) due))
  where
    some : m ≤ n → 0 < n
    some still = by_next net.next begun is.later
      where
        by_next : (next : ℕ) → (next ≡ 0 → suc n ≡ 0) → next ≤ m → 0 < n
        by_next zero begun later = absurd (let at = begun refl in omega (arith, at))
        by_next (suc next) begun later = omega (arith, later, still)

    by : Dec (n < m) → (m ≤ n → IsOfPast net events n) → IsOfPast net events (suc n)
    by (yes here) rest = let same : m ≡ suc n = omega (arith, here, early) in subst (IsOfPast net events) same is
    by (no over) rest =
        let still : m ≤ n = omega (arith, over) in
        last-quiet net events n (some still) well sound (rest still) (none n still (omega arith)) due
