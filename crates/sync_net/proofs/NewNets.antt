-- A network that was told nothing.
use Rattle.std.proofs.Common.{◌≡◌, ◌≤◌, ◌<◌, ◌+◌, ◌/◌, ℕ, zero, suc, true, false, List, [], replicate, length, slice_get, slice_index_or, Option, None, Some, IfSome, IfOk, Result, Ok, Err, refl, ap, sym, subst, ◌∙◌, arith}
use Rattle.std.specs.Prelude.{nat_lt, if◌then◌else◌, option_and_then}
use Rattle.std.specs.Option.{option_map_or}
use Rattle.std.proofs.Math.Decide.{dec_lt}
use Rattle.std.proofs.lemmas.Bool.{true≢false}
use Rattle.std.proofs.lemmas.List.{length-replicate}
use Rattle.std.proofs.lemmas.Option.{slice_get_past}
use Rattle.net_rules.proofs.ElementLaws.{if_some}
use Rattle.sync_text.specs.declared.errors.NoMemory.{NoMemory}
use Rattle.sync_ql.specs.declared.levels.Level.{Level}
use Rattle.sync_ql.specs.Messages.{heard_at}
use Rattle.sync_ql.specs.Told.{IsOfOption}
use Rattle.agenda.specs.DueTimes.{due_in}
use Rattle.agenda.specs.Marked.{Marked}
use Rattle.sync_element.specs.ElementState.{ElementState}
use Rattle.sync_element.proofs.ElementSteps.{stands-new}
use Rattle.link_model.specs.LineState.{LineState}
use Rattle.sync_topo.specs.declared.link.Link.{Link}
use Rattle.sync_topo.specs.declared.event.Event.{Event}
use Rattle.sync_topo.specs.Topology.{Topology}
use Rattle.sync_topo.specs.Lines.{line_count, ends_at_b, IsNominated}
use Rattle.net_rules.specs.Signals.{Signals, signals_by}
use Rattle.net_rules.specs.History.{by_levels, Levels, settings_of, heard, moment_at, out_at}
use Rattle.sync_net.specs.declared.parts.NetParts.{NetParts}
use Rattle.sync_net.specs.declared.signals.LineSignal.{LineSignal}
use Rattle.sync_net.specs.declared.signals.SourceSignal.{SourceSignal}
use Rattle.sync_net.specs.Kept.{line_signal, no_source}
use Rattle.sync_net.specs.private.Noting.{line_at, source_at, AreOfOption}
use Rattle.sync_net.specs.private.Hearing.{heard_in, told_in}
use Rattle.sync_net.specs.Standing.{ElementStands, LineStands, AreSignals, AreHeard, IsOfPast}
use Rattle.sync_net.specs.Whole.{kept_of, state_of}
use Rattle.sync_net.specs.private.Whole.{IsReadyElement, IsReadyLine, IsWhole}
use Rattle.sync_net.specs.private.Beginning.{IsNewLine, IsNewSource, IsBegun}
use Rattle.net_words.specs.NewElements.{AreEach, IsNewElement}
use Rattle.net_words.proofs.SplitWords.{none-before-0}

-- a nominated line is a line of the plan
nominated-within : (plan : Topology) (line : ℕ) → IsNominated plan line → line < line_count plan
nominated-within plan line nominated = elim (dec_lt line (line_count plan)) [
  | yes within ↦ within
  | no beyond ↦
      let past : slice_get plan.links (line / 2) ≡ None = slice_get_past plan.links (line / 2) (omega (arith, beyond)) in
      absurd (true≢false (sym nominated ∙ ap (λ found. nat_lt 0 (option_map_or (λ (link : Link). if ends_at_b line then link.priority_b else link.priority_a) found 0)) past))
]

-- what stands at each place of a list of one thing, in range or not
same-everywhere : {A : Type 0} (n i : ℕ) (x : A) → slice_index_or (replicate n x) i x ≡ x
same-everywhere zero i x = refl
same-everywhere (suc n) zero x = refl
same-everywhere (suc n) (suc i) x = same-everywhere n i x

-- a new element stands between two steps
ready-element : (plan : Topology) (next place : ℕ) (element : ElementState) → next ≡ 0 → IsNewElement (by_levels plan) plan place element → IsReadyElement plan next place element
unfolding settings_of
ready-element plan next place element at_first new = record {
  sound = record { settings = new.settings; due = new.changes };
  first = λ _first. at_first;
  later = omega (arith, new.next);
  due_later = subst (λ o. IfSome o (λ due. next ≤ due)) (sym new.due) tt;
}

-- and so does a new line
ready-line : (plan : Topology) (next line : ℕ) (state : LineState) → IsNewLine plan line state → IsReadyLine plan next line state
ready-line plan next line state new = record {
  sound = record { nominated = new.nominated; delay = new.delay; due = new.changes };
  options = new.options;
  turn = omega (arith, new.turn);
  due_later = subst (λ o. IfSome o (λ due. next ≤ due)) (sym new.due) tt;
}

-- no line that is kept is due
no-line-due : (plan : Topology) (line : ℕ) (kept : Option LineState) → IfSome kept (IsNewLine plan line) → None ≡ option_and_then (λ (state : LineState). state.due) kept
no-line-due plan line None new = refl
no-line-due plan line (Some state) new = sym new.due

-- the levels of new sources are of the plan's option
sources-fit : (plan : Topology) (sources : List SourceSignal) → AreEach (IsNewSource plan) (length plan.sources) sources → AreOfOption plan.option sources
sources-fit plan sources are source within =
    let new : IsNewSource plan source (source_at sources source) = are.each source no_source (omega (arith, are.count, within)) in
    record { said = ap (λ (l : Level). l.option) new.said ∙ new.of_option; level = ap (λ (l : Level). l.option) new.level ∙ new.of_option }

-- a network that was told nothing is whole
pub begun-whole : (plan : Topology) (parts : NetParts) → IsBegun plan parts → IsWhole plan parts
begun-whole plan parts begun = record {
  well_formed = begun.well_formed;
  in_range = omega (arith, begun.next);
  steps = omega (arith, begun.later_steps);
  elements_count = begun.elements.count;
  lines_count = begun.lines.count;
  signals_count = ap length begun.signals ∙ length-replicate (line_count plan) _;
  sources_count = begun.sources.count;
  heards_count = ap length begun.heards ∙ length-replicate (line_count plan) None;
  dues_count = ap length begun.dues ∙ length-replicate (length plan.elements + line_count plan) None;
  changes_count = ap length begun.changes ∙ length-replicate (length plan.elements) [];
  active_count = ap (λ (m : Marked). length m.flags) begun.active ∙ length-replicate (length plan.elements) false;
  called_count = ap (λ m. length m.flags) begun.called ∙ length-replicate (line_count plan) false;
  elements = λ element other within. ready-element plan parts.next element _ begun.next (begun.elements.each element other within);
  lines = λ line within.
      if_some (IsNewLine plan line) (IsReadyLine plan parts.next line) _ (λ state new. ready-line plan parts.next line state new) (begun.lines.each line None within).is_new;
  every = λ line nominated. (begun.lines.each line None (nominated-within plan line nominated)).every nominated;
  element_dues = λ element other within.
      ap (λ dues. due_in dues element) begun.dues ∙ same-everywhere (length plan.elements + line_count plan) element None ∙ sym (begun.elements.each element other within).due;
  line_dues = λ line within.
      ap (λ dues. due_in dues (length plan.elements + line)) begun.dues ∙ same-everywhere (length plan.elements + line_count plan) (length plan.elements + line) None
      ∙ no-line-due plan line _ (begun.lines.each line None within).is_new;
  levels = λ line. subst (IsOfOption plan.option) (sym (ap (λ heards. heard_in heards line) begun.heards ∙ same-everywhere (line_count plan) line None)) tt;
  source_levels = sources-fit plan parts.sources.items begun.sources;
  told_nothing = λ element. ap (λ changes. told_in changes element) begun.changes ∙ same-everywhere (length plan.elements) element [];
}

-- a new element follows its past of no milliseconds
element-begins : (plan : Topology) (signals : Signals) (out : Levels) (place : ℕ) (element : ElementState) → IsNewElement (by_levels plan) plan place element → ElementStands plan signals out place 0 element
unfolding settings_of
element-begins plan signals out place element new =
    stands-new (settings_of plan place) (moment_at plan signals (heard plan signals out) place) element new.settings new.next new.due new.stands

-- and so does a new line
line-begins : (plan : Topology) (signals : Signals) (out : Levels) (line : ℕ) (state : LineState) → IsNewLine plan line state → LineStands plan signals out line 0 state
line-begins plan signals out line state new = record {
  delay = new.delay;
  in_turn = omega (arith, new.turn);
  until_due = subst (λ o. IfSome o (λ due. 0 ≤ due)) (sym new.due) tt;
  called = 0;
  later = omega arith;
  first = λ _first. refl;
  stands = new.stands;
  unchanged = refl;
}

-- before any event all lines and sources are as the plan has them
signals-begin : (plan : Topology) (parts : NetParts) → IsBegun plan parts → (events : List Event) → AreSignals plan (kept_of parts) events 0
signals-begin plan parts begun events = record {
  line_up = λ line nominated. rw (none-before-0 events) (ap (λ (signal : LineSignal). signal.up) (line-is line));
  line_esmc = λ line nominated. rw (none-before-0 events) (ap (λ (signal : LineSignal). signal.esmc) (line-is line));
  source_up = λ source is. rw (none-before-0 events) (begun.sources.each source no_source is.has).up;
  source_said = λ source is. rw (none-before-0 events) (begun.sources.each source no_source is.has).said;
  source_level = λ source is. (begun.sources.each source no_source is.has).level;
}
  where
    line-is : (line : ℕ) → line_signal (kept_of parts) line ≡ record { up = true; esmc = true }
    line-is line = ap (λ signals. line_at signals line) begun.signals ∙ same-everywhere (line_count plan) line (record { up = true; esmc = true })

-- and nothing is heard
heards-begin : (plan : Topology) (parts : NetParts) → IsBegun plan parts → (events : List Event) → AreHeard plan (kept_of parts) events 0
unfolding heard_at
heards-begin plan parts begun events = λ line nominated. ap (λ heards. heard_in heards line) begun.heards ∙ same-everywhere (line_count plan) line None

-- a network that was told nothing stands for no milliseconds, whatever events come
pub begun-stands : (plan : Topology) (parts : NetParts) → IsBegun plan parts → (events : List Event) → IsOfPast (state_of plan false parts) events 0
begun-stands plan parts begun events = record {
  first = λ _first. refl;
  later = omega (arith, begun.next);
  elements = λ element other within.
      element-begins plan (signals_by plan events) (out_at plan (signals_by plan events)) element _ (begun.elements.each element other within);
  lines = λ line within.
      if_some (IsNewLine plan line) (LineStands plan (signals_by plan events) (out_at plan (signals_by plan events)) line 0) _
      (λ state new. line-begins plan (signals_by plan events) (out_at plan (signals_by plan events)) line state new) (begun.lines.each line None within).is_new;
  signals = signals-begin plan parts begun events;
  heards = heards-begin plan parts begun events;
}

-- what holds unless out of memory
pub if-ok : (P Q : NetParts → Type 0) (result : Result NetParts NoMemory) → ((parts : NetParts) → P parts → Q parts) → IfOk result P → IfOk result Q
if-ok P Q (Ok parts) f holds = f parts holds
if-ok P Q (Err error) f holds = tt
