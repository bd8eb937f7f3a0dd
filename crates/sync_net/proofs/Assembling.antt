-- The stages of a millisecond, put together.
use Rattle.std.proofs.Common.{◌≡◌, ◌≤◌, ◌<◌, ◌+◌, ◌⊎◌, ℕ, Bool, true, false, ◌||◌, List, [], ◌∷◌, length, replicate, Option, None, Some, IsSome, IfSome, refl, ap, sym, subst, ◌∙◌, inl, inr, arith, unwrap_or}
use Rattle.std.specs.Prelude.{slice_index_or, slice_get, option_and_then, IsSomeAnd, ◌&&◌}
use Rattle.std.specs.List.{list_any}
use Rattle.std.proofs.Math.Decide.{dec_lt}
use Rattle.std.proofs.lemmas.Bool.{true≢false, or_from}
use Rattle.std.proofs.Math.Bool.{or-false}
use Rattle.std.proofs.lemmas.List.{get_or-replicate, length-replicate, get_or_past}
use Rattle.sync_ql.specs.declared.rules.InputEvent.{InputEvent}
use Rattle.sync_ql.specs.Told.{last_said, says_level}
use Rattle.agenda.specs.DueTimes.{due_in}
use Rattle.agenda.specs.Marked.{none_marked}
use Rattle.sync_element.specs.ElementState.{ElementState}
use Rattle.link_model.specs.LineState.{LineState}
use Rattle.sync_topo.specs.declared.input.InputId.{InputId}
use Rattle.sync_topo.specs.declared.input.InputId.TheVariants as input_is
use Rattle.sync_topo.specs.declared.event.Event.{Event}
use Rattle.sync_topo.specs.Topology.{Topology}
use Rattle.sync_topo.specs.Lines.{line_count, inputs_of, is_nominated, IsNominated}
use Rattle.sync_topo.proofs.LineLaws.{IsNominated-within}
use Rattle.sync_net.specs.declared.parts.NetParts.{NetParts}
use Rattle.sync_net.specs.Kept.{Kept}
use Rattle.sync_net.specs.private.Kept.{kept_up, kept_level}
use Rattle.sync_net.specs.NetState.{line_in}
use Rattle.sync_net.specs.NetState as Net
use Rattle.sync_net.specs.private.Telling.{IsTold}
use Rattle.sync_net.specs.private.Noting.{line_at, names_line}
use Rattle.net_rules.specs.Settling.{switches_line}
use Rattle.sync_net.specs.private.Hearing.{told_in, HearsMore, CanTell}
use Rattle.agenda.specs.Called.{is_marked}
use Rattle.sync_net.specs.Whole.{state_of}
use Rattle.sync_net.specs.private.Whole.{IsReadyLine, IsWhole}
use Rattle.sync_text.proofs.Tests.{or-second}
use Rattle.sync_net.specs.private.PartSteps.{AreCalled, AreTakenIn}

-- what an element is told of levels beside what it is told of events is all that it is told
pub told-more : (plan : Topology) (was between next : Kept) (events : List Event) (element : ℕ) (changes changes_then : List InputEvent) →
    next.lines ≡ between.lines → next.sources ≡ between.sources →
    IsTold plan was between events element changes → HearsMore plan element between.heards next.heards changes changes_then →
    IsTold plan was next events element changes_then
told-more plan was between next events element changes changes_then lines sources told more = record {
  fits = more.fits told.fits;
  up = λ i input at. ap (λ o. unwrap_or o (kept_up was input)) (more.up i) ∙ told.up i input at ∙ sym (same_up input);
  level = λ i input at. by i input at;
  clear = λ i input at. more.clear i ∙ told.clear i input at;
  commands = more.commands ∙ told.commands;
}
  where
    same_up : (input : InputId) → kept_up next input ≡ kept_up between input
    same_up (input_is.Line line) = ap (λ ls. (line_at ls line.0).up) lines
    same_up (input_is.Source source) = ap (λ ss. (slice_index_or ss source Rattle.sync_net.specs.Kept.no_source).up) sources

    by : (i : ℕ) (input : InputId) → slice_get (inputs_of plan element) i ≡ Some input → unwrap_or (last_said (says_level i) changes_then) (kept_level was input) ≡ kept_level next input
    by i (input_is.Source source) at =
        ap (λ o. unwrap_or o (kept_level was (input_is.Source source))) (more.source i source at) ∙ told.level i (input_is.Source source) at
        ∙ sym (ap (λ ss. Some (slice_index_or ss source Rattle.sync_net.specs.Kept.no_source).level) sources)
    by i (input_is.Line line) at = elim (more.line i line.0 at) [
      | inl same ↦ ap (λ o. unwrap_or o (kept_level was (input_is.Line line))) same.0 ∙ told.level i (input_is.Line line) at ∙ sym same.1
      | inr other ↦ ap (λ o. unwrap_or o (kept_level was (input_is.Line line))) other
    ]

-- a mark that isn't there wasn't there before
pub unmarked-before : (flags flags_then : List Bool) (k : ℕ) → (is_marked flags k ≡ true → is_marked flags_then k ≡ true) → is_marked flags_then k ≡ false → is_marked flags k ≡ false
unmarked-before flags flags_then k kept none = of (is_marked flags k) refl
  where
    of : (b : Bool) → is_marked flags k ≡ b → is_marked flags k ≡ false
    of false is = is
    of true is = absurd (true≢false (sym (kept is) ∙ none))

pub none-marked : (count k : ℕ) → is_marked (none_marked count).flags k ≡ false
none-marked count k = of (dec_lt k count)
  where
    of : Dec (k < count) → is_marked (none_marked count).flags k ≡ false
    of (yes within) = get_or-replicate {A = Bool} count k false false within
    of (no past) = get_or_past (replicate count false) k false (omega (arith, past, length-replicate count false))

pub if_some_at : {A : Type 0} (P : A → Type 0) (o : Option A) (a : A) → o ≡ Some a → IfSome o P → P a
if_some_at P o a is each = rw is at each

pub some_and : {A : Type 0} (P : A → Type 0) (o : Option A) (a : A) → o ≡ Some a → P a → IsSomeAnd o P
some_and P o a is holds = rw is holds

and-none : (x y : Bool) → x ≡ false → (x && y) ≡ false
and-none x y is = ap (λ z. z && y) is

-- where one passes two tests, of which the first is the same for all, it passes the second
any-second : (b : Bool) (test : Event → Bool) (es : List Event) → list_any (λ event. b && test event) es ≡ true → list_any test es ≡ true
any-second true test es some = some
any-second false test [] some = some
any-second false test (event ∷ es) some = absurd (true≢false (sym some ∙ never es))
  where
    never : (rest : List Event) → list_any (λ (event : Event). false) rest ≡ false
    never [] = refl
    never (event ∷ rest) = never rest

-- what is due by a millisecond and not before it is due in it
pub exactly_now : (o : Option ℕ) (now : ℕ) → IsSomeAnd o (λ due. due ≤ now) → IfSome o (λ due. now ≤ due) → o ≡ Some now
exactly_now (Some due) now early late = ap Some (omega (arith, early, late))
exactly_now None now early late = absurd early

module _ (plan : Topology) (now : ℕ) (events : List Event) (p a b : NetParts) (whole : IsWhole plan p) (in_time : Net.IsInTime (state_of plan false p) now)
    (first : AreCalled plan now p a) (second : AreTakenIn plan events a b) where
  -- the elements that are marked before the levels that are heard: for a cause
  a_lines : a.lines.items ≡ p.lines.items
  a_lines = ap (λ v. v.items) first.lines

  b_lines : b.lines.items ≡ p.lines.items
  b_lines = ap (λ v. v.items) second.lines ∙ a_lines

  -- a kept line that is ready
  pub kept_line : (line : ℕ) → IsNominated plan line → (state : LineState) × (line_in p.lines.items line ≡ Some state) × IsReadyLine plan p.next line state
  kept_line line nominated = of (line_in p.lines.items line) refl (whole.every line nominated) (whole.lines line (IsNominated-within plan line nominated))
    where
      of : (o : Option LineState) → line_in p.lines.items line ≡ o → IsSome o → IfSome o (IsReadyLine plan p.next line) →
          (state : LineState) × (line_in p.lines.items line ≡ Some state) × IsReadyLine plan p.next line state
      of (Some state) has some ready = (state, has, ready)
      of None has some ready = absurd (cc)

  line_due_at : (line : ℕ) (state : LineState) → line < line_count plan → line_in p.lines.items line ≡ Some state → due_in p.dues (length plan.elements + line) ≡ state.due
  line_due_at line state within has = whole.line_dues line within ∙ ap (option_and_then (λ s. s.due)) has

  -- no line or element is due before the millisecond
  line_in_time : (line : ℕ) (state : LineState) → line < line_count plan → line_in p.lines.items line ≡ Some state → IfSome state.due (λ due. now ≤ due)
  line_in_time line state within has = if_some_at (λ s. IfSome s.due (λ due. now ≤ due)) (line_in p.lines.items line) state has (in_time.none_due.lines line within)

  called_nominated_a : (line : ℕ) → is_marked a.called.flags line ≡ true → IsNominated plan line
  called_nominated_a line marked = elim (first.due.line_cause line marked) [
    | inl before ↦ elim (first.first.lines_cause line before) [
      | inl earlier ↦ absurd (true≢false (sym earlier ∙ none-marked (length p.called.flags) line))
      | inr first_of_all ↦ first_of_all.1
    ]
    | inr due ↦ of (dec_lt line (line_count plan)) due
  ]
    where
      some : (o : Option LineState) → IsSomeAnd (option_and_then (λ s. s.due) o) (λ due. due ≤ now) → (state : LineState) × (o ≡ Some state)
      some None due = absurd due
      some (Some state) due = (state, refl)

      of : Dec (line < line_count plan) → IsSomeAnd (due_in p.dues (length plan.elements + line)) (λ due. due ≤ now) → IsNominated plan line
      of (yes within) due =
          let has = some (line_in p.lines.items line) (subst (λ o. IsSomeAnd o (λ d. d ≤ now)) (whole.line_dues line within) due) in
          (if_some_at (IsReadyLine plan p.next line) (line_in p.lines.items line) has.0 has.1 (whole.lines line within)).sound.nominated
      of (no past) due = absurd (nothing (subst (λ o. IsSomeAnd o (λ d. d ≤ now)) (get_or_past p.dues (length plan.elements + line) None (omega (arith, past, whole.dues_count))) due))
        where
          nothing : IsSomeAnd None (λ (d : ℕ). d ≤ now) → ⊥
          nothing h = absurd h

  pub called_nominated : (line : ℕ) → is_marked b.called.flags line ≡ true → IsNominated plan line
  called_nominated line marked = of (is_marked a.called.flags line) refl
    where
      none : (es : List Event) → is_nominated plan line ≡ false → list_any (names_line plan line) es ≡ false
      none [] is = refl
      none (event ∷ es) is = or_from (names_line plan line event) (list_any (names_line plan line) es)
          (and-none (is_nominated plan line) (switches_line line event.what) is) (none es is)

      names : list_any (names_line plan line) events ≡ true → IsNominated plan line
      names some = by (is_nominated plan line) refl
        where
          by : (n : Bool) → is_nominated plan line ≡ n → IsNominated plan line
          by true is = is
          by false is = absurd (true≢false (sym some ∙ none events is))

      of : (m : Bool) → is_marked a.called.flags line ≡ m → IsNominated plan line
      of true is = called_nominated_a line is
      of false is = names (sym (or-false (list_any (names_line plan line) events)) ∙ ap (λ m. list_any (names_line plan line) events || m) (sym is) ∙ sym (second.taken.marked line) ∙ marked)

  -- why a line is to be called before the elements are evaluated: an event switches it, it is due, or it is the first of all
  pub called_before : (line : ℕ) → is_marked b.called.flags line ≡ true →
      (list_any (λ event. switches_line line event.what) events ≡ true)
      ⊎ (IsSomeAnd (line_in p.lines.items line) (λ state. state.due ≡ Some now) ⊎ (p.next ≡ 0))
  called_before line marked = of (is_marked a.called.flags line) refl
    where
      nominated : IsNominated plan line
      nominated = called_nominated line marked

      kept : (state : LineState) × (line_in p.lines.items line ≡ Some state) × IsReadyLine plan p.next line state
      kept = kept_line line nominated

      due_here : IsSomeAnd (due_in p.dues (length plan.elements + line)) (λ due. due ≤ now) → IsSomeAnd (line_in p.lines.items line) (λ state. state.due ≡ Some now)
      due_here due = some_and (λ state. state.due ≡ Some now) (line_in p.lines.items line) kept.0 kept.1
          (exactly_now kept.0.due now (subst (λ o. IsSomeAnd o (λ d. d ≤ now)) (line_due_at line kept.0 (IsNominated-within plan line nominated) kept.1) due)
          (line_in_time line kept.0 (IsNominated-within plan line nominated) kept.1))

      of : (m : Bool) → is_marked a.called.flags line ≡ m →
          (list_any (λ event. switches_line line event.what) events ≡ true)
          ⊎ (IsSomeAnd (line_in p.lines.items line) (λ state. state.due ≡ Some now) ⊎ (p.next ≡ 0))
      of true is = elim (first.due.line_cause line is) [
        | inl before ↦ elim (first.first.lines_cause line before) [
          | inl earlier ↦ absurd (true≢false (sym earlier ∙ none-marked (length p.called.flags) line))
          | inr first_of_all ↦ inr (inr first_of_all.0)
        ]
        | inr due ↦ inr (inl (due_here due))
      ]
      of false is = inl (any-second (is_nominated plan line) (λ event. switches_line line event.what) events
          (sym (or-false (list_any (names_line plan line) events)) ∙ ap (λ m. list_any (names_line plan line) events || m) (sym is) ∙ sym (second.taken.marked line) ∙ marked))

  -- the lines that are called can be told
  pub can_tell : (line : ℕ) → is_marked b.called.flags line ≡ true → IsNominated plan line × IsSomeAnd (line_in b.lines.items line) (CanTell plan.option now)
  can_tell line marked =
      let nominated = called_nominated line marked in
      let kept = kept_line line nominated in
      let ready = kept.2 in (
        nominated,
        subst (λ ls. IsSomeAnd (line_in ls line) (CanTell plan.option now)) (sym b_lines)
            (some_and (CanTell plan.option now) (line_in p.lines.items line) kept.0 kept.1 (record {
              options = ready.options;
              turn = omega (arith, ready.turn, in_time.later);
              in_time = line_in_time line kept.0 (IsNominated-within plan line nominated) kept.1;
            })),
      )

  -- an element that isn't marked before levels are heard is told nothing, isn't due, and it isn't
  -- the first step
  pub not_active_before : (element : ℕ) (other : ElementState) → element < length plan.elements → is_marked b.tellings.active.flags element ≡ false →
      (told_in b.tellings.changes.items element ≡ []) × (due_in a.dues element ≡ due_in p.dues element)
      × (IfSome (slice_index_or p.elements.items element other).due (λ due. now < due)) × (0 < now)
  not_active_before element other within none =
      let earlier : is_marked a.tellings.active.flags element ≡ false = unmarked-before a.tellings.active.flags b.tellings.active.flags element (second.taken.stays_active element) none in
      let kept : due_in a.dues element ≡ due_in p.dues element = first.due.element_left element within earlier in
      let unmarked : is_marked first.active element ≡ false = unmarked-before first.active a.tellings.active.flags element (first.due.elements.kept element) earlier in (
        second.taken.inactive element none ∙ ap (λ v. told_in v.items element) first.changes ∙ whole.told_nothing element,
        kept,
        subst (λ o. IfSome o (λ due. now < due)) (kept ∙ whole.element_dues element other within) (first.later element),
        not_first (dec_lt 0 p.next) unmarked,
      )
    where
      not_first : Dec (0 < p.next) → is_marked first.active element ≡ false → 0 < now
      not_first (yes some) unmarked = omega (arith, some, in_time.later)
      not_first (no begun) unmarked = absurd (true≢false (sym (first.first.elements_first (omega (arith, begun)) element within) ∙ unmarked))

  -- a line that isn't called before is as it was, isn't due, and it isn't the first step
  pub not_called_before : (line : ℕ) (state : LineState) → IsNominated plan line → line_in p.lines.items line ≡ Some state → is_marked b.called.flags line ≡ false →
      (line_at b.signals.items line ≡ line_at p.signals.items line) × (due_in a.dues (length plan.elements + line) ≡ due_in p.dues (length plan.elements + line))
      × (IfSome state.due (λ due. now < due)) × (0 < now)
  not_called_before line state nominated has none =
      let within = IsNominated-within plan line nominated in
      let earlier : is_marked a.called.flags line ≡ false = unmarked-before a.called.flags b.called.flags line (λ is. second.taken.marked line ∙ or-second (list_any (names_line plan line) events) (is_marked a.called.flags line) is) none in
      let kept : due_in a.dues (length plan.elements + line) ≡ due_in p.dues (length plan.elements + line) = first.due.line_left line earlier in
      let unmarked : is_marked first.called line ≡ false = unmarked-before first.called a.called.flags line (first.due.lines.kept line) earlier in (
        second.taken.unmarked line nominated none ∙ ap (λ v. line_at v.items line) first.signals,
        kept,
        subst (λ o. IfSome o (λ due. now < due)) (kept ∙ line_due_at line state within has) (first.later (length plan.elements + line)),
        not_first (dec_lt 0 p.next) unmarked,
      )
    where
      not_first : Dec (0 < p.next) → is_marked first.called line ≡ false → 0 < now
      not_first (yes some) unmarked = omega (arith, some, in_time.later)
      not_first (no begun) unmarked = absurd (true≢false (sym (first.first.lines_first (omega (arith, begun)) line nominated) ∙ unmarked))

  -- a line that isn't called before is due as it was, kept or not
  pub line_due_left : (line : ℕ) → is_marked b.called.flags line ≡ false → due_in a.dues (length plan.elements + line) ≡ due_in p.dues (length plan.elements + line)
  line_due_left line none =
      first.due.line_left line (unmarked-before a.called.flags b.called.flags line (λ is. second.taken.marked line ∙ or-second (list_any (names_line plan line) events) (is_marked a.called.flags line) is) none)
