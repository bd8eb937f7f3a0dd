-- The stages of a millisecond make a step of the network.
use Rattle.std.proofs.Common.{◌≡◌, ◌≤◌, ◌<◌, ℕ, Bool, true, false, nat_eq, List, [], length, Option, None, Some, IfSome, refl, ap, sym, subst, ◌∙◌, inl, inr, arith}
use Rattle.std.specs.Prelude.{slice_index_or, IsSomeAnd}
use Rattle.std.specs.List.{list_any, All}
use Rattle.std.proofs.lemmas.List.{length-replicate}
use Rattle.sync_ql.specs.Told.{FitsElement}
use Rattle.agenda.specs.DueTimes.{due_in}
use Rattle.sync_element.specs.ElementState.{ElementState}
use Rattle.sync_element.specs.StandsAfter.{IsStepped}
use Rattle.link_model.specs.LineState.{LineState}
use Rattle.sync_topo.specs.declared.event.Event.{Event}
use Rattle.std.proofs.lemmas.List.Elements.{All-weaker}
use Rattle.sync_topo.specs.Topology.{Topology}
use Rattle.sync_topo.specs.Lines.{line_count, IsNominated, lines_out}
use Rattle.sync_topo.specs.private.Lines.{IsLineOut}
use Rattle.sync_topo.proofs.LineLaws.{IsNominated-within}
use Rattle.net_rules.specs.History.{settings_of}
use Rattle.sync_net.specs.declared.parts.NetParts.{NetParts}
use Rattle.sync_net.specs.NetState.{line_in}
use Rattle.sync_net.specs.NetState as Net
use Rattle.sync_net.specs.private.Telling.{IsTold}
use Rattle.sync_net.specs.private.Noting.{line_at}
use Rattle.sync_net.specs.private.Hearing.{heard_in, told_in, HearsMore, IsToldAt}
use Rattle.agenda.specs.Called.{is_marked}
use Rattle.sync_net.specs.private.Stages.{CanStep, CanSay}
use Rattle.sync_net.specs.private.NetStep.{ElementSteps, ElementStays, ElementMoves}
use Rattle.sync_net.proofs.OutLaws.{out-is}
use Rattle.sync_net.specs.Whole.{kept_of, state_of}
use Rattle.sync_net.specs.private.Whole.{IsReadyElement, IsReadyLine, IsWhole}
use Rattle.sync_net.specs.private.PartSteps.{AreCalled, AreTakenIn, AreHeardIn, AreEvaluatedIn}
use Rattle.sync_topo.proofs.LinesOut.{lines_out-are}
use Rattle.sync_net.proofs.Assembling.{told-more, unmarked-before, if_some_at, some_and, kept_line, called_nominated, not_active_before}

-- after the lines are told
module _ (plan : Topology) (now : ℕ) (events : List Event) (p a b c : NetParts) (whole : IsWhole plan p) (in_time : Net.IsInTime (state_of plan false p) now)
    (first : AreCalled plan now p a) (second : AreTakenIn plan events a b) (third : AreHeardIn plan now b c) where
  pub c_elements : c.elements.items ≡ p.elements.items
  c_elements = ap (λ v. v.items) (third.elements ∙ second.elements ∙ first.elements)

  b_lines : b.lines.items ≡ p.lines.items
  b_lines = ap (λ v. v.items) (second.lines ∙ first.lines)

  b_heards : b.heards.items ≡ p.heards.items
  b_heards = ap (λ v. v.items) (second.heards ∙ first.heards)

  pub c_dues : c.dues ≡ a.dues
  c_dues = third.dues ∙ second.dues

  -- each element is told all
  pub told_all : (element : ℕ) → element < length plan.elements → IsTold plan (kept_of p) (kept_of c) events element (told_in c.tellings.changes.items element)
  told_all element within =
      told-more plan (kept_of p) (record { lines = b.signals.items; sources = b.sources.items; heards = p.heards.items }) (kept_of c) events element
      (told_in b.tellings.changes.items element) (told_in c.tellings.changes.items element)
      (ap (λ v. v.items) third.signals) (ap (λ v. v.items) third.sources)
      (subst (λ ls. IsTold plan (record { lines = ls; sources = p.sources.items; heards = p.heards.items }) (record { lines = b.signals.items; sources = b.sources.items; heards = p.heards.items }) events element (told_in b.tellings.changes.items element)) (ap (λ v. v.items) first.signals)
      (subst (λ ss. IsTold plan (record { lines = a.signals.items; sources = ss; heards = p.heards.items }) (record { lines = b.signals.items; sources = b.sources.items; heards = p.heards.items }) events element (told_in b.tellings.changes.items element)) (ap (λ v. v.items) first.sources)
      (second.taken.told p.heards.items element within (ap (λ v. told_in v.items element) first.changes ∙ whole.told_nothing element))))
      (subst (λ hs. HearsMore plan element hs c.heards.items (told_in b.tellings.changes.items element) (told_in c.tellings.changes.items element)) b_heards (third.told.hears element))

  -- an element that isn't marked then
  pub not_active : (element : ℕ) (other : ElementState) → element < length plan.elements → is_marked c.tellings.active.flags element ≡ false →
      (told_in c.tellings.changes.items element ≡ []) × (due_in c.dues element ≡ due_in p.dues element)
      × (IfSome (slice_index_or p.elements.items element other).due (λ due. now < due)) × (0 < now)
  not_active element other within none =
      let before : is_marked b.tellings.active.flags element ≡ false = unmarked-before b.tellings.active.flags c.tellings.active.flags element (third.told.marks.kept element) none in
      let facts = not_active_before plan now events p a b whole in_time first second element other within before in
      (third.told.silent element none ∙ facts.0, ap (λ ds. due_in ds element) c_dues ∙ facts.1, facts.2, facts.3)

  -- each element can make its step
  pub can_step : (element : ℕ) (other : ElementState) → element < length plan.elements →
      CanStep now (slice_index_or c.elements.items element other) (told_in c.tellings.changes.items element)
  can_step element other within =
      subst (λ xs. CanStep now (slice_index_or xs element other) (told_in c.tellings.changes.items element)) (sym c_elements) (record {
        in_time = record {
          first = λ none. in_time.first (ready.first none);
          later = omega (arith, ready.later, in_time.later);
          until_due = in_time.none_due.elements element other within;
        };
        fits = subst (λ s. All (FitsElement s) (told_in c.tellings.changes.items element)) (sym ready.sound.settings) (told_all element within).fits;
      })
    where
      ready : IsReadyElement plan p.next element (slice_index_or p.elements.items element other)
      ready = whole.elements element other within

  -- what is listed is what is marked
  listed_called : (line : ℕ) → is_marked b.called.flags line ≡ list_any (nat_eq line) b.called.listed
  listed_called line = third.listed.listed line

  -- a line that was told, and one that wasn't
  pub told_line : (line : ℕ) → is_marked b.called.flags line ≡ true → IsToldAt now (line_at b.signals.items line) line
      (record { lines = b.lines.items; heards = b.heards.items; changes = b.tellings.changes.items; active = b.tellings.active.flags })
      (record { lines = c.lines.items; heards = c.heards.items; changes = c.tellings.changes.items; active = c.tellings.active.flags })
  told_line line marked = third.told.told line (IsNominated-within plan line (called_nominated plan now events p a b whole in_time first second line marked)) (sym (listed_called line) ∙ marked)

  pub untold_line : (line : ℕ) → is_marked b.called.flags line ≡ false → (line_in c.lines.items line ≡ line_in p.lines.items line) × (heard_in c.heards.items line ≡ heard_in p.heards.items line)
  untold_line line none =
      let left = third.told.others line (sym (listed_called line) ∙ none) in
      (left.same ∙ ap (λ ls. line_in ls line) b_lines, left.level ∙ ap (λ hs. heard_in hs line) b_heards)

  -- the lines out of each element have marks
  pub outs_within : (element : ℕ) → All (λ line. line.0 < length c.called.flags) (lines_out plan element)
  outs_within element =
      All-weaker (IsLineOut plan element) (λ line. line.0 < length c.called.flags)
      (λ line out. omega (arith, IsNominated-within plan line.0 out.nominated, counted)) (lines_out plan element) (lines_out-are plan element)
    where
      counted : length c.called.flags ≡ line_count plan
      counted = omega (
        arith,
        ap (λ m. length m.flags) third.called,
        second.taken.mark_count,
        first.due.lines.count,
        first.first.lines_kept.count,
        length-replicate (length p.called.flags) false,
        whole.called_count,
      )

-- after the elements made their steps
module _ (plan : Topology) (now : ℕ) (events : List Event) (p a b c d : NetParts) (whole : IsWhole plan p) (in_time : Net.IsInTime (state_of plan false p) now)
    (first : AreCalled plan now p a) (second : AreTakenIn plan events a b) (third : AreHeardIn plan now b c) (fourth : AreEvaluatedIn plan now c d) where
  -- an element that is marked made its step, and another is left
  pub element_steps : (element : ℕ) (other : ElementState) → element < length plan.elements → is_marked c.tellings.active.flags element ≡ true →
      ElementSteps plan now events (kept_of p) (kept_of c) element (slice_index_or p.elements.items element other) (slice_index_or d.elements.items element other)
  element_steps element other within is = record {
    changes = told_in c.tellings.changes.items element;
    told = told_all plan now events p a b c whole in_time first second third element within;
    stepped = subst (λ xs. IsStepped now (told_in c.tellings.changes.items element) (slice_index_or xs element other) (slice_index_or d.elements.items element other))
        (c_elements plan now events p a b c whole in_time first second third)
        ((fourth.evaluated.evaluated element within (sym (fourth.listed.listed element) ∙ is)).stepped other);
  }

  pub element_stays : (element : ℕ) (other : ElementState) → element < length plan.elements → is_marked c.tellings.active.flags element ≡ false →
      ElementStays plan now events (kept_of p) (kept_of c) element (slice_index_or p.elements.items element other) (slice_index_or d.elements.items element other)
  element_stays element other within is =
      let facts = not_active plan now events p a b c whole in_time first second third element other within is in
      record {
        told = subst (IsTold plan (kept_of p) (kept_of c) events element) facts.0 (told_all plan now events p a b c whole in_time first second third element within);
        same = (fourth.evaluated.others element within (sym (fourth.listed.listed element) ∙ is)).element other
            ∙ ap (λ xs. slice_index_or xs element other) (c_elements plan now events p a b c whole in_time first second third);
        not_due = facts.2;
        not_first = facts.3;
      }

  pub element_moves : (element : ℕ) (other : ElementState) → element < length plan.elements →
      ElementMoves plan now events (kept_of p) (kept_of c) element (slice_index_or p.elements.items element other) (slice_index_or d.elements.items element other)
  element_moves element other within = of (is_marked c.tellings.active.flags element) refl
    where
      of : (m : Bool) → is_marked c.tellings.active.flags element ≡ m → ElementMoves plan now events (kept_of p) (kept_of c) element (slice_index_or p.elements.items element other) (slice_index_or d.elements.items element other)
      of true is = inl (element_steps element other within is)
      of false is = inr (element_stays element other within is)

  -- settings stay
  pub settings_stay : (element : ℕ) (other : ElementState) → element < length plan.elements → (slice_index_or d.elements.items element other).settings ≡ settings_of plan element
  settings_stay element other within = elim (element_moves element other within) [
    | inl steps ↦ steps.stepped.settings ∙ (whole.elements element other within).sound.settings
    | inr stays ↦ ap (λ x. x.settings) stays.same ∙ (whole.elements element other within).sound.settings
  ]

  d_lines : d.lines.items ≡ c.lines.items
  d_lines = ap (λ v. v.items) fourth.lines

  -- a line that is called in the end is nominated
  pub called_later : (line : ℕ) → is_marked b.called.flags line ≡ true → is_marked d.called.flags line ≡ true
  called_later line marked = fourth.evaluated.called.kept line (ap (λ m. is_marked m.flags line) third.called ∙ marked)

  -- what gives a line its level wants
  pub can_say : (line : ℕ) → line < line_count plan → (state : LineState) → line_in p.lines.items line ≡ Some state → IsSomeAnd (line_in d.lines.items line) (CanSay now)
  can_say line within state has = of (is_marked b.called.flags line) refl
    where
      of : (m : Bool) → is_marked b.called.flags line ≡ m → IsSomeAnd (line_in d.lines.items line) (CanSay now)
      of true is =
          let told = told_line plan now events p a b c whole in_time first second third line is in
          some_and (CanSay now) (line_in d.lines.items line) told.after (ap (λ ls. line_in ls line) d_lines ∙ told.is) (record {
            turn = omega (arith, told.told.turn);
            in_time = later told.after.due told.told.due_later;
          })
        where
          later : (o : Option ℕ) → IfSome o (λ due. now < due) → IfSome o (λ due. now ≤ due)
          later (Some due) l = omega (arith, l)
          later None l = l
      of false is =
          let left = untold_line plan now events p a b c whole in_time first second third line is in
          let ready : IsReadyLine plan p.next line state = if_some_at (IsReadyLine plan p.next line) (line_in p.lines.items line) state has (whole.lines line within) in
          some_and (CanSay now) (line_in d.lines.items line) state (ap (λ ls. line_in ls line) d_lines ∙ left.0 ∙ has) (record {
            turn = omega (arith, ready.turn, in_time.later);
            in_time = if_some_at (λ s. IfSome s.due (λ due. now ≤ due)) (line_in p.lines.items line) state has (in_time.none_due.lines line within);
          })

  -- a line that is called in the end is nominated, and can be given its level
  pub called_in_end : (line : ℕ) → is_marked d.called.flags line ≡ true → IsNominated plan line
  called_in_end line is = elim (fourth.evaluated.cause line is) [
    | inl before ↦ called_nominated plan now events p a b whole in_time first second line (sym (ap (λ m. is_marked m.flags line) third.called) ∙ before)
    | inr out ↦ (out-is plan out.0 line out.2).nominated
  ]

  pub can_say_called : (line : ℕ) → is_marked d.called.flags line ≡ true → IsSomeAnd (line_in d.lines.items line) (CanSay now)
  can_say_called line is =
      let nominated = called_in_end line is in
      let kept = kept_line plan now events p a b whole in_time first second line nominated in
      can_say line (IsNominated-within plan line nominated) kept.0 kept.1
