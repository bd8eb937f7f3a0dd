-- A millisecond from its beginning to its end.
use Rattle.std.proofs.Common.{◌≡◌, ◌≤◌, ◌<◌, ◌+◌, ◌⊎◌, ℕ, zero, suc, Bool, true, false, nat_eq, List, [], ◌∷◌, length, Option, None, Some, IsSome, IfSome, refl, ap, sym, subst, ◌∙◌, inl, inr, arith, unwrap_or}
use Rattle.std.specs.Prelude.{slice_index_or, option_and_then, IsSomeAnd, if◌then◌else◌}
use Rattle.std.specs.List.{list_any, All, IsDistinct}
use Rattle.std.proofs.Math.Decide.{dec_lt}
use Rattle.std.proofs.lemmas.Bool.{true≢false}
use Rattle.std.proofs.lemmas.List.{get_or_past, length-replicate}
use Rattle.sync_text.proofs.Tests.{or-second}
use Rattle.sync_ql.specs.declared.limits.TheConstants.{LAST_MILLISECOND}
use Rattle.sync_ql.specs.Told.{IsOfOption}
use Rattle.sync_ql.specs.Messages.{is_same_level}
use Rattle.agenda.specs.DueTimes.{due_in}
use Rattle.agenda.proofs.MarkedPlaces.{flag_within}
use Rattle.sync_element.specs.ElementState.{ElementState}
use Rattle.link_model.specs.LineState.{LineState}
use Rattle.sync_topo.specs.declared.event.Event.{Event}
use Rattle.sync_topo.specs.Topology.{Topology}
use Rattle.sync_topo.specs.Lines.{line_count, sender_of, IsNominated}
use Rattle.sync_topo.proofs.LineLaws.{IsNominated-within}
use Rattle.net_rules.proofs.PlanLaws.{sender-within}
use Rattle.sync_net.specs.declared.parts.NetParts.{NetParts}
use Rattle.sync_net.specs.Kept.{line_signal, source_signal, heard_on}
use Rattle.sync_net.specs.NetState.{line_in}
use Rattle.sync_net.specs.NetState as Net
use Rattle.sync_net.specs.private.Noted.{AreNoted}
use Rattle.sync_net.specs.private.Noting.{line_at, source_at, AreOfOption}
use Rattle.sync_net.proofs.QuietGap.{some_element}
use Rattle.sync_net.specs.private.Hearing.{heard_in, told_in}
use Rattle.sync_net.specs.private.Steps.{IsSteady, IsLineTold, IsLineSaid}
use Rattle.agenda.specs.Called.{is_marked}
use Rattle.sync_net.specs.private.Stages.{IsSent, IsNotGiven, is_out_of}
use Rattle.sync_net.specs.private.NetStep.{ElementStays, ElementMoves, LineIsTold, LineKeeps, LineIsSaid, LineMoves, IsNetStep, HasCause, AreEvaluatedFor}
use Rattle.sync_net.specs.Evaluated.{IsCalledFor, AreAloneCalled, AreAloneTold}
use Rattle.sync_net.proofs.OutLaws.{out-every, out-is}
use Rattle.sync_net.specs.Whole.{kept_of, state_of}
use Rattle.sync_net.specs.private.Whole.{IsReadyElement, IsReadyLine, IsWhole}
use Rattle.sync_net.specs.private.PartSteps.{AreCalled, AreTakenIn, AreHeardIn, AreEvaluatedIn, AreSentIn, IsOver}
use Rattle.sync_net.proofs.StageLaws.{same-place}
use Rattle.sync_net.proofs.Assembling.{unmarked-before, if_some_at, none-marked, exactly_now, kept_line, called_nominated, called_before, not_called_before, line_due_left}
use Rattle.sync_net.proofs.Finishing.{called_in_end, c_elements, c_dues, not_active, told_line, untold_line, element_steps, element_stays, element_moves, called_later}

-- what stands at a place of a list is listed
pub listed-at : (ks : List ℕ) (i d : ℕ) → i < length ks → list_any (nat_eq (slice_index_or ks i d)) ks ≡ true
listed-at [] i d inside = absurd (omega (arith, inside))
listed-at (k ∷ ks) zero d inside = rw (same-place k) refl
listed-at (k ∷ ks) (suc i) d inside = or-second (nat_eq (slice_index_or ks i d) k) (list_any (nat_eq (slice_index_or ks i d)) ks) (listed-at ks i d (omega (arith, inside)))

some-same : {A : Type 0} (x y : A) → Some x ≡ Some y → x ≡ y
some-same x y is = ap (λ o. unwrap_or o x) is

module _ (plan : Topology) (now : ℕ) (events : List Event) (p a b c d e q : NetParts) (whole : IsWhole plan p) (in_time : Net.IsInTime (state_of plan false p) now)
    (first : AreCalled plan now p a) (second : AreTakenIn plan events a b) (third : AreHeardIn plan now b c) (fourth : AreEvaluatedIn plan now c d)
    (fifth : AreSentIn plan now d e) (last : IsOver now e q) where
  -- what is kept in the end is what was kept when all was told
  kept_then : kept_of c ≡ kept_of q
  kept_then = rw (sym signals, sym sources, sym heards) refl
    where
      signals : q.signals ≡ c.signals
      signals = last.signals ∙ fifth.signals ∙ fourth.signals

      sources : q.sources ≡ c.sources
      sources = last.sources ∙ fifth.sources ∙ fourth.sources

      heards : q.heards ≡ c.heards
      heards = last.heards ∙ fifth.heards ∙ fourth.heards

  elements_then : q.elements.items ≡ d.elements.items
  elements_then = ap (λ v. v.items) (last.elements ∙ fifth.elements)

  lines_then : q.lines.items ≡ e.lines.items
  lines_then = ap (λ v. v.items) last.lines

  d_lines : d.lines.items ≡ c.lines.items
  d_lines = ap (λ v. v.items) fourth.lines

  noted : AreNoted plan events (kept_of p) (kept_of q)
  noted = subst (AreNoted plan events (kept_of p)) kept_then of_c
    where
      signals : c.signals.items ≡ b.signals.items
      signals = ap (λ v. v.items) third.signals

      sources : c.sources.items ≡ b.sources.items
      sources = ap (λ v. v.items) third.sources

      of_b : AreNoted plan events (record { lines = p.signals.items; sources = p.sources.items; heards = p.heards.items }) (record { lines = b.signals.items; sources = b.sources.items; heards = p.heards.items })
      of_b = subst (λ ls. AreNoted plan events (record { lines = ls; sources = p.sources.items; heards = p.heards.items }) (record { lines = b.signals.items; sources = b.sources.items; heards = p.heards.items })) (ap (λ v. v.items) first.signals)
          (subst (λ ss. AreNoted plan events (record { lines = a.signals.items; sources = ss; heards = p.heards.items }) (record { lines = b.signals.items; sources = b.sources.items; heards = p.heards.items })) (ap (λ v. v.items) first.sources)
          (second.taken.noted p.heards.items))

      of_c : AreNoted plan events (kept_of p) (kept_of c)
      of_c =
          let of_next : AreNoted plan events (kept_of p) (record { lines = c.signals.items; sources = c.sources.items; heards = p.heards.items }) =
          subst (λ ls. AreNoted plan events (kept_of p) (record { lines = ls; sources = c.sources.items; heards = p.heards.items })) (sym signals)
          (subst (λ ss. AreNoted plan events (kept_of p) (record { lines = b.signals.items; sources = ss; heards = p.heards.items })) (sym sources) of_b) in
          record {
            line_up = of_next.line_up;
            line_esmc = of_next.line_esmc;
            source_up = of_next.source_up;
            source_said = of_next.source_said;
            source_level = of_next.source_level;
          }

  -- a line that is called was told; then it is given its level
  is_sent : (line : ℕ) → line < line_count plan → is_marked d.called.flags line ≡ true → IsSent plan d.elements.items now line (record { lines = d.lines.items; dues = d.dues }) (record { lines = e.lines.items; dues = e.dues })
  is_sent line within is = fifth.sent.sent line within (sym (fifth.listed.listed line) ∙ is)

  not_sent : (line : ℕ) → line < line_count plan → is_marked d.called.flags line ≡ false → IsNotGiven (length plan.elements) line (record { lines = d.lines.items; dues = d.dues }) (record { lines = e.lines.items; dues = e.dues })
  not_sent line within is = fifth.sent.others line within (sym (fifth.listed.listed line) ∙ is)

  uncalled : (line : ℕ) → is_marked d.called.flags line ≡ false → is_marked b.called.flags line ≡ false
  uncalled line none = unmarked-before b.called.flags d.called.flags line (called_later plan now events p a b c d whole in_time first second third fourth line) none

  -- what becomes of a line
  line_told : (line : ℕ) (before : LineState) (other : ElementState) → line < line_count plan → line_in p.lines.items line ≡ Some before → is_marked b.called.flags line ≡ true →
      (after : LineState) × (line_in e.lines.items line ≡ Some after) × LineIsTold plan now (kept_of q) line (slice_index_or d.elements.items (sender_of plan line) other) before after
  line_told line before other within has is =
      let told = told_line plan now events p a b c whole in_time first second third line is in
      let sent = is_sent line within (called_later plan now events p a b c d whole in_time first second third fourth line is) in
      let was : told.before ≡ before = some-same _ _ (sym told.was ∙ ap (λ v. line_in v.items line) (second.lines ∙ first.lines) ∙ has) in
      let between : sent.given.before ≡ told.after = some-same _ _ (sym sent.given.was ∙ ap (λ ls. line_in ls line) d_lines ∙ told.is) in (
        sent.given.after,
        sent.given.is,
        record {
          between = told.after;
          told = subst (λ k. IsLineTold now (line_signal k line) before told.after (heard_on k line)) kept_then
              (subst (λ s. IsLineTold now (line_at s.items line) before told.after (heard_in c.heards.items line)) (sym third.signals)
              (subst (λ x. IsLineTold now (line_at b.signals.items line) x told.after (heard_in c.heards.items line)) was told.told));
          level = sent.level;
          sent = sent.by_sender other;
          said = subst (λ x. IsLineSaid now sent.level x sent.given.after) between sent.given.said;
        },
      )

  line_keeps : (line : ℕ) (before : LineState) → IsNominated plan line → line_in p.lines.items line ≡ Some before → is_marked b.called.flags line ≡ false → LineKeeps now (kept_of p) (kept_of q) line before
  line_keeps line before nominated has none =
      let facts = not_called_before plan now events p a b whole in_time first second line before nominated has none in
      let left = untold_line plan now events p a b c whole in_time first second third line none in
      record {
        signal = ap (λ k. line_signal k line) (sym kept_then) ∙ ap (λ v. line_at v.items line) third.signals ∙ facts.0;
        heard = ap (λ k. heard_on k line) (sym kept_then) ∙ left.1;
        not_due = facts.2;
        not_first = facts.3;
      }

  line_said : (line : ℕ) (before : LineState) (other : ElementState) → IsNominated plan line → line_in p.lines.items line ≡ Some before → is_marked b.called.flags line ≡ false → is_marked d.called.flags line ≡ true →
      (after : LineState) × (line_in e.lines.items line ≡ Some after) × LineIsSaid plan now (kept_of p) (kept_of q) line (slice_index_or d.elements.items (sender_of plan line) other) before after
  line_said line before other nominated has none is =
      let left = untold_line plan now events p a b c whole in_time first second third line none in
      let sent = is_sent line (IsNominated-within plan line nominated) is in
      let was : sent.given.before ≡ before = some-same _ _ (sym sent.given.was ∙ ap (λ ls. line_in ls line) d_lines ∙ left.0 ∙ has) in (
        sent.given.after,
        sent.given.is,
        record {
          keeps = line_keeps line before nominated has none;
          level = sent.level;
          sent = sent.by_sender other;
          said = subst (λ x. IsLineSaid now sent.level x sent.given.after) was sent.given.said;
        },
      )

  line_same : (line : ℕ) → line < line_count plan → is_marked d.called.flags line ≡ false → line_in e.lines.items line ≡ line_in p.lines.items line
  line_same line within none =
      (not_sent line within none).same ∙ ap (λ ls. line_in ls line) d_lines
      ∙ (untold_line plan now events p a b c whole in_time first second third line (uncalled line none)).0

  -- where a line isn't called, its sender gives what it gave
  sender_steady : (line : ℕ) (other : ElementState) → IsNominated plan line → is_marked d.called.flags line ≡ false →
      IsSteady now (slice_index_or p.elements.items (sender_of plan line) other) (slice_index_or d.elements.items (sender_of plan line) other)
      ⊎ ElementStays plan now events (kept_of p) (kept_of q) (sender_of plan line) (slice_index_or p.elements.items (sender_of plan line) other) (slice_index_or d.elements.items (sender_of plan line) other)
  sender_steady line other nominated none = of (is_marked c.tellings.active.flags (sender_of plan line)) refl
    where
      sender : ℕ
      sender = sender_of plan line

      within : sender < length plan.elements
      within = sender-within plan whole.well_formed line (IsNominated-within plan line nominated)

      out_here : is_out_of plan sender line ≡ true
      out_here = out-every plan line nominated

      of : (m : Bool) → is_marked c.tellings.active.flags sender ≡ m →
          IsSteady now (slice_index_or p.elements.items sender other) (slice_index_or d.elements.items sender other)
          ⊎ ElementStays plan now events (kept_of p) (kept_of q) sender (slice_index_or p.elements.items sender other) (slice_index_or d.elements.items sender other)
      of true is = elim (fourth.evaluated.evaluated sender within (sym (fourth.listed.listed sender) ∙ is)).sent [
        | inl steady ↦ inl (subst (λ xs. IsSteady now (slice_index_or xs sender other) (slice_index_or d.elements.items sender other)) (c_elements plan now events p a b c whole in_time first second third) (steady other))
        | inr marked ↦ absurd (true≢false (sym (marked line out_here) ∙ none))
      ]
      of false is = inr (subst (λ k. ElementStays plan now events (kept_of p) k sender (slice_index_or p.elements.items sender other) (slice_index_or d.elements.items sender other)) kept_then
          (element_stays plan now events p a b c d whole in_time first second third fourth sender other within is))

  moves : (element : ℕ) (other : ElementState) → element < length plan.elements →
      ElementMoves plan now events (kept_of p) (kept_of q) element (slice_index_or p.elements.items element other) (slice_index_or q.elements.items element other)
  moves element other within =
      subst (λ xs. ElementMoves plan now events (kept_of p) (kept_of q) element (slice_index_or p.elements.items element other) (slice_index_or xs element other)) (sym elements_then)
      (subst (λ k. ElementMoves plan now events (kept_of p) k element (slice_index_or p.elements.items element other) (slice_index_or d.elements.items element other)) kept_then
      (element_moves plan now events p a b c d whole in_time first second third fourth element other within))

  -- a kept line is nominated
  is_kept : (line : ℕ) (before : LineState) → line < line_count plan → line_in p.lines.items line ≡ Some before → IsReadyLine plan p.next line before
  is_kept line before within has = if_some_at (IsReadyLine plan p.next line) (line_in p.lines.items line) before has (whole.lines line within)

  line_moves : (line : ℕ) (before : LineState) → line < line_count plan → line_in p.lines.items line ≡ Some before → LineMoves plan now events (state_of plan false p) (state_of plan false q) line before
  line_moves line before within has = of (is_marked b.called.flags line) refl (is_marked d.called.flags line) refl
    where
      nominated : IsNominated plan line
      nominated = (is_kept line before within has).sound.nominated

      in_q : (after : LineState) → line_in e.lines.items line ≡ Some after → line_in q.lines.items line ≡ Some after
      in_q after is = ap (λ ls. line_in ls line) lines_then ∙ is

      same_line : (other : ElementState) → is_marked b.called.flags line ≡ true → (one : LineState) → line_in e.lines.items line ≡ Some one →
          LineIsTold plan now (kept_of q) line (slice_index_or q.elements.items (sender_of plan line) other) before one
      same_line other is one is_one =
          let told = line_told line before other within has is in
          subst (λ xs. LineIsTold plan now (kept_of q) line (slice_index_or xs (sender_of plan line) other) before one) (sym elements_then)
          (subst (λ x. LineIsTold plan now (kept_of q) line (slice_index_or d.elements.items (sender_of plan line) other) before x) (some-same _ _ (sym told.1 ∙ is_one)) told.2)

      same_said : (other : ElementState) → is_marked b.called.flags line ≡ false → is_marked d.called.flags line ≡ true → (one : LineState) → line_in e.lines.items line ≡ Some one →
          LineIsSaid plan now (kept_of p) (kept_of q) line (slice_index_or q.elements.items (sender_of plan line) other) before one
      same_said other none is one is_one =
          let said = line_said line before other nominated has none is in
          subst (λ xs. LineIsSaid plan now (kept_of p) (kept_of q) line (slice_index_or xs (sender_of plan line) other) before one) (sym elements_then)
          (subst (λ x. LineIsSaid plan now (kept_of p) (kept_of q) line (slice_index_or d.elements.items (sender_of plan line) other) before x) (some-same _ _ (sym said.1 ∙ is_one)) said.2)

      of : (told : Bool) → is_marked b.called.flags line ≡ told → (sent : Bool) → is_marked d.called.flags line ≡ sent → LineMoves plan now events (state_of plan false p) (state_of plan false q) line before
      of true is sent sent_is =
          let given = (is_sent line within (called_later plan now events p a b c d whole in_time first second third fourth line is)).given in
          record { after = given.after; is = in_q given.after given.is; how = λ other. inl (same_line other is given.after given.is) }
      of false none true is =
          let given = (is_sent line within is).given in
          record { after = given.after; is = in_q given.after given.is; how = λ other. inr (inl (same_said other none is given.after given.is)) }
      of false none false unsent = record {
        after = before;
        is = in_q before (line_same line within unsent ∙ has);
        how = λ other. inr (inr (record {
          keeps = line_keeps line before nominated has none;
          same = refl;
          steady = subst (λ xs. IsSteady now (slice_index_or p.elements.items (sender_of plan line) other) (slice_index_or xs (sender_of plan line) other)
              ⊎ ElementStays plan now events (kept_of p) (kept_of q) (sender_of plan line) (slice_index_or p.elements.items (sender_of plan line) other) (slice_index_or xs (sender_of plan line) other))
              (sym elements_then) (sender_steady line other nominated unsent);
        }));
      }

  -- a line that isn't kept stays so
  absent_then : (line : ℕ) → line_in p.lines.items line ≡ None → line_in q.lines.items line ≡ None
  absent_then line none = of (dec_lt line (line_count plan))
    where
      unmarked : (m : Bool) → is_marked d.called.flags line ≡ m → is_marked d.called.flags line ≡ false
      unmarked false is = is
      unmarked true is = absurd (no (line_in p.lines.items line) none (whole.every line (called_in_end plan now events p a b c d whole in_time first second third fourth line is)))
        where
          no : (o : Option LineState) → o ≡ None → IsSome o → ⊥
          no None is some = absurd (cc)
          no (Some x) is some = absurd (cc)

      of : Dec (line < line_count plan) → line_in q.lines.items line ≡ None
      of (yes within) = ap (λ ls. line_in ls line) lines_then ∙ line_same line within (unmarked (is_marked d.called.flags line) refl) ∙ none
      of (no past) = get_or_past q.lines.items line None (omega (arith, past, ap length lines_then, fifth.sent.lines_count, ap length d_lines, third.told.lines_count, ap (λ v. length v.items) (second.lines ∙ first.lines), whole.lines_count))

  pub net_step : IsNetStep now events (state_of plan false p) (state_of plan false q)
  net_step = record {
    plan = refl;
    next = last.next;
    later_steps = last.later_steps ∙ counted;
    noted = noted;
    elements = moves;
    lines = line_moves;
    absent = absent_then;
  }
    where
      next_is : e.next ≡ p.next
      next_is = fifth.tables.next ∙ fourth.tables.next ∙ third.tables.next ∙ second.tables.next ∙ first.tables.next

      steps_is : e.later_steps ≡ p.later_steps
      steps_is = fifth.tables.later_steps ∙ fourth.tables.later_steps ∙ third.tables.later_steps ∙ second.tables.later_steps ∙ first.tables.later_steps

      counted : (if nat_eq e.next 0 then 0 else e.later_steps + 1) ≡ (if nat_eq p.next 0 then 0 else p.later_steps + 1)
      counted = rw (next_is, steps_is) refl

  -- an element between this step and the next
  ready_element : now ≤ LAST_MILLISECOND → (element : ℕ) (other : ElementState) → element < length plan.elements → IsReadyElement plan q.next element (slice_index_or q.elements.items element other)
  ready_element in_range element other within = elim (moves element other within) [
    | inl steps ↦ record {
      sound = record {
        settings = steps.stepped.settings ∙ was.sound.settings;
        due = steps.stepped.due;
      };
      first = λ none. absurd (omega (arith, none, steps.stepped.next));
      later = omega (arith, steps.stepped.next, last.next);
      due_later = later (slice_index_or q.elements.items element other).due steps.stepped.due_later;
    }
    | inr stays ↦ subst (IsReadyElement plan q.next element) (sym stays.same) (record {
      sound = was.sound;
      first = λ none. absurd (omega (arith, stays.not_first, in_time.first (was.first none)));
      later = omega (arith, was.later, in_time.later, last.next);
      due_later = later (slice_index_or p.elements.items element other).due stays.not_due;
    })
  ]
    where
      was : IsReadyElement plan p.next element (slice_index_or p.elements.items element other)
      was = whole.elements element other within

      later : (o : Option ℕ) → IfSome o (λ due. now < due) → IfSome o (λ due. q.next ≤ due)
      later (Some due) l = omega (arith, l, last.next)
      later None l = l

  -- a line between this step and the next
  ready_line : (line : ℕ) (before : LineState) → line < line_count plan → line_in p.lines.items line ≡ Some before → IfSome (line_in q.lines.items line) (IsReadyLine plan q.next line)
  ready_line line before within has = subst (λ o. IfSome o (IsReadyLine plan q.next line)) (sym moved.is) (elim (moved.how (some_element plan)) [
    | inl told ↦ record {
      sound = record {
        nominated = was.sound.nominated;
        delay = told.said.delay ∙ told.told.delay ∙ was.sound.delay;
        due = told.said.due;
      };
      options = told.said.options plan.option told.sent.option (told.told.options plan.option was.options);
      turn = omega (arith, told.said.turn, last.next);
      due_later = later moved.after.due told.said.due_later;
    }
    | inr (inl said) ↦ record {
      sound = record {
        nominated = was.sound.nominated;
        delay = said.said.delay ∙ was.sound.delay;
        due = said.said.due;
      };
      options = said.said.options plan.option said.sent.option was.options;
      turn = omega (arith, said.said.turn, last.next);
      due_later = later moved.after.due said.said.due_later;
    }
    | inr (inr stays) ↦ subst (IsReadyLine plan q.next line) (sym stays.same) (record {
      sound = was.sound;
      options = was.options;
      turn = omega (arith, was.turn, in_time.later, last.next);
      due_later = later before.due stays.keeps.not_due;
    })
  ])
    where
      was : IsReadyLine plan p.next line before
      was = is_kept line before within has

      moved : LineMoves plan now events (state_of plan false p) (state_of plan false q) line before
      moved = line_moves line before within has

      later : (o : Option ℕ) → IfSome o (λ due. now < due) → IfSome o (λ due. q.next ≤ due)
      later (Some due) l = omega (arith, l, last.next)
      later None l = l

  ready_lines : (line : ℕ) → line < line_count plan → IfSome (line_in q.lines.items line) (IsReadyLine plan q.next line)
  ready_lines line within = of (line_in p.lines.items line) refl
    where
      of : (o : Option LineState) → line_in p.lines.items line ≡ o → IfSome (line_in q.lines.items line) (IsReadyLine plan q.next line)
      of (Some before) has = ready_line line before within has
      of None none = subst (λ o. IfSome o (IsReadyLine plan q.next line)) (sym (absent_then line none)) tt

  every_line : (line : ℕ) → IsNominated plan line → IsSome (line_in q.lines.items line)
  every_line line nominated =
      let kept = kept_line plan now events p a b whole in_time first second line nominated in
      subst IsSome (sym (line_moves line kept.0 (IsNominated-within plan line nominated) kept.1).is) refl

  -- each object is due when it says
  due_element : (element : ℕ) (other : ElementState) → element < length plan.elements → due_in q.dues element ≡ (slice_index_or q.elements.items element other).due
  due_element element other within =
      ap (λ ds. due_in ds element) last.dues ∙ fifth.sent.elements_left element within ∙ of (is_marked c.tellings.active.flags element) refl
      ∙ ap (λ xs. (slice_index_or xs element other).due) (sym elements_then)
    where
      of : (m : Bool) → is_marked c.tellings.active.flags element ≡ m → due_in d.dues element ≡ (slice_index_or d.elements.items element other).due
      of true is = (fourth.evaluated.evaluated element within (sym (fourth.listed.listed element) ∙ is)).due other
      of false is =
          let left = fourth.evaluated.others element within (sym (fourth.listed.listed element) ∙ is) in
          left.due ∙ (not_active plan now events p a b c whole in_time first second third element other within is).1 ∙ whole.element_dues element other within
          ∙ ap (λ x. x.due) (sym (element_stays plan now events p a b c d whole in_time first second third fourth element other within is).same)

  due_line : (line : ℕ) → line < line_count plan → due_in q.dues (length plan.elements + line) ≡ option_and_then (λ state. state.due) (line_in q.lines.items line)
  due_line line within =
      ap (λ ds. due_in ds (length plan.elements + line)) last.dues ∙ of (is_marked d.called.flags line) refl
      ∙ ap (λ ls. option_and_then (λ state. state.due) (line_in ls line)) (sym lines_then)
    where
      of : (m : Bool) → is_marked d.called.flags line ≡ m → due_in e.dues (length plan.elements + line) ≡ option_and_then (λ state. state.due) (line_in e.lines.items line)
      of true is =
          let given = (is_sent line within is).given in
          given.due ∙ ap (option_and_then (λ state. state.due)) (sym given.is)
      of false none =
          (not_sent line within none).due ∙ fourth.evaluated.lines (length plan.elements + line) (omega arith)
          ∙ ap (λ ds. due_in ds (length plan.elements + line)) (c_dues plan now events p a b c whole in_time first second third)
          ∙ line_due_left plan now events p a b whole in_time first second line (uncalled line none) ∙ whole.line_dues line within
          ∙ ap (option_and_then (λ state. state.due)) (sym (line_same line within none))

  -- levels are of the plan's option
  levels_then : (line : ℕ) → IsOfOption plan.option (heard_in q.heards.items line)
  levels_then line = subst (λ k. IsOfOption plan.option (heard_on k line)) kept_then (of (is_marked b.called.flags line) refl)
    where
      of : (m : Bool) → is_marked b.called.flags line ≡ m → IsOfOption plan.option (heard_in c.heards.items line)
      of true is =
          let told = told_line plan now events p a b c whole in_time first second third line is in
          let nominated = called_nominated plan now events p a b whole in_time first second line is in
          let within = IsNominated-within plan line nominated in
          told.told.heard_option plan.option
          (is_kept line told.before within (ap (λ v. line_in v.items line) (sym (second.lines ∙ first.lines)) ∙ told.was)).options
      of false none = subst (IsOfOption plan.option) (sym (untold_line plan now events p a b c whole in_time first second third line none).1) (whole.levels line)

  told_nothing_then : (element : ℕ) → told_in q.tellings.changes.items element ≡ []
  told_nothing_then element = ap (λ t. told_in t.changes.items element) (last.tellings ∙ fifth.tellings) ∙ at (dec_lt element (length plan.elements))
    where
      of : element < length plan.elements → (m : Bool) → is_marked c.tellings.active.flags element ≡ m → told_in d.tellings.changes.items element ≡ []
      of within true is = (fourth.evaluated.evaluated element within (sym (fourth.listed.listed element) ∙ is)).cleared
      of within false is =
          (fourth.evaluated.others element within (sym (fourth.listed.listed element) ∙ is)).changes
          ∙ (not_active plan now events p a b c whole in_time first second third element (some_element plan) within is).0

      at : Dec (element < length plan.elements) → told_in d.tellings.changes.items element ≡ []
      at (yes within) = of within (is_marked c.tellings.active.flags element) refl
      at (no past) = get_or_past d.tellings.changes.items element [] (omega (arith, past, fourth.evaluated.changes_count, third.told.changes_count, second.taken.list_count, ap (λ v. length v.items) first.changes, whole.changes_count))

  steps_then : q.later_steps ≤ q.next
  steps_then = of (nat_eq p.next 0) net_step.later_steps
    where
      of : (first_step : Bool) → q.later_steps ≡ (if first_step then 0 else p.later_steps + 1) → q.later_steps ≤ q.next
      of true is = omega (arith, is)
      of false is = omega (arith, is, whole.steps, in_time.later, last.next)

  pub whole_then : now ≤ LAST_MILLISECOND → IsWhole plan q
  whole_then in_range = record {
    well_formed = whole.well_formed;
    in_range = omega (arith, last.next, in_range);
    steps = steps_then;
    elements_count = omega (arith, ap length elements_then, fourth.evaluated.elements_count, ap (λ v. length v.items) (third.elements ∙ second.elements ∙ first.elements), whole.elements_count);
    lines_count = omega (arith, ap length lines_then, fifth.sent.lines_count, ap length d_lines, third.told.lines_count, ap (λ v. length v.items) (second.lines ∙ first.lines), whole.lines_count);
    signals_count = omega (arith, ap (λ k. length k.lines) kept_then, ap (λ v. length v.items) third.signals, second.taken.line_count, ap (λ v. length v.items) first.signals, whole.signals_count);
    sources_count = omega (arith, ap (λ k. length k.sources) kept_then, ap (λ v. length v.items) third.sources, second.taken.source_count, ap (λ v. length v.items) first.sources, whole.sources_count);
    heards_count = omega (arith, ap (λ k. length k.heards) kept_then, third.told.heards_count, ap (λ v. length v.items) (second.heards ∙ first.heards), whole.heards_count);
    dues_count = omega (arith, ap length last.dues, fifth.sent.dues_count, fourth.evaluated.dues_count, ap length (c_dues plan now events p a b c whole in_time first second third), first.due.count, whole.dues_count);
    changes_count = omega (arith, ap (λ t. length t.changes.items) (last.tellings ∙ fifth.tellings), fourth.evaluated.changes_count, third.told.changes_count, second.taken.list_count, ap (λ v. length v.items) first.changes, whole.changes_count);
    active_count = omega (arith, ap (λ t. length t.active.flags) (last.tellings ∙ fifth.tellings), ap (λ m. length m.flags) fourth.active, third.told.marks.count, second.taken.flag_count, first.due.elements.count, first.first.elements_kept.count, length-replicate (length p.tellings.active.flags) false, whole.active_count);
    called_count = omega (arith, ap (λ m. length m.flags) (last.called ∙ fifth.called), fourth.evaluated.called.count, ap (λ m. length m.flags) third.called, second.taken.mark_count, first.due.lines.count, first.first.lines_kept.count, length-replicate (length p.called.flags) false, whole.called_count);
    elements = ready_element in_range;
    lines = ready_lines;
    every = every_line;
    element_dues = due_element;
    line_dues = due_line;
    levels = levels_then;
    source_levels = subst (λ k. AreOfOption plan.option k.sources) kept_then (subst (λ v. AreOfOption plan.option v.items) (sym third.sources) second.of_option);
    told_nothing = told_nothing_then;
  }

  -- what was evaluated
  listed_then : q.tellings.active.listed ≡ c.tellings.active.listed
  listed_then = ap (λ t. t.active.listed) (last.tellings ∙ fifth.tellings) ∙ ap (λ m. m.listed) fourth.active

  is_active : (element : ℕ) → list_any (nat_eq element) q.tellings.active.listed ≡ true → is_marked c.tellings.active.flags element ≡ true
  is_active element is = fourth.listed.listed element ∙ ap (list_any (nat_eq element)) (sym listed_then) ∙ is

  active_within : (element : ℕ) → is_marked c.tellings.active.flags element ≡ true → element < length plan.elements
  active_within element is =
      omega (arith, flag_within c.tellings.active.flags element is, third.told.marks.count, second.taken.flag_count, first.due.elements.count, first.first.elements_kept.count, length-replicate (length p.tellings.active.flags) false, whole.active_count)

  cause_of : (element : ℕ) → is_marked c.tellings.active.flags element ≡ true → HasCause now events (state_of plan false p) (state_of plan false q) element
  cause_of element is = elim (third.told.cause element is) [
    | inl before ↦ of (is_marked a.tellings.active.flags element) refl before
    | inr other ↦ inr (inr (inl (record {
      line = other.line;
      nominated = other.nominated;
      into = other.into;
      other = subst (λ k. is_same_level (heard_on k other.line) (heard_in p.heards.items other.line) ≡ false) kept_then
          (subst (λ v. is_same_level (heard_in c.heards.items other.line) (heard_in v.items other.line) ≡ false) (second.heards ∙ first.heards) other.other);
    })))
  ]
    where
      within : element < length plan.elements
      within = active_within element is

      of : (m : Bool) → is_marked a.tellings.active.flags element ≡ m → is_marked b.tellings.active.flags element ≡ true → HasCause now events (state_of plan false p) (state_of plan false q) element
      of false none before = inr (inl (second.taken.becomes_active element none before))
      of true called before = elim (first.due.element_cause element within called) [
        | inl marked ↦ elim (first.first.elements_cause element marked) [
          | inl earlier ↦ absurd (true≢false (sym earlier ∙ none-marked (length p.tellings.active.flags) element))
          | inr begun ↦ inl begun
        ]
        | inr due ↦ inr (inr (inr (λ other. exactly_now (slice_index_or p.elements.items element other).due now
            (subst (λ o. IsSomeAnd o (λ d. d ≤ now)) (whole.element_dues element other within) due) (in_time.none_due.elements element other within))))
      ]

  pub evaluated_for : AreEvaluatedFor now events (state_of plan false p) (state_of plan false q)
  evaluated_for = record {
    apart = subst (IsDistinct nat_eq) (sym listed_then) fourth.listed.apart;
    within = subst (All (λ element. element < length plan.elements)) (sym listed_then)
        (λ i d inside. active_within (slice_index_or c.tellings.active.listed i d) (is_listed_at i d inside));
    cause = λ element is. cause_of element (is_active element is);
    counts = λ element other within is.
        subst (λ xs. (slice_index_or xs element other).later_steps ≡ (if nat_eq (slice_index_or p.elements.items element other).next 0 then 0 else (slice_index_or p.elements.items element other).later_steps + 1)) (sym elements_then)
        (element_steps plan now events p a b c d whole in_time first second third fourth element other within (is_active element is)).stepped.counts;
    left = λ element other within is.
        ap (λ xs. slice_index_or xs element other) elements_then
        ∙ (element_stays plan now events p a b c d whole in_time first second third fourth element other within (fourth.listed.listed element ∙ ap (list_any (nat_eq element)) (sym listed_then) ∙ is)).same;
  }
    where
      is_listed_at : (i d : ℕ) → i < length c.tellings.active.listed → is_marked c.tellings.active.flags (slice_index_or c.tellings.active.listed i d) ≡ true
      is_listed_at i d inside = fourth.listed.listed (slice_index_or c.tellings.active.listed i d) ∙ listed-at c.tellings.active.listed i d inside

  -- what was called
  called_then : q.called.listed ≡ d.called.listed
  called_then = ap (λ m. m.listed) (last.called ∙ fifth.called)

  -- an element that is marked in the end was evaluated
  was_evaluated : (element : ℕ) → is_marked c.tellings.active.flags element ≡ true → list_any (nat_eq element) q.tellings.active.listed ≡ true
  was_evaluated element is = ap (list_any (nat_eq element)) listed_then ∙ sym (fourth.listed.listed element) ∙ is

  -- the sender of a line is evaluated in the first step, as all are
  first_evaluated : (line : ℕ) → line < line_count plan → p.next ≡ 0 → list_any (nat_eq (sender_of plan line)) q.tellings.active.listed ≡ true
  first_evaluated line within begun =
      let sender = sender_of plan line in
      let first_mark = first.first.elements_first begun sender (sender-within plan whole.well_formed line within) in
      was_evaluated sender (third.told.marks.kept sender (second.taken.stays_active sender (first.due.elements.kept sender first_mark)))

  called_cause : (line : ℕ) → is_marked d.called.flags line ≡ true → IsCalledFor now events (state_of plan false p) (state_of plan false q) line
  called_cause line is = elim (fourth.evaluated.cause line is) [
    | inl before ↦ elim (called_before plan now events p a b whole in_time first second line (sym (ap (λ m. is_marked m.flags line) third.called) ∙ before)) [
      | inl switched ↦ inl switched
      | inr otherwise ↦ elim otherwise [
        | inl due ↦ inr (inl due)
        | inr begun ↦ inr (inr (first_evaluated line (IsNominated-within plan line
            (called_in_end plan now events p a b c d whole in_time first second third fourth line is)) begun))
      ]
    ]
    | inr out ↦ inr (inr (ap (λ sender. list_any (nat_eq sender) q.tellings.active.listed)
        (out-is plan out.0 line out.2).sent
        ∙ ap (list_any (nat_eq out.0)) listed_then ∙ out.1))
  ]

  -- what stands in the list of called lines is called
  is_called_at : (i other : ℕ) → i < length d.called.listed → is_marked d.called.flags (slice_index_or d.called.listed i other) ≡ true
  is_called_at i other inside = fifth.listed.listed (slice_index_or d.called.listed i other) ∙ listed-at d.called.listed i other inside

  pub called_alone : AreAloneCalled (state_of plan false p) (state_of plan false q)
  called_alone = record {
    within = subst (All (λ line. line < line_count plan)) (sym called_then)
        (λ i other inside. IsNominated-within plan (slice_index_or d.called.listed i other)
        (called_in_end plan now events p a b c d whole in_time first second third fourth (slice_index_or d.called.listed i other) (is_called_at i other inside)));
    left = λ line within is.
        ap (λ ls. line_in ls line) lines_then
        ∙ line_same line within (fifth.listed.listed line ∙ ap (list_any (nat_eq line)) (sym called_then) ∙ is);
  }

  pub called_for : All (IsCalledFor now events (state_of plan false p) (state_of plan false q)) q.called.listed
  called_for = subst (All (IsCalledFor now events (state_of plan false p) (state_of plan false q))) (sym called_then)
      (λ i other inside. called_cause (slice_index_or d.called.listed i other) (is_called_at i other inside))

  pub told_alone : AreAloneTold events (state_of plan false p) (state_of plan false q)
  told_alone = record {
    signals = λ line none.
        ap (λ k. line_signal k line) (sym kept_then) ∙ ap (λ v. line_at v.items line) third.signals
        ∙ second.taken.unswitched line none ∙ ap (λ v. line_at v.items line) first.signals;
    heards = λ line none.
        ap (λ k. heard_on k line) (sym kept_then)
        ∙ (untold_line plan now events p a b c whole in_time first second third line
        (uncalled line (fifth.listed.listed line ∙ ap (list_any (nat_eq line)) (sym called_then) ∙ none))).1;
    sources = λ source none.
        ap (λ k. source_signal k source) (sym kept_then) ∙ ap (λ v. source_at v.items source) third.sources
        ∙ second.taken.unnamed source none ∙ ap (λ v. source_at v.items source) first.sources;
  }
