-- After a step a network stands for one more millisecond.
use Rattle.std.proofs.Common.{◌≡◌, ◌≤◌, ◌<◌, ◌+◌, ◌⊎◌, ℕ, zero, suc, List, [], length, Option, None, Some, IsSome, IfSome, refl, ap, sym, subst, ◌∙◌, inl, inr, arith, add-one}
use Rattle.std.specs.Prelude.{slice_index_or, if◌then◌else◌, option_and_then, slice_get}
use Rattle.sync_ql.proofs.SameMoments.{line_moment}
use Rattle.sync_ql.specs.declared.levels.Level.{Level}
use Rattle.sync_ql.specs.declared.rules.InputEvent.{InputEvent}
use Rattle.sync_ql.specs.Level.{do_not_use_of}
use Rattle.sync_ql.specs.Moment.{Moment, selection_at}
use Rattle.sync_ql.specs.Output.{clock_level_at}
use Rattle.sync_ql.specs.Told.{moments_until, moment_after, quiet_moment}
use Rattle.sync_element.specs.ElementState.{ElementState}
use Rattle.sync_element.proofs.ElementSteps.{stands-stepped, later-due}
use Rattle.link_model.specs.LineState.{LineState}
use Rattle.sync_topo.specs.declared.event.Event.{Event}
use Rattle.sync_topo.specs.Topology.{Topology}
use Rattle.sync_topo.specs.Events.{IsInOrder}
use Rattle.sync_topo.specs.Lines.{line_count, line_input, sender_of, inputs_of, IsNominated}
use Rattle.sync_topo.specs.WellFormed.{IsWellFormed}
use Rattle.sync_topo.proofs.LineLaws.{IsNominated-within}
use Rattle.net_rules.specs.Signals.{Signals, signals_by, events_at, up_at, esmc_at}
use Rattle.net_rules.specs.History.{Levels, settings_of, heard, moment_at, element_past, is_way_back, sent_by, sent_level, out_at}
use Rattle.net_rules.proofs.HistoryLaws.{out_at-sent}
use Rattle.net_rules.proofs.PlanLaws.{IsDelayed-well, sender-within}
use Rattle.net_rules.proofs.FinalLaws.{obeys-well}
use Rattle.sync_net.specs.Kept.{line_signal, heard_on}
use Rattle.sync_net.specs.NetState.{NetState, line_in}
use Rattle.sync_net.specs.Standing.{ElementStands, LineStands, heard_before, AreSignals, AreHeard, IsOfPast}
use Rattle.sync_net.specs.Sound.{IsSoundLine, AreSound}
use Rattle.sync_net.specs.private.Telling.{IsTold}
use Rattle.sync_net.specs.private.Steps.{IsSteady, IsLineSaid}
use Rattle.sync_net.specs.private.Stages.{IsLevelSent}
use Rattle.sync_net.specs.private.NetStep.{ElementStays, LineIsTold, LineKeeps, LineIsSaid, LineStays, IsNetStep}
use Rattle.sync_net.proofs.SignalsAfter.{signals-after}
use Rattle.sync_net.proofs.ToldMoment.{told-moment}
use Rattle.sync_net.proofs.QuietObjects.{HasNoNews, element-quiet, element-sends, line-quiet, line-heard}
use Rattle.sync_net.proofs.QuietGap.{some_element}
use Rattle.sync_net.proofs.ObjectSteps.{told-stands, told-heard, said-stands}

-- the level that the sender gives is the one that the rules send
pub level-sent : (plan : Topology) (signals : Signals) (line now : ℕ) (sender : ElementState) (level : Level) → IsWellFormed plan →
    ElementStands plan signals (out_at plan signals) (sender_of plan line) (suc now) sender → IsLevelSent plan line sender level →
    level ≡ out_at plan signals line now
unfolding sent_level
level-sent plan signals line now sender level well stands sent =
    let e : ℕ = sender_of plan line in
    let past : List Moment = element_past plan signals (out_at plan signals) e sender.next in
    sent.sent past (suc now) stands.stands stands.in_time
    ∙ ap (λ s. sent_by plan line (moments_until s (suc now) past)) stands.settings
    ∙ ap (sent_by plan line) (sym stands.quiet)
    ∙ sym (out_at-sent plan (IsDelayed-well plan well) signals line now)

-- a sender that takes the same and has the same level sends the same
pub steady-sends : (plan : Topology) (signals : Signals) (line t : ℕ) (sender sender_then : ElementState) → IsWellFormed plan →
    ElementStands plan signals (out_at plan signals) (sender_of plan line) (suc t) sender → ElementStands plan signals (out_at plan signals) (sender_of plan line) (suc (suc t)) sender_then →
    IsSteady (suc t) sender sender_then → out_at plan signals line (suc t) ≡ out_at plan signals line t
unfolding sent_level
steady-sends plan signals line t sender sender_then well before after steady =
    out_at-sent plan (IsDelayed-well plan well) signals line (suc t)
    ∙ ap (λ s. sent s (clock_level_at (settings_of plan e) (past (suc (suc t))))) selection
    ∙ ap (sent (selection_at (settings_of plan e) (past (suc t)))) level
    ∙ sym (out_at-sent plan (IsDelayed-well plan well) signals line t)
  where
    e : ℕ
    e = sender_of plan line

    past : ℕ → List Moment
    past = element_past plan signals (out_at plan signals) e

    sent : Option ℕ → Level → Level
    sent s l = if is_way_back plan (option_and_then (slice_get (inputs_of plan e)) s) line then do_not_use_of plan.option else l

    then_past : moments_until sender_then.settings (suc t + 1) (past sender_then.next) ≡ past (suc (suc t))
    then_past = ap (λ s. moments_until s (suc t + 1) (past sender_then.next)) after.settings
        ∙ ap (λ n. moments_until (settings_of plan e) n (past sender_then.next)) (add-one (suc t)) ∙ sym after.quiet

    before_past : moments_until sender.settings (suc t) (past sender.next) ≡ past (suc t)
    before_past = ap (λ s. moments_until s (suc t) (past sender.next)) before.settings ∙ sym before.quiet

    selection : selection_at (settings_of plan e) (past (suc (suc t))) ≡ selection_at (settings_of plan e) (past (suc t))
    selection = ap (selection_at (settings_of plan e)) (sym then_past) ∙ ap (λ s. selection_at s (moments_until sender_then.settings (suc t + 1) (past sender_then.next))) (sym after.settings)
        ∙ steady.selection (past sender.next) (past sender_then.next) before.stands after.stands
        ∙ ap (λ s. selection_at s (moments_until sender.settings (suc t) (past sender.next))) before.settings ∙ ap (selection_at (settings_of plan e)) before_past

    level : clock_level_at (settings_of plan e) (past (suc (suc t))) ≡ clock_level_at (settings_of plan e) (past (suc t))
    level = ap (clock_level_at (settings_of plan e)) (sym then_past) ∙ ap (λ s. clock_level_at s (moments_until sender_then.settings (suc t + 1) (past sender_then.next))) (sym after.settings)
        ∙ steady.level (past sender.next) (past sender_then.next) before.stands after.stands
        ∙ ap (λ s. clock_level_at s (moments_until sender.settings (suc t) (past sender.next))) before.settings ∙ ap (clock_level_at (settings_of plan e)) before_past

-- what a network stands for, by another plan that is the same
of-plan : (t : NetState) (plan : Topology) (all : List Event) (n : ℕ) → t.plan ≡ plan → (t.next ≡ 0 → n ≡ 0) → t.next ≤ n →
    ((element : ℕ) (other : ElementState) → element < length plan.elements → ElementStands plan (signals_by plan all) (out_at plan (signals_by plan all)) element n (slice_index_or t.elements element other)) →
    ((line : ℕ) → line < line_count plan → IfSome (line_in t.lines line) (LineStands plan (signals_by plan all) (out_at plan (signals_by plan all)) line n)) →
    AreSignals plan t.kept all n → AreHeard plan t.kept all n → IsOfPast t all n
of-plan t plan all n same first later elements lines signals heards = record {
  first = first;
  later = later;
  elements = subst (λ p. (element : ℕ) (other : ElementState) → element < length p.elements → ElementStands p (signals_by p all) (out_at p (signals_by p all)) element n (slice_index_or t.elements element other)) (sym same) elements;
  lines = subst (λ p. (line : ℕ) → line < line_count p → IfSome (line_in t.lines line) (LineStands p (signals_by p all) (out_at p (signals_by p all)) line n)) (sym same) lines;
  signals = subst (λ p. AreSignals p t.kept all n) (sym same) signals;
  heards = subst (λ p. AreHeard p t.kept all n) (sym same) heards;
}

module _ (s t : NetState) (all events : List Event) (now : ℕ) (well : IsWellFormed s.plan) (sound : AreSound s) (ordered : IsInOrder all)
    (is : IsOfPast s all now) (here : events_at now all ≡ events) (step : IsNetStep now events s t) where
  x : Signals
  x = signals_by s.plan all

  out : Levels
  out = out_at s.plan x

  signals_then : AreSignals s.plan t.kept all (suc now)
  signals_then = signals-after s.plan all events now s.kept t.kept ordered is.signals here step.noted

  up_then : (line : ℕ) → IsNominated s.plan line → (line_signal t.kept line).up ≡ (signals_by s.plan all).up (line_input line) now
  unfolding up_at
  up_then line nominated = signals_then.line_up line nominated

  esmc_then : (line : ℕ) → IsNominated s.plan line → (line_signal t.kept line).esmc ≡ (signals_by s.plan all).esmc line now
  unfolding esmc_at
  esmc_then line nominated = signals_then.line_esmc line nominated

  up_kept : (line u : ℕ) → now ≡ suc u → IsNominated s.plan line → line_signal t.kept line ≡ line_signal s.kept line →
      (signals_by s.plan all).up (line_input line) (suc u) ≡ (signals_by s.plan all).up (line_input line) u
  unfolding up_at
  up_kept line u at nominated same =
      ap ((signals_by s.plan all).up (line_input line)) (sym at) ∙ sym (up_then line nominated) ∙ ap (λ signal. signal.up) same
      ∙ subst (λ n. (line_signal s.kept line).up ≡ Rattle.net_words.specs.Before.up_before all (line_input line) n) at (is.signals.line_up line nominated)

  esmc_kept : (line u : ℕ) → now ≡ suc u → IsNominated s.plan line → line_signal t.kept line ≡ line_signal s.kept line →
      (signals_by s.plan all).esmc line (suc u) ≡ (signals_by s.plan all).esmc line u
  unfolding esmc_at
  esmc_kept line u at nominated same =
      ap ((signals_by s.plan all).esmc line) (sym at) ∙ sym (esmc_then line nominated) ∙ ap (λ signal. signal.esmc) same
      ∙ subst (λ n. (line_signal s.kept line).esmc ≡ Rattle.net_words.specs.Before.esmc_before all line n) at (is.signals.line_esmc line nominated)

  line_before : (line : ℕ) (state : LineState) → line < line_count s.plan → line_in s.lines line ≡ Some state → LineStands s.plan (signals_by s.plan all) (out_at s.plan (signals_by s.plan all)) line now state
  line_before line state within has = of (line_in s.lines line) has (is.lines line within)
    where
      of : (o : Option LineState) → o ≡ Some state → IfSome o (LineStands s.plan (signals_by s.plan all) (out_at s.plan (signals_by s.plan all)) line now) → LineStands s.plan (signals_by s.plan all) (out_at s.plan (signals_by s.plan all)) line now state
      of o equal each = rw equal at each

  sound_line : (line : ℕ) (state : LineState) → line < line_count s.plan → line_in s.lines line ≡ Some state → IsSoundLine s.plan line state
  sound_line line state within has = of (line_in s.lines line) has (sound.lines line within)
    where
      of : (o : Option LineState) → o ≡ Some state → IfSome o (IsSoundLine s.plan line) → IsSoundLine s.plan line state
      of o equal each = rw equal at each

  pub heard_from : (line : ℕ) (state : LineState) → line < line_count s.plan → line_in s.lines line ≡ Some state → IsNominated s.plan line →
      heard_on t.kept line ≡ heard_before s.plan (signals_by s.plan all) (out_at s.plan (signals_by s.plan all)) line (suc now)
  heard_from line state within has nominated = by ((step.lines line state within has).how (some_element s.plan))
    where
      kept : LineKeeps now s.kept t.kept line state → heard_on t.kept line ≡ heard_before s.plan (signals_by s.plan all) (out_at s.plan (signals_by s.plan all)) line (suc now)
      kept keeps = from now refl
        where
          from : (n : ℕ) → now ≡ n → heard_on t.kept line ≡ heard_before s.plan (signals_by s.plan all) (out_at s.plan (signals_by s.plan all)) line (suc now)
          from zero at = absurd (omega (arith, at, keeps.not_first))
          from (suc u) at =
              keeps.heard ∙ is.heards line nominated
              ∙ ap (heard_before s.plan (signals_by s.plan all) (out_at s.plan (signals_by s.plan all)) line) at
              ∙ sym (line-heard s.plan (signals_by s.plan all) (out_at s.plan (signals_by s.plan all)) line u state (sound_line line state within has)
              (subst (λ n. LineStands s.plan (signals_by s.plan all) (out_at s.plan (signals_by s.plan all)) line n state) at (line_before line state within has))
              (subst (λ n. IfSome state.due (λ due. suc n ≤ due)) at (later-due now state.due keeps.not_due))
              (IsDelayed-well s.plan well line nominated) (up_kept line u at nominated keeps.signal))
              ∙ ap (λ n. heard_before s.plan (signals_by s.plan all) (out_at s.plan (signals_by s.plan all)) line (suc n)) (sym at)

      by : LineIsTold s.plan now t.kept line (slice_index_or t.elements (sender_of s.plan line) (some_element s.plan)) state (step.lines line state within has).after
          ⊎ (LineIsSaid s.plan now s.kept t.kept line (slice_index_or t.elements (sender_of s.plan line) (some_element s.plan)) state (step.lines line state within has).after
          ⊎ LineStays s.plan now events s.kept t.kept line (slice_index_or s.elements (sender_of s.plan line) (some_element s.plan)) (slice_index_or t.elements (sender_of s.plan line) (some_element s.plan)) state (step.lines line state within has).after)
          → heard_on t.kept line ≡ heard_before s.plan (signals_by s.plan all) (out_at s.plan (signals_by s.plan all)) line (suc now)
      by moves = elim moves [
        | inl told ↦ told-heard s.plan (signals_by s.plan all) (out_at s.plan (signals_by s.plan all)) line now (line_signal t.kept line) (heard_on t.kept line) state told.between
            (IsDelayed-well s.plan well line nominated) (line_before line state within has) told.told (up_then line nominated)
        | inr rest ↦ elim rest [ inl said ↦ kept said.keeps | inr stays ↦ kept stays.keeps ]
      ]

  heards_then : AreHeard s.plan t.kept all (suc now)
  heards_then line nominated = of (line_in s.lines line) refl (sound.every line nominated)
    where
      of : (o : Option LineState) → line_in s.lines line ≡ o → IsSome o → heard_on t.kept line ≡ heard_before s.plan (signals_by s.plan all) (out_at s.plan (signals_by s.plan all)) line (suc now)
      of (Some state) has some = heard_from line state (IsNominated-within s.plan line nominated) has nominated
      of None has some = absurd (cc)

  moment_of : (element : ℕ) (changes : List InputEvent) → IsTold s.plan s.kept t.kept events element changes →
      moment_after (settings_of s.plan element) (element_past s.plan (signals_by s.plan all) (out_at s.plan (signals_by s.plan all)) element now) changes
      ≡ moment_at s.plan (signals_by s.plan all) (heard s.plan (signals_by s.plan all) (out_at s.plan (signals_by s.plan all))) element now
  moment_of element changes told = told-moment s.plan all events now s.kept t.kept element changes is.signals is.heards signals_then heards_then here told

  -- nothing is told to an element that makes no step
  news_none : (element u : ℕ) → now ≡ suc u → IsTold s.plan s.kept t.kept events element [] → HasNoNews s.plan (signals_by s.plan all) (out_at s.plan (signals_by s.plan all)) element u
  news_none element u at told = subst (λ n. moment_at s.plan (signals_by s.plan all) (heard s.plan (signals_by s.plan all) (out_at s.plan (signals_by s.plan all))) element n
      ≡ quiet_moment (settings_of s.plan element) (element_past s.plan (signals_by s.plan all) (out_at s.plan (signals_by s.plan all)) element n)) at (sym (moment_of element [] told))

  pub element_then : (element : ℕ) (other : ElementState) → element < length s.plan.elements →
      ElementStands s.plan (signals_by s.plan all) (out_at s.plan (signals_by s.plan all)) element (suc now) (slice_index_or t.elements element other)
  element_then element other within = elim (step.elements element other within) [
    | inl steps ↦ stands-stepped (settings_of s.plan element) (moment_at s.plan (signals_by s.plan all) (heard s.plan (signals_by s.plan all) (out_at s.plan (signals_by s.plan all))) element) now steps.changes _ _ steps.stepped (is.elements element other within) (moment_of element steps.changes steps.told)
    | inr stays ↦ left stays now refl
  ]
    where
      left : ElementStays s.plan now events s.kept t.kept element (slice_index_or s.elements element other) (slice_index_or t.elements element other) → (n : ℕ) → now ≡ n →
          ElementStands s.plan (signals_by s.plan all) (out_at s.plan (signals_by s.plan all)) element (suc now) (slice_index_or t.elements element other)
      left stays zero at = absurd (omega (arith, at, stays.not_first))
      left stays (suc u) at =
          subst (ElementStands s.plan (signals_by s.plan all) (out_at s.plan (signals_by s.plan all)) element (suc now)) (sym stays.same)
          (subst (λ n. ElementStands s.plan (signals_by s.plan all) (out_at s.plan (signals_by s.plan all)) element (suc n) (slice_index_or s.elements element other)) (sym at)
          (element-quiet s.plan (signals_by s.plan all) (out_at s.plan (signals_by s.plan all)) element u (slice_index_or s.elements element other)
          (subst (λ n. ElementStands s.plan (signals_by s.plan all) (out_at s.plan (signals_by s.plan all)) element n (slice_index_or s.elements element other)) at (is.elements element other within))
          (news_none element u at stays.told)
          (subst (λ n. IfSome (slice_index_or s.elements element other).due (λ due. suc n ≤ due)) at (later-due now (slice_index_or s.elements element other).due stays.not_due))))

  -- where a line is left its sender sends what it sent
  sends_same : (line u : ℕ) (other : ElementState) → now ≡ suc u → line < line_count s.plan →
      (IsSteady now (slice_index_or s.elements (sender_of s.plan line) other) (slice_index_or t.elements (sender_of s.plan line) other)
      ⊎ ElementStays s.plan now events s.kept t.kept (sender_of s.plan line) (slice_index_or s.elements (sender_of s.plan line) other) (slice_index_or t.elements (sender_of s.plan line) other)) →
      out_at s.plan (signals_by s.plan all) line (suc u) ≡ out_at s.plan (signals_by s.plan all) line u
  sends_same line u other at within how = elim how [
    | inl steady ↦ steady-sends s.plan (signals_by s.plan all) line u _ _ well
        (subst (λ n. ElementStands s.plan (signals_by s.plan all) (out_at s.plan (signals_by s.plan all)) (sender_of s.plan line) n (slice_index_or s.elements (sender_of s.plan line) other)) at (is.elements (sender_of s.plan line) other sender))
        (subst (λ n. ElementStands s.plan (signals_by s.plan all) (out_at s.plan (signals_by s.plan all)) (sender_of s.plan line) (suc n) (slice_index_or t.elements (sender_of s.plan line) other)) at (element_then (sender_of s.plan line) other sender))
        (subst (λ n. IsSteady n (slice_index_or s.elements (sender_of s.plan line) other) (slice_index_or t.elements (sender_of s.plan line) other)) at steady)
    | inr stays ↦ element-sends s.plan (signals_by s.plan all) (out_at s.plan (signals_by s.plan all)) (sender_of s.plan line) u line (slice_index_or s.elements (sender_of s.plan line) other)
        (sound.elements (sender_of s.plan line) other sender)
        (subst (λ n. ElementStands s.plan (signals_by s.plan all) (out_at s.plan (signals_by s.plan all)) (sender_of s.plan line) n (slice_index_or s.elements (sender_of s.plan line) other)) at (is.elements (sender_of s.plan line) other sender))
        (news_none (sender_of s.plan line) u at stays.told)
        (subst (λ n. IfSome (slice_index_or s.elements (sender_of s.plan line) other).due (λ due. suc n ≤ due)) at (later-due now (slice_index_or s.elements (sender_of s.plan line) other).due stays.not_due))
        refl within (obeys-well s.plan (signals_by s.plan all) well)
  ]
    where
      sender : sender_of s.plan line < length s.plan.elements
      sender = sender-within s.plan well line within

  line_from : (line : ℕ) (state : LineState) → (within : line < line_count s.plan) → (has : line_in s.lines line ≡ Some state) →
      LineStands s.plan (signals_by s.plan all) (out_at s.plan (signals_by s.plan all)) line (suc now) (step.lines line state within has).after
  line_from line state within has = by ((step.lines line state within has).how (some_element s.plan))
    where
      after : LineState
      after = (step.lines line state within has).after

      nominated : IsNominated s.plan line
      nominated = (sound_line line state within has).nominated

      given : (level : Level) → IsLevelSent s.plan line (slice_index_or t.elements (sender_of s.plan line) (some_element s.plan)) level → level ≡ out_at s.plan (signals_by s.plan all) line now
      given level sent = level-sent s.plan (signals_by s.plan all) line now _ level well (element_then (sender_of s.plan line) (some_element s.plan) (sender-within s.plan well line within)) sent

      before_at : (n : ℕ) → now ≡ n → LineStands s.plan (signals_by s.plan all) (out_at s.plan (signals_by s.plan all)) line n state
      before_at n at = subst (λ m. LineStands s.plan (signals_by s.plan all) (out_at s.plan (signals_by s.plan all)) line m state) at (line_before line state within has)

      said_then : LineIsSaid s.plan now s.kept t.kept line (slice_index_or t.elements (sender_of s.plan line) (some_element s.plan)) state after → (n : ℕ) → now ≡ n →
          LineStands s.plan (signals_by s.plan all) (out_at s.plan (signals_by s.plan all)) line (suc now) after
      said_then said zero at = absurd (omega (arith, at, said.keeps.not_first))
      said_then said (suc u) at =
          subst (λ n. LineStands s.plan (signals_by s.plan all) (out_at s.plan (signals_by s.plan all)) line (suc n) after) (sym at)
          (said-stands s.plan (signals_by s.plan all) (out_at s.plan (signals_by s.plan all)) line u said.level state after (before_at (suc u) at)
          (subst (λ n. IsLineSaid n said.level state after) at said.said)
          (up_kept line u at nominated said.keeps.signal) (esmc_kept line u at nominated said.keeps.signal)
          (given said.level said.sent ∙ ap (out_at s.plan (signals_by s.plan all) line) at))

      left_then : LineStays s.plan now events s.kept t.kept line (slice_index_or s.elements (sender_of s.plan line) (some_element s.plan)) (slice_index_or t.elements (sender_of s.plan line) (some_element s.plan)) state after → (n : ℕ) → now ≡ n →
          LineStands s.plan (signals_by s.plan all) (out_at s.plan (signals_by s.plan all)) line (suc now) after
      left_then stays zero at = absurd (omega (arith, at, stays.keeps.not_first))
      left_then stays (suc u) at =
          subst (LineStands s.plan (signals_by s.plan all) (out_at s.plan (signals_by s.plan all)) line (suc now)) (sym stays.same)
          (subst (λ n. LineStands s.plan (signals_by s.plan all) (out_at s.plan (signals_by s.plan all)) line (suc n) state) (sym at)
          (line-quiet s.plan (signals_by s.plan all) (out_at s.plan (signals_by s.plan all)) line u state (before_at (suc u) at)
          (line_moment _ _ _ _ _ _ (up_kept line u at nominated stays.keeps.signal) (esmc_kept line u at nominated stays.keeps.signal) (sends_same line u (some_element s.plan) at within stays.steady))
          (subst (λ n. IfSome state.due (λ due. suc n ≤ due)) at (later-due now state.due stays.keeps.not_due))))

      by : LineIsTold s.plan now t.kept line (slice_index_or t.elements (sender_of s.plan line) (some_element s.plan)) state after
          ⊎ (LineIsSaid s.plan now s.kept t.kept line (slice_index_or t.elements (sender_of s.plan line) (some_element s.plan)) state after
          ⊎ LineStays s.plan now events s.kept t.kept line (slice_index_or s.elements (sender_of s.plan line) (some_element s.plan)) (slice_index_or t.elements (sender_of s.plan line) (some_element s.plan)) state after)
          → LineStands s.plan (signals_by s.plan all) (out_at s.plan (signals_by s.plan all)) line (suc now) after
      by moves = elim moves [
        | inl told ↦ told-stands s.plan (signals_by s.plan all) (out_at s.plan (signals_by s.plan all)) line now (line_signal t.kept line) told.level (heard_on t.kept line) state told.between after
            (line_before line state within has) told.told told.said (up_then line nominated) (esmc_then line nominated) (given told.level told.sent)
        | inr rest ↦ elim rest [ inl said ↦ said_then said now refl | inr stays ↦ left_then stays now refl ]
      ]

  lines_then : (line : ℕ) → line < line_count s.plan → IfSome (line_in t.lines line) (LineStands s.plan (signals_by s.plan all) (out_at s.plan (signals_by s.plan all)) line (suc now))
  lines_then line within = of (line_in s.lines line) refl
    where
      of : (o : Option LineState) → line_in s.lines line ≡ o → IfSome (line_in t.lines line) (LineStands s.plan (signals_by s.plan all) (out_at s.plan (signals_by s.plan all)) line (suc now))
      of None has = subst (λ o. IfSome o (LineStands s.plan (signals_by s.plan all) (out_at s.plan (signals_by s.plan all)) line (suc now))) (sym (step.absent line has)) tt
      of (Some state) has = subst (λ o. IfSome o (LineStands s.plan (signals_by s.plan all) (out_at s.plan (signals_by s.plan all)) line (suc now))) (sym (step.lines line state within has).is) (line_from line state within has)

  -- the network stands for the millisecond of the step
  pub stands_then : IsOfPast t all (suc now)
  stands_then = of-plan t s.plan all (suc now) step.plan (λ none. absurd (omega (arith, step.next, none))) (omega (arith, step.next)) element_then lines_then signals_then heards_then
