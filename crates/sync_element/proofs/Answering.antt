-- What an element answers from its last step up to but not at its due time.
use Rattle.std.proofs.Common.{◌≡◌, ◌<◌, ◌-◌, ℕ, Bool, true, false, List, [], ◌∷◌, length, Option, None, Some, refl, ap, sym, ◌∙◌, arith, subst}
use Rattle.std.specs.Prelude.{unwrap_or, option_and_then, if◌then◌else◌}
use Rattle.std.specs.Option.{option_or}
use Rattle.sync_ql.specs.declared.levels.Level.{Level}
use Rattle.sync_ql.specs.Level.{do_not_use_of}
use Rattle.sync_ql.specs.Selection.{candidate}
use Rattle.sync_ql.specs.Switches.{is_locked}
use Rattle.sync_ql.specs.Moment.{Moment, Settings, level_now, switches_at, selection_at}
use Rattle.sync_ql.specs.declared.levels.NetOption.{NetOption}
use Rattle.sync_ql.specs.Told.{last_level, moments_until, IsOfOption}
use Rattle.sync_ql.specs.Output.{goes_back, clock_level_at, sent_back_at, mode_of, mode_at, switched_at, state_of, state_at}
use Rattle.std.proofs.Math.Decide.{dec_lt}
use Rattle.std.proofs.lemmas.List.{get_or_past}
use Rattle.sync_ql.proofs.Eligible.{nobody}
use Rattle.sync_element.specs.ElementState.{ElementState, inputs_of, IsInTime}
use Rattle.sync_element.specs.private.Whole.{watched_of, level_of, level_back_of, IsWhole}
use Rattle.sync_element.specs.StandsFor.{IsAfter}
use Rattle.sync_ql.proofs.QuietMoments.{selection_at-within, level_of_taken}
use Rattle.sync_ql.proofs.DoNotUse.{do_not_use-option}
use Rattle.sync_ql.proofs.Staying.{length-quiet_moments, last_level-quiet_moments}
use Rattle.sync_element.proofs.Waiting.{stays_until}

pub selected_until : (e : ElementState) → IsWhole e → (past : List Moment) (n : ℕ) → IsAfter e past → IsInTime e n → e.kept.selection ≡ selection_at e.settings (moments_until e.settings n past)
selected_until e whole past n stands in_time = stands.kept.selection ∙ sym (stays_until e past n whole stands in_time).selection

-- the choice sees an input's level as it is
pub seen_level : (e : ElementState) → IsWhole e → (i : ℕ) → i < inputs_of e → (candidate e.kept.inputs.candidates i).level ≡ (watched_of e i).level
seen_level e whole i within = ap (λ c. c.level) (whole.at_rest i within).candidate_is

-- the level at the last step
level_last : (e : ElementState) (past : List Moment) → IsWhole e → IsAfter e past → level_of e ≡ clock_level_at e.settings past
unfolding clock_level_at selection_at
level_last e [] whole stands = ap (λ taken. unwrap_or (option_and_then (λ i. (candidate e.kept.inputs.candidates i).level) taken) e.settings.own) stands.kept.selection
level_last e (now ∷ before) whole stands =
    ap (λ taken. unwrap_or (option_and_then (λ i. (candidate e.kept.inputs.candidates i).level) taken) e.settings.own) stands.kept.selection
    ∙ level_of_taken e.settings.own (selection_at e.settings (now ∷ before)) (λ i. level_now i (now ∷ before)) (λ i. (candidate e.kept.inputs.candidates i).level) (inputs_of e) (selection_at-within e.settings now before) (λ i within. seen_level e whole i within ∙ stands.kept.levels i within)

pub level_until : (e : ElementState) → IsWhole e → (past : List Moment) (n : ℕ) → IsAfter e past → IsInTime e n → level_of e ≡ clock_level_at e.settings (moments_until e.settings n past)
level_until e whole past n stands in_time = level_last e past whole stands ∙ sym (stays_until e past n whole stands in_time).output.level

-- every level is of the element's option
taken_option : (option : NetOption) (own : Level) (levels : ℕ → Option Level) (taken : Option ℕ) → own.option ≡ option → ((i : ℕ) → IsOfOption option (levels i)) → (unwrap_or (option_and_then levels taken) own).option ≡ option
taken_option option own levels None is all = is
taken_option option own levels (Some i) is all = of (levels i) (all i)
  where
    of : (o : Option Level) → IsOfOption option o → (unwrap_or o own).option ≡ option
    of None any = is
    of (Some level) same = same

pub candidate_option : (e : ElementState) → IsWhole e → (i : ℕ) → IsOfOption e.settings.own.option (candidate e.kept.inputs.candidates i).level
candidate_option e whole i =
    elim (dec_lt i (inputs_of e)) [
      | yes within ↦ subst (IsOfOption e.settings.own.option) (sym (seen_level e whole i within)) (whole.option i)
      | no beyond ↦ subst (λ c. IsOfOption e.settings.own.option c.level) (sym (get_or_past e.kept.inputs.candidates i nobody (omega (arith, whole.candidates_length)))) tt
    ]

pub level_option : (e : ElementState) → IsWhole e → (level_of e).option ≡ e.settings.own.option
level_option e whole = taken_option e.settings.own.option e.settings.own (λ i. (candidate e.kept.inputs.candidates i).level) e.kept.selection refl (candidate_option e whole)

pub level_back_option : (e : ElementState) → IsWhole e → (i : ℕ) → (level_back_of e i).option ≡ e.settings.own.option
level_back_option e whole i = of (goes_back e.settings e.kept.selection i)
  where
    of : (b : Bool) → (if b then do_not_use_of e.settings.own.option else level_of e).option ≡ e.settings.own.option
    of true = do_not_use-option e.settings.own.option
    of false = level_option e whole

pub level_back_until : (e : ElementState) → IsWhole e → (i : ℕ) (past : List Moment) (n : ℕ) → IsAfter e past → IsInTime e n → level_back_of e i ≡ sent_back_at e.settings (moments_until e.settings n past) i
unfolding sent_back_at
level_back_until e whole i past n stands in_time =
    ap (λ taken. if goes_back e.settings taken i then do_not_use_of e.settings.own.option else level_of e) (selected_until e whole past n stands in_time)
    ∙ ap (λ level. if goes_back e.settings (selection_at e.settings (moments_until e.settings n past)) i then do_not_use_of e.settings.own.option else level) (level_until e whole past n stands in_time)

pub mode_until : (e : ElementState) → IsWhole e → (past : List Moment) (n : ℕ) → IsAfter e past → IsInTime e n → mode_of e.kept.switches.forced e.kept.switches.manual ≡ mode_at e.settings (moments_until e.settings n past)
unfolding mode_at
mode_until e whole past n stands in_time =
    ap (λ s. mode_of s.forced s.manual) (stands.kept.switches ∙ sym (stays_until e past n whole stands in_time).switches)

pub locked_until : (e : ElementState) → IsWhole e → (i : ℕ) (past : List Moment) (n : ℕ) → IsAfter e past → IsInTime e n → is_locked e.kept.switches i ≡ is_locked (switches_at e.settings (moments_until e.settings n past)) i
locked_until e whole i past n stands in_time =
    ap (λ s. is_locked s i) (stands.kept.switches ∙ sym (stays_until e past n whole stands in_time).switches)

pub switched_until : (e : ElementState) → IsWhole e → (past : List Moment) (n : ℕ) → IsAfter e past → IsInTime e n → option_or e.kept.switches.forced e.kept.switches.manual ≡ switched_at e.settings (moments_until e.settings n past)
unfolding switched_at
switched_until e whole past n stands in_time =
    ap (λ s. option_or s.forced s.manual) (stands.kept.switches ∙ sym (stays_until e past n whole stands in_time).switches)

-- the level of an input at the last step, and up to the due time
level_last_of : (settings : Settings) (i : ℕ) (past : List Moment) → 0 < length past → last_level settings i past ≡ level_now i past
level_last_of settings i [] some = absurd (omega (arith, some))
level_last_of settings i (now ∷ before) some = refl

pub input_level_until : (e : ElementState) → IsWhole e → (i : ℕ) → i < inputs_of e → (past : List Moment) (n : ℕ) → IsAfter e past → IsInTime e n → 0 < n
    → (watched_of e i).level ≡ level_now i (moments_until e.settings n past)
input_level_until e whole i within past n stands in_time later =
    stands.kept.levels i within
    ∙ sym (last_level-quiet_moments e.settings i (n - length past) past within)
    ∙ level_last_of e.settings i (moments_until e.settings n past) (omega (arith, length-quiet_moments e.settings (n - length past) past, in_time.later, stands.next, later))

pub state_until : (e : ElementState) → IsWhole e → (past : List Moment) (n : ℕ) → IsAfter e past → IsInTime e n → state_of e.kept.selection e.kept.was_locked ≡ state_at e.settings (moments_until e.settings n past)
unfolding state_at
state_until e whole past n stands in_time =
    let stays = stays_until e past n whole stands in_time in
    ap (λ taken. state_of taken e.kept.was_locked) (stands.kept.selection ∙ sym stays.selection)
    ∙ ap (state_of (selection_at e.settings (moments_until e.settings n past))) (stands.kept.was_locked ∙ sym stays.was_locked)
