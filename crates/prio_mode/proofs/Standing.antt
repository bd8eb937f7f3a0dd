-- What an element stands for, by what it is told, and what it shows.
use Rattle.std.proofs.Common.{◌≡◌, ◌<◌, ℕ, zero, suc, true, false, List, [], Some, length, slice_get, refl, ap, sym, ◌∙◌}
use Rattle.std.specs.Prelude.{slice_index_or, unwrap_or, if◌then◌else◌}
use Rattle.std.specs.List.{All}
use Rattle.sync_ql.specs.declared.rules.InputEvent.{InputEvent}
use Rattle.sync_ql.specs.declared.rules.InputEvent.TheVariants as tell
use Rattle.sync_ql.specs.Pasts.{past_of}
use Rattle.sync_ql.specs.Condition.{is_up}
use Rattle.sync_ql.specs.Told.{moment_after, FitsElement}
use Rattle.sync_element.specs.ElementState.{ElementState, IsInTime}
use Rattle.sync_element.proofs.ElementSteps.{stands-quiet}
use Rattle.sync_topo.specs.declared.input.InputId.{InputId}
use Rattle.sync_topo.specs.declared.event.Event.{Event}
use Rattle.sync_topo.specs.Topology.{Topology}
use Rattle.sync_topo.specs.Events.{IsInOrder}
use Rattle.sync_topo.specs.Lines.{inputs_of}
use Rattle.net_rules.specs.Signals.{signals_by, events_at, last_word, says_up as says_input_up, up_at}
use Rattle.net_rules.specs.History.{settings_of}
use Rattle.net_rules.specs.Settings.{signal_at}
use Rattle.net_rules.proofs.SettingLaws.{level_until, IsSaid, told-by}
use Rattle.sync_topo.specs.WellFormed.{IsWellFormed}
use Rattle.net_words.specs.Words.{all_words}
use Rattle.net_words.proofs.FitLaws.{all-fit}
use Rattle.net_words.proofs.SplitWords.{word-until, past-up}
use Rattle.net_words.proofs.WordLaws.{all-up, all-level, all-clear, all-commands}
use Rattle.shown_words.proofs.SameLaws.{same-mode, same-state, same-taken}
use Rattle.prio_mode.specs.declared.shown.ShownByPriority.{ShownByPriority}
use Rattle.prio_mode.specs.PriorityAlone.{priority_levels, priority_settings, priority_moment, priority_past}
use Rattle.net_words.specs.NewElements.{one_level, by_priority}
use Rattle.prio_mode.specs.PriorityRows.{shown_after, shows_other, shown_by, row_between, change_row}
use Rattle.prio_mode.specs.private.Running.{Shows, IsOfPast}

-- the one level is what each input had before a millisecond
one-before : (plan : Topology) (input : InputId) (n : ℕ) → level_until (by_priority plan) (priority_levels plan) input n ≡ Some (one_level plan.option)
one-before plan input zero = refl
one-before plan input (suc t) = refl

-- what an element is told in a millisecond makes that millisecond of its past
module _ (plan : Topology) (all : List Event) (place t : ℕ) (ordered : IsInOrder all) where
  abbrev words : List InputEvent
  words = all_words plan (events_at t all) place

  input-told : (i : ℕ) (input : InputId) → slice_get (inputs_of plan place) i ≡ Some input
      → IsSaid (by_priority plan) (signals_by plan all) (priority_levels plan) words t i input
  unfolding up_at
  input-told i input at = record {
    up =
        ap (λ o. unwrap_or o (is_up (past_of (signal_at (signals_by plan all) input) t))) (all-up plan place i input at (events_at t all))
        ∙ ap (unwrap_or (last_word (says_input_up input) (events_at t all))) (past-up plan all input t)
        ∙ sym (word-until (says_input_up input) true all (events_at t all) t ordered refl);
    clear = all-clear plan place i input at (events_at t all);
    level =
        ap (λ o. unwrap_or o (level_until (by_priority plan) (priority_levels plan) input t)) (all-level plan place i input at (events_at t all))
        ∙ one-before plan input t;
  }

  pub told-moment : moment_after (priority_settings plan place) (priority_past plan (signals_by plan all) place t) (all_words plan (events_at t all) place)
      ≡ priority_moment plan (signals_by plan all) place t
  unfolding priority_settings priority_moment
  told-moment =
      told-by (by_priority plan) plan (signals_by plan all) (priority_levels plan) place t words input-told
      (all-commands plan place (events_at t all))

-- an element that is told nothing stands a millisecond later
pub quiet-stands : (plan : Topology) (all : List Event) (place n : ℕ) (element : ElementState) → IsInOrder all → IsInTime element (suc n)
    → all_words plan (events_at n all) place ≡ [] → IsOfPast plan all place n element → IsOfPast plan all place (suc n) element
quiet-stands plan all place n element ordered in_time none is =
    stands-quiet (priority_settings plan place) (priority_moment plan (signals_by plan all) place) n element in_time is
    (sym (told-moment plan all place n ordered) ∙ ap (moment_after (priority_settings plan place) (priority_past plan (signals_by plan all) place n)) none)

-- what an element shows is what it shows by its past
pub shown-is : (plan : Topology) (all : List Event) (place n : ℕ) (element : ElementState) (shown : ShownByPriority) → Shows plan place element shown
    → IsOfPast plan all place n element → shown ≡ shown_by plan all place n
shown-is plan all place n element shown shows is =
    shows.shows (priority_past plan (signals_by plan all) place element.next) n is.stands is.in_time
    ∙ ap (λ past. shown_after plan place past) (sym is.quiet)

-- nothing is other than itself
not-other : (shown : ShownByPriority) → shows_other shown shown ≡ false
unfolding shows_other
not-other shown = rw (same-mode shown.mode, same-taken shown.input, same-state shown.state) refl

pub no-row : (plan : Topology) (t place : ℕ) (was shown : ShownByPriority) → was ≡ shown → row_between plan t place was shown ≡ []
no-row plan t place was shown same =
    ap (λ other. row_between plan t place other shown) same ∙ ap (λ b. if b then change_row plan t place shown else []) (not-other shown)

-- words that fit an element by the plan fit it where priority alone counts
fits-same : (plan : Topology) (place : ℕ) (event : InputEvent)
    → FitsElement (settings_of plan place) event → FitsElement (priority_settings plan place) event
unfolding settings_of priority_settings
fits-same plan place (tell.Signal i up) fits = fits
fits-same plan place (tell.Heard i level) fits = fits
fits-same plan place (tell.ClearWtr i) fits = fits
fits-same plan place (tell.Command command) fits = fits

-- so do the words that events of the plan say
pub words-fit : (plan : Topology) (here : List Event) (e : ℕ) → IsWellFormed plan
    → e < length plan.elements
    → All (FitsElement (priority_settings plan e)) (all_words plan here e)
words-fit plan here e well within k d inside =
    fits-same plan e (slice_index_or (all_words plan here e) k d)
    (all-fit plan e well within here k d inside)
