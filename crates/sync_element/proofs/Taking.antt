-- A step makes the past that an element stands for longer.
use Rattle.std.proofs.Common.{◌≡◌, ◌≤◌, ◌<◌, ℕ, ◌+◌, ◌-◌, inl, inr, Bool, true, false, not, ◌&&◌, ◌||◌, List, [], ◌∷◌, length, All, Option, None, Some, IfSome, refl, ap, sym, ◌∙◌, arith, subst, nat_eq}
use Rattle.std.specs.Prelude.{slice_index, unwrap_or, is_some, if◌then◌else◌, MatchOption}
use Rattle.std.specs.List.{list_any}
use Rattle.std.proofs.lemmas.List.Elements.{All-head, All-tail}
use Rattle.std.proofs.lemmas.Bool.Decides.{nat_tests}
use Rattle.sync_text.proofs.Options.{unwrap_or-option_or}
use Rattle.sync_ql.specs.declared.levels.NetOption.{NetOption}
use Rattle.sync_ql.specs.declared.levels.Level.{Level}
use Rattle.sync_ql.specs.declared.rules.Candidate.{Candidate}
use Rattle.sync_ql.specs.declared.rules.InputEvent.{InputEvent}
use Rattle.sync_ql.specs.declared.rules.InputEvent.TheVariants as event
use Rattle.sync_ql.specs.Condition.{Signal, is_up, failed_at, continued}
use Rattle.sync_ql.specs.Switches.{Switches, after_commands, is_locked}
use Rattle.sync_ql.specs.Selection.{candidate, is_better, choice}
use Rattle.sync_ql.specs.Moment.{Moment, Settings, input_of, signals_of, at_end, switches_at}
use Rattle.sync_ql.specs.Told.{last_said, says_up, says_level, clears, commands_in, moment_after, moments_until, IsOfOption, FitsElement}
use Rattle.sync_ql.proofs.QuietMoments.{input_of-moment_after, seen}
use Rattle.sync_ql.proofs.Staying.{length-signals_of, length-quiet_moments, signals_of-quiet_moments, signals_of-moments_until, is_up-after_quiet, last_level-quiet_moments}
use Rattle.input_monitor.specs.Monitored.{up_of}
use Rattle.sync_ql.specs.declared.limits.TheConstants.{LAST_MILLISECOND}
use Rattle.sync_element.specs.declared.watched.Watched.{Watched}
use Rattle.agenda.specs.DueTimes.{due_in, IsFirstTime}
use Rattle.sync_element.specs.Kept.{InputsKept, watched_in, Follows, dues_of}
use Rattle.sync_element.specs.private.Kept.{HasEnd}
use Rattle.sync_element.specs.ElementState.{ElementState, inputs_of, IsInTime}
use Rattle.sync_element.specs.private.Whole.{watched_of, monitor_of, IsAtRest, IsFirstDue, IsWhole}
use Rattle.sync_element.specs.StandsFor.{IsAfter}
use Rattle.sync_element.specs.private.Telling.{IsToldSoFar}
use Rattle.sync_element.specs.private.Renewing as renewing
use Rattle.sync_element.specs.private.Renewing.{touches, must_step, CanRenew, IsPending, IsDoneAt, AreRenewed, AreTaken, AreKept}
use Rattle.sync_element.proofs.Following.{follows-up, follows-failed}
use Rattle.sync_element.proofs.Renewed.{quiet_is, quiet_back, not_now, done_unstepped}
use Rattle.sync_element.proofs.Untouched.{up-untouched, level-untouched, clear-untouched, locked-untouched}
use Rattle.sync_element.proofs.Evaluating.{candidates_seen, Evaluation, IsEvaluated, switches_evaluated, selection_evaluated, was_locked_evaluated}
use Rattle.sync_element.proofs.Waiting.{stays_until, until_due, length-input}
use Rattle.sync_element.proofs.FirstTimes.{length_dues, due_there}

-- what a step makes on its way: the inputs and switches as they are told, and the inputs after those
-- that are touched are renewed; and what it keeps
pub record Taken : Type 0 where
  pub told : List Watched
  pub commands : Switches
  pub touched : InputsKept
  pub inputs : InputsKept
  pub switches : Switches
  pub selection : Option ℕ
  pub was_locked : Bool
  pub due : Option ℕ
  pub later_steps : ℕ

abbrev pub after : ElementState → ℕ → Taken → ElementState
after e now t = record {
  settings = e.settings;
  next = now + 1;
  due = t.due;
  later_steps = t.later_steps;
  kept = record {
    inputs = t.inputs;
    switches = t.switches;
    selection = t.selection;
    was_locked = t.was_locked;
  };
}

abbrev pub renewal_of : ElementState → ℕ → Taken → renewing.Renewal
renewal_of e now t = record { now = now; switches = t.commands; floor = e.settings.floor }

-- what the parts of a step say of it
pub record IsTaken (e : ElementState) (now : ℕ) (events : List InputEvent) (t : Taken) : Type 0 where
  pub is_told : IsToldSoFar events [] (record { watched = e.kept.inputs.watched; switches = e.kept.switches }) (record { watched = t.told; switches = t.commands })
  pub taken : AreTaken (renewal_of e now t) t.told e.kept.inputs.candidates events [] t.touched
  pub kept : AreKept (renewal_of e now t) t.told e.kept.inputs.candidates t.touched t.inputs
  pub later : (i : ℕ) → i < length t.inputs.watched → IfSome (due_in t.inputs.dues i) (λ due. now < due)
  pub ended : t.switches ≡ at_end t.inputs.candidates t.commands
  pub chosen : t.selection ≡ choice t.inputs.candidates t.switches.forced t.switches.manual e.kept.selection
  pub ever_locked : t.was_locked ≡ (is_some t.selection || e.kept.was_locked)

or-nothing : (a b : Bool) → b ≡ false → (a || b) ≡ a
or-nothing true b none = refl
or-nothing false b none = none

commands_after : (settings : Settings) (past : List Moment) (events : List InputEvent) → (moment_after settings past events).commands ≡ commands_in events
unfolding moment_after
commands_after settings past events = refl

pub same_candidate : (l l_then : Option Level) (p p_then : ℕ) (u u_then : Bool) → l ≡ l_then → p ≡ p_then → u ≡ u_then → ◌≡◌ {A = Candidate} (record { level = l; priority = p; usable = u }) (record { level = l_then; priority = p_then; usable = u_then })
same_candidate l l_then p p_then u u_then level priority usable = rw (level, priority, usable) refl

same_signal : (u u_then c c_then : Bool) → u ≡ u_then → c ≡ c_then → ◌≡◌ {A = Signal} (record { up = u; clear = c }) (record { up = u_then; clear = c_then })
same_signal u u_then c c_then up clear = rw (up, clear) refl

-- the past until the step, and the step's millisecond
abbrev pub waited : ElementState → List Moment → ℕ → List Moment
waited e past now = moments_until e.settings now past

abbrev pub told_now : ElementState → List Moment → ℕ → List InputEvent → Moment
told_now e past now events = moment_after e.settings (moments_until e.settings now past) events

length-waited : (e : ElementState) (past : List Moment) (now : ℕ) → IsAfter e past → IsInTime e now → length (waited e past now) ≡ now
length-waited e past now stands in_time = omega (arith, length-quiet_moments e.settings (now - length past) past, in_time.later, stands.next)

-- before anything is renewed, each input is as it was told
pub all_pending : (e : ElementState) (now : ℕ) (events : List InputEvent) (told : List Watched) (commands : Switches) → IsWhole e → IsToldSoFar events [] (record { watched = e.kept.inputs.watched; switches = e.kept.switches }) (record { watched = told; switches = commands }) →
    AreRenewed (record { now = now; switches = commands; floor = e.settings.floor }) told e.kept.inputs.candidates (record { watched = told; dues = dues_of told; candidates = e.kept.inputs.candidates })
all_pending e now events told commands whole is_told = record {
  watched_length = refl;
  dues_length = length_dues told;
  candidates_length = whole.candidates_length ∙ sym whole.watched_length ∙ sym is_told.count;
  each = λ i within. inr (record {
    watched = refl;
    due_is = due_there told i within;
    candidate_is = refl;
  });
}

-- what is told of an input
up_told : (e : ElementState) (past : List Moment) (now : ℕ) (events : List InputEvent) (t : Taken) → IsWhole e → IsAfter e past → IsTaken e now events t → (i : ℕ) → i < inputs_of e → (watched_in t.told i).up ≡ (input_of i (told_now e past now events)).signal.up
up_told e past now events t whole stands taken i within =
    taken.is_told.is_up i
    ∙ ap (unwrap_or (last_said (says_up i) events)) ((whole.at_rest i within).up ∙ sym (follows-up (monitor_of e i) (signals_of i past) (stands.kept.monitors i within)) ∙ sym (is_up-after_quiet (now - length past) (signals_of i past)) ∙ sym (ap is_up (signals_of-quiet_moments e.settings i (now - length past) past within)))
    ∙ sym (ap (λ input. input.signal.up) (input_of-moment_after e.settings (waited e past now) events i within))

clear_told : (e : ElementState) (past : List Moment) (now : ℕ) (events : List InputEvent) (t : Taken) → IsWhole e → IsTaken e now events t → (i : ℕ) → i < inputs_of e → (watched_in t.told i).cleared ≡ (input_of i (told_now e past now events)).signal.clear
clear_told e past now events t whole taken i within =
    taken.is_told.is_cleared i
    ∙ or-nothing (list_any (clears i) events) (watched_of e i).cleared (whole.at_rest i within).cleared
    ∙ sym (ap (λ input. input.signal.clear) (input_of-moment_after e.settings (waited e past now) events i within))

level_told : (e : ElementState) (past : List Moment) (now : ℕ) (events : List InputEvent) (t : Taken) → IsAfter e past → IsTaken e now events t → (i : ℕ) → i < inputs_of e → (watched_in t.told i).level ≡ (input_of i (told_now e past now events)).level
level_told e past now events t stands taken i within =
    taken.is_told.has_level i
    ∙ ap (unwrap_or (last_said (says_level i) events)) (stands.kept.levels i within ∙ sym (last_level-quiet_moments e.settings i (now - length past) past within))
    ∙ sym (ap (λ input. input.level) (input_of-moment_after e.settings (waited e past now) events i within))

-- an input that no event touches, and whose running time doesn't end, is done
untouched_done : (e : ElementState) (now : ℕ) (events : List InputEvent) (t : Taken) → IsWhole e → IsInTime e now → IsTaken e now events t → (i : ℕ) → i < inputs_of e → list_any (touches i) events ≡ false → IsPending (watched_in t.told i) (candidate e.kept.inputs.candidates i) (watched_in t.inputs.watched i) (due_in t.inputs.dues i) (candidate t.inputs.candidates i) → IfSome (due_in t.inputs.dues i) (λ d. now < d) → IsDoneAt (renewal_of e now t) t.told e.kept.inputs.candidates i t.inputs
untouched_done e now events t whole in_time taken i within none pending later =
    let w = watched_of e i in
    let told = watched_in t.told i in
    let before = candidate e.kept.inputs.candidates i in
    let rest = whole.at_rest i within in
    let same : told.monitor ≡ w.monitor = taken.is_told.same_monitor i in
    let up : told.up ≡ w.up = taken.is_told.is_up i ∙ ap (λ o. unwrap_or o w.up) (up-untouched i events none) in
    let level : told.level ≡ w.level = taken.is_told.has_level i ∙ ap (λ o. unwrap_or o w.level) (level-untouched i events none) in
    let cleared : told.cleared ≡ false = taken.is_told.is_cleared i ∙ ap (λ b. b || w.cleared) (clear-untouched i events none) ∙ rest.cleared in
    let locked : is_locked t.commands i ≡ is_locked e.kept.switches i = ap (λ s. is_locked s i) taken.is_told.switches ∙ locked-untouched i events e.kept.switches none in
    let after_now : IfSome told.monitor.due (λ d. now < d) = subst (λ o. IfSome o (λ d. now < d)) pending.due_is later in
    let still : must_step now told ≡ false = quiet_back now told (record { cleared = cleared; up = up ∙ rest.up ∙ sym (ap (λ m. up_of m.condition) same); not_due = not_now now told.monitor.due after_now }) in
    let next : told.monitor.next ≤ now + 1 = subst (λ m. m.next ≤ now + 1) (sym same) (omega (arith, rest.not_later, in_time.later)) in
    let seen_as : before ≡ renewing.candidate_of (renewal_of e now t) i before.priority told =
    rest.candidate_is
    ∙ same_candidate w.level told.level (slice_index e.settings.priorities i) before.priority (not (is_locked e.kept.switches i) && not w.monitor.failed && not (is_better e.settings.floor w.level)) (not (is_locked t.commands i) && not told.monitor.failed && not (is_better e.settings.floor told.level))
    (sym level) (sym (ap (λ c. c.priority) rest.candidate_is))
    (usable_same (is_locked e.kept.switches i) (is_locked t.commands i) w.monitor.failed told.monitor.failed e.settings.floor w.level told.level (sym locked) (sym (ap (λ m. m.failed) same)) (sym level)) in
    done_unstepped (renewal_of e now t) i told (watched_in t.inputs.watched i) before (candidate t.inputs.candidates i) (due_in t.inputs.dues i) pending still next (subst HasEnd (sym same) rest.ends) after_now seen_as
  where
    usable_same : (locked locked_then failed failed_then : Bool) (floor level level_then : Option Level) → locked ≡ locked_then → failed ≡ failed_then → level ≡ level_then → (not locked && not failed && not (is_better floor level)) ≡ (not locked_then && not failed_then && not (is_better floor level_then))
    usable_same locked locked_then failed failed_then floor level level_then s f l = rw (s, f, l) refl

-- each input is done at the end of the step
pub all_done : (e : ElementState) (now : ℕ) (events : List InputEvent) (t : Taken) → IsWhole e → IsInTime e now → IsTaken e now events t → (i : ℕ) → i < inputs_of e → IsDoneAt (renewal_of e now t) t.told e.kept.inputs.candidates i t.inputs
all_done e now events t whole in_time taken i within =
    let inside : i < length t.told = omega (arith, within, taken.is_told.count, whole.watched_length) in
    elim (taken.kept.renewed.each i inside) [
      | inl done ↦ done
      | inr pending ↦ of inside pending (list_any (touches i) events) refl
    ]
  where
    of : i < length t.told → IsPending (watched_in t.told i) (candidate e.kept.inputs.candidates i) (watched_in t.inputs.watched i) (due_in t.inputs.dues i) (candidate t.inputs.candidates i) → (b : Bool) → list_any (touches i) events ≡ b → IsDoneAt (renewal_of e now t) t.told e.kept.inputs.candidates i t.inputs
    of inside pending true is = elim (taken.taken.touched i inside is) [
      | inl never ↦ absurd (cc)
      | inr done ↦ taken.kept.done i inside done
    ]
    of inside pending false is = untouched_done e now events t whole in_time taken i within is pending (taken.later i (omega (arith, inside, taken.kept.renewed.watched_length)))

-- a monitor follows its input's past
monitor_taken : (e : ElementState) (past : List Moment) (now : ℕ) (events : List InputEvent) (t : Taken) → IsWhole e → IsAfter e past → IsInTime e now → IsTaken e now events t → (i : ℕ) → i < inputs_of e → Follows (watched_in t.inputs.watched i).monitor (signals_of i (told_now e past now events ∷ waited e past now))
monitor_taken e past now events t whole stands in_time taken i within =
    let m = (watched_in t.inputs.watched i).monitor in
    let told = watched_in t.told i in
    let one = all_done e now events t whole in_time taken i within in
    let signal : renewing.signal_of told ≡ (input_of i (told_now e past now events)).signal =
    same_signal told.up (input_of i (told_now e past now events)).signal.up told.cleared (input_of i (told_now e past now events)).signal.clear
    (up_told e past now events t whole stands taken i within) (clear_told e past now events t whole taken i within) in
    let follows : Follows told.monitor (signals_of i past) = subst (λ n. Follows n (signals_of i past)) (sym (taken.is_told.same_monitor i)) (stands.kept.monitors i within) in
    subst (λ rest. Follows m ((input_of i (told_now e past now events)).signal ∷ rest)) (sym (signals_of-moments_until e.settings i now past within))
    (subst (λ s. Follows m (s ∷ continued now (signals_of i past))) signal (one.stands (signals_of i past) (omega (arith, length-input e past i stands, in_time.later)) follows))

timers_taken : (e : ElementState) (now : ℕ) (events : List InputEvent) (t : Taken) → IsWhole e → IsInTime e now → IsTaken e now events t → (i : ℕ) → i < inputs_of e → (watched_in t.inputs.watched i).monitor.timers ≡ e.settings.timers
timers_taken e now events t whole in_time taken i within =
    (all_done e now events t whole in_time taken i within).timers ∙ ap (λ m. m.timers) (taken.is_told.same_monitor i) ∙ (whole.at_rest i within).timers

until_now : (now n : ℕ) (o : Option ℕ) → n ≡ now + 1 → IfSome o (λ d. now < d) → IfSome o (λ d. n ≤ d)
until_now now n None is later = tt
until_now now n (Some due) is later = omega arith

failed_taken : (e : ElementState) (past : List Moment) (now : ℕ) (events : List InputEvent) (t : Taken) → IsWhole e → IsAfter e past → IsInTime e now → IsTaken e now events t → (i : ℕ) → i < inputs_of e → (watched_in t.inputs.watched i).monitor.failed ≡ failed_at e.settings.timers (signals_of i (told_now e past now events ∷ waited e past now))
failed_taken e past now events t whole stands in_time taken i within =
    let m = (watched_in t.inputs.watched i).monitor in
    let all : List Moment = told_now e past now events ∷ waited e past now in
    let long : length (signals_of i all) ≡ now + 1 = omega (arith, length-signals_of i all, length-waited e past now stands in_time) in
    follows-failed m (signals_of i all) (monitor_taken e past now events t whole stands in_time taken i within) (until_now now (length (signals_of i all)) m.due long (all_done e now events t whole in_time taken i within).later)
    ∙ ap (λ timers. failed_at timers (signals_of i all)) (timers_taken e now events t whole in_time taken i within)

priority_taken : (e : ElementState) (now : ℕ) (events : List InputEvent) (t : Taken) → IsWhole e → IsInTime e now → IsTaken e now events t → (i : ℕ) → i < inputs_of e → (candidate e.kept.inputs.candidates i).priority ≡ slice_index e.settings.priorities i
priority_taken e now events t whole in_time taken i within = ap (λ c. c.priority) (whole.at_rest i within).candidate_is

level_taken : (e : ElementState) (past : List Moment) (now : ℕ) (events : List InputEvent) (t : Taken) → IsWhole e → IsAfter e past → IsInTime e now → IsTaken e now events t → (i : ℕ) → i < inputs_of e → (watched_in t.inputs.watched i).level ≡ (input_of i (told_now e past now events)).level
level_taken e past now events t whole stands in_time taken i within =
    (all_done e now events t whole in_time taken i within).level ∙ level_told e past now events t stands taken i within

usable_same : (locked failed failed_then : Bool) (floor level level_then : Option Level) → failed ≡ failed_then → level ≡ level_then → (not locked && not failed && not (is_better floor level)) ≡ (not locked && not failed_then && not (is_better floor level_then))
usable_same locked failed failed_then floor level level_then f l = rw (f, l) refl

candidate_taken : (e : ElementState) (past : List Moment) (now : ℕ) (events : List InputEvent) (t : Taken) → IsWhole e → IsAfter e past → IsInTime e now → IsTaken e now events t → (i : ℕ) → i < inputs_of e → candidate t.inputs.candidates i ≡ seen e.settings t.commands (told_now e past now events ∷ waited e past now) i
candidate_taken e past now events t whole stands in_time taken i within =
    let w = watched_in t.inputs.watched i in
    let d = seen e.settings t.commands (told_now e past now events ∷ waited e past now) i in
    let level = level_taken e past now events t whole stands in_time taken i within in
    (all_done e now events t whole in_time taken i within).candidate_is
    ∙ same_candidate w.level d.level (candidate e.kept.inputs.candidates i).priority d.priority (not (is_locked t.commands i) && not w.monitor.failed && not (is_better e.settings.floor w.level)) d.usable
    level
    (priority_taken e now events t whole in_time taken i within)
    (usable_same (is_locked t.commands i) w.monitor.failed (failed_at e.settings.timers (signals_of i (told_now e past now events ∷ waited e past now))) e.settings.floor w.level (input_of i (told_now e past now events)).level (failed_taken e past now events t whole stands in_time taken i within) level)

count_taken : (e : ElementState) (now : ℕ) (events : List InputEvent) (t : Taken) → IsWhole e → IsTaken e now events t → length t.told ≡ inputs_of e
count_taken e now events t whole taken = taken.is_told.count ∙ whole.watched_length

abbrev evaluation : ElementState → Taken → Evaluation
evaluation e t = record {
  inputs = t.inputs.candidates;
  commands = t.commands;
  switches = t.switches;
  taken = e.kept.selection;
  selection = t.selection;
  was = e.kept.was_locked;
  was_then = t.was_locked;
}

-- what is decided at the end of the step
evaluated : (e : ElementState) (past : List Moment) (now : ℕ) (events : List InputEvent) (t : Taken) → IsWhole e → IsAfter e past → IsInTime e now → IsTaken e now events t → IsEvaluated e.settings (told_now e past now events) (waited e past now) (evaluation e t)
evaluated e past now events t whole stands in_time taken =
    let stays = stays_until e past now whole stands in_time in
    record {
      seen_is = candidates_seen e.settings t.commands (told_now e past now events ∷ waited e past now) t.inputs.candidates (taken.kept.renewed.candidates_length ∙ count_taken e now events t whole taken) (candidate_taken e past now events t whole stands in_time taken);
      commanded_is =
          taken.is_told.switches
          ∙ ap (λ s. after_commands s (commands_in events)) (stands.kept.switches ∙ sym stays.switches)
          ∙ ap (after_commands (switches_at e.settings (waited e past now))) (sym (commands_after e.settings (waited e past now) events));
      ended = taken.ended;
      chosen = taken.chosen;
      taken_is = stands.kept.selection ∙ sym stays.selection;
      was_is = stands.kept.was_locked ∙ sym stays.was_locked;
      ever = taken.ever_locked;
    }

-- a step makes the past longer by its millisecond, and by those before in which nothing is told
pub IsAfter-after : (e : ElementState) (now : ℕ) (events : List InputEvent) (t : Taken) → IsWhole e → IsInTime e now → IsTaken e now events t → (past : List Moment) → IsAfter e past → IsAfter (after e now t) (told_now e past now events ∷ waited e past now)
IsAfter-after e now events t whole in_time taken past stands =
    let is = evaluated e past now events t whole stands in_time taken in
    record {
      next = omega (arith, length-waited e past now stands in_time);
      kept = record {
        monitors = monitor_taken e past now events t whole stands in_time taken;
        levels = level_taken e past now events t whole stands in_time taken;
        switches = switches_evaluated e.settings (told_now e past now events) (waited e past now) (evaluation e t) is;
        selection = selection_evaluated e.settings (told_now e past now events) (waited e past now) (evaluation e t) is;
        was_locked = was_locked_evaluated e.settings (told_now e past now events) (waited e past now) (evaluation e t) is;
      };
    }

-- a level that is told is of the element's option
said_level : (option : NetOption) (settings : Settings) → settings.own.option ≡ option → (i : ℕ) (e : InputEvent) (before : Option Level) → FitsElement settings e → IsOfOption option before → IsOfOption option (unwrap_or (says_level i e) before)
said_level option settings own i (event.Signal k up) before fits is = is
said_level option settings own i (event.ClearWtr k) before fits is = is
said_level option settings own i (event.Command command) before fits is = is
said_level option settings own i (event.Heard k level) before fits is = of (nat_eq k i)
  where
    of : (b : Bool) → IsOfOption option (unwrap_or (if b then Some level else None) before)
    of true = subst (λ o. IsOfOption o level) own fits.1
    of false = is

pub said_levels : (option : NetOption) (settings : Settings) → settings.own.option ≡ option → (i : ℕ) (events : List InputEvent) (before : Option Level) → All (FitsElement settings) events → IsOfOption option before → IsOfOption option (unwrap_or (last_said (says_level i) events) before)
said_levels option settings own i [] before fits is = is
said_levels option settings own i (first ∷ events) before fits is =
    subst (IsOfOption option) (sym (unwrap_or-option_or (last_said (says_level i) events) (says_level i first) before))
    (said_levels option settings own i events (unwrap_or (says_level i first) before) (All-tail (FitsElement settings) first events fits) (said_level option settings own i first before (All-head (FitsElement settings) first events fits) is))

-- the level of each input is of the element's option, as it is told
pub told_option : (e : ElementState) (events : List InputEvent) (told : List Watched) (commands : Switches) → IsWhole e → All (FitsElement e.settings) events → IsToldSoFar events [] (record { watched = e.kept.inputs.watched; switches = e.kept.switches }) (record { watched = told; switches = commands }) → (i : ℕ) → IsOfOption e.settings.own.option (watched_in told i).level
told_option e events told commands whole fits so_far i =
    subst (IsOfOption e.settings.own.option) (sym (so_far.has_level i)) (said_levels e.settings.own.option e.settings refl i events (watched_of e i).level fits (whole.option i))

-- what is told can be renewed
pub can_first : (e : ElementState) (now : ℕ) (events : List InputEvent) (told : List Watched) (commands : Switches) → IsWhole e → IsInTime e now → All (FitsElement e.settings) events → IsToldSoFar events [] (record { watched = e.kept.inputs.watched; switches = e.kept.switches }) (record { watched = told; switches = commands }) →
    ((i : ℕ) → IsOfOption e.settings.own.option (candidate e.kept.inputs.candidates i).level) →
    CanRenew now e.settings.own.option (record { watched = told; dues = dues_of told; candidates = e.kept.inputs.candidates })
can_first e now events told commands whole in_time fits is_told levels = record {
  few = omega (arith, is_told.count, whole.watched_length, whole.few);
  dues_length = length_dues told;
  candidates_length = whole.candidates_length ∙ sym whole.watched_length ∙ sym is_told.count;
  ready = λ i inside must. record { later = next i (place i inside); in_time = until i (place i inside) };
  ends = λ i inside. subst HasEnd (sym (is_told.same_monitor i)) (whole.at_rest i (place i inside)).ends;
  not_later = λ i inside. let before = next i (place i inside) in omega arith;
  in_time = λ i inside. until i (place i inside);
  dues = λ i inside. due_there told i inside;
  levels = told_option e events told commands whole fits is_told;
  candidate_levels = levels;
}
  where
    place : (i : ℕ) → i < length told → i < inputs_of e
    place i inside = omega (arith, inside, is_told.count, whole.watched_length)

    next : (i : ℕ) → i < inputs_of e → (watched_in told i).monitor.next ≤ now
    next i within = subst (λ m. m.next ≤ now) (sym (is_told.same_monitor i)) (omega (arith, (whole.at_rest i within).not_later, in_time.later))

    until : (i : ℕ) → i < inputs_of e → IfSome (watched_in told i).monitor.due (λ d. now ≤ d)
    until i within = subst (λ m. IfSome m.due (λ d. now ≤ d)) (sym (is_told.same_monitor i)) (until_due e now i whole in_time within)

-- what the end of a step adds to its parts
pub record IsTakenWhole (e : ElementState) (now : ℕ) (t : Taken) : Type 0 where
  pub can : CanRenew now e.settings.own.option t.inputs
  pub is_within : IfSome t.selection (λ i. i < length t.inputs.candidates)
  pub is_first : MatchOption t.due ((i : ℕ) → i < length t.inputs.dues → due_in t.inputs.dues i ≡ None) (IsFirstTime t.inputs.dues)
  pub steps_are : t.later_steps ≡ (if nat_eq e.next 0 then 0 else e.later_steps + 1)

at_rest_after : (e : ElementState) (now : ℕ) (events : List InputEvent) (t : Taken) → IsWhole e → IsInTime e now → IsTaken e now events t → (i : ℕ) → i < inputs_of e → IsAtRest e.settings t.switches (now + 1) i (watched_in t.inputs.watched i) (due_in t.inputs.dues i) (candidate t.inputs.candidates i)
at_rest_after e now events t whole in_time taken i within =
    let one = all_done e now events t whole in_time taken i within in
    let w = watched_in t.inputs.watched i in
    record {
      timers = timers_taken e now events t whole in_time taken i within;
      not_later = one.next;
      ends = one.ends;
      up = (quiet_is now w one.settled).up;
      cleared = one.cleared;
      due_is = one.due_is;
      due_later = until_now now (now + 1) w.monitor.due refl one.later;
      candidate_is =
          one.candidate_is
          ∙ ap (λ p. renewing.candidate_of (renewal_of e now t) i p w) (priority_taken e now events t whole in_time taken i within)
          ∙ same_candidate w.level w.level (slice_index e.settings.priorities i) (slice_index e.settings.priorities i) (not (is_locked t.commands i) && not w.monitor.failed && not (is_better e.settings.floor w.level)) (not (is_locked t.switches i) && not w.monitor.failed && not (is_better e.settings.floor w.level)) refl refl
          (ap (λ b. not b && not w.monitor.failed && not (is_better e.settings.floor w.level)) (sym (ap (λ s. is_locked s i) taken.ended)));
    }

-- an element stays whole
pub IsWhole-after : (e : ElementState) (now : ℕ) (events : List InputEvent) (t : Taken) → IsWhole e → IsInTime e now → now ≤ LAST_MILLISECOND → IsTaken e now events t → IsTakenWhole e now t → IsWhole (after e now t)
IsWhole-after e now events t whole in_time in_range taken end =
    let count = count_taken e now events t whole taken in
    record {
      holdoff = whole.holdoff;
      few = whole.few;
      watched_length = taken.kept.renewed.watched_length ∙ count;
      dues_length = dues_count;
      candidates_length = taken.kept.renewed.candidates_length ∙ count;
      locked_length = ap (λ s. length s.locked) taken.ended ∙ taken.is_told.locked_count ∙ whole.locked_length;
      at_rest = at_rest_after e now events t whole in_time taken;
      floor = whole.floor;
      option = end.can.levels;
      selection_within = subst (λ n. IfSome t.selection (λ i. i < n)) (taken.kept.renewed.candidates_length ∙ count) end.is_within;
      first_due = first t.due end.is_first;
      in_range = omega arith;
      steps = steps_fit;
    }
  where
    dues_count : length t.inputs.dues ≡ inputs_of e
    dues_count = taken.kept.renewed.dues_length ∙ count_taken e now events t whole taken

    due_is : (i : ℕ) → i < inputs_of e → due_in t.inputs.dues i ≡ (watched_in t.inputs.watched i).monitor.due
    due_is i within = (all_done e now events t whole in_time taken i within).due_is

    first : (due : Option ℕ) → MatchOption due ((i : ℕ) → i < length t.inputs.dues → due_in t.inputs.dues i ≡ None) (IsFirstTime t.inputs.dues) → IsFirstDue (after e now t) due
    first None none = λ i within. sym (due_is i within) ∙ none i (omega (arith, within, dues_count))
    first (Some due) is = record {
      some = (is.some.0, omega (arith, is.some.1, dues_count), sym (due_is is.some.0 (omega (arith, is.some.1, dues_count))) ∙ is.some.2);
      first = λ i within. subst (λ o. IfSome o (λ other. due ≤ other)) (due_is i within) (is.first i (omega (arith, within, dues_count)));
    }

    steps_fit : t.later_steps ≤ now + 1
    steps_fit = let few = whole.steps in let later = in_time.later in let steps = end.steps_are in grind (arith, nat_tests)
