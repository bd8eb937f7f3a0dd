-- What stays in milliseconds in which nothing is told.
use Rattle.std.proofs.Common.{◌≡◌, ◌<◌, ℕ, Bool, true, false, ◌||◌, List, [], ◌∷◌, map, length, Option, None, Some, IfSome, refl, ap, sym, ◌∙◌, zero-add, subst}
use Rattle.std.specs.Prelude.{slice_index, unwrap_or, option_and_then, is_some, if◌then◌else◌}
use Rattle.std.specs.List.{range_with_len}
use Rattle.std.proofs.lemmas.List.{same_lists}
use Rattle.std.proofs.lemmas.List.FromFn.{length-map-range_with_len, get_or-map-range_with_len}
use Rattle.sync_ql.specs.declared.levels.Level.{Level}
use Rattle.sync_ql.specs.declared.rules.Candidate.{Candidate}
use Rattle.sync_ql.specs.declared.rules.InputEvent.{InputEvent}
use Rattle.sync_ql.specs.Condition.{failed_at}
use Rattle.sync_ql.specs.Switches.{Switches, after_commands}
use Rattle.sync_ql.specs.Selection.{choice, standing_manual}
use Rattle.sync_ql.specs.Moment.{Moment, Settings, input_of, signals_of, level_now, usable_at, candidates_at, at_end, switches_at, selection_at}
use Rattle.sync_ql.specs.Told.{input_after, moment_after, quiet_moment}
use Rattle.sync_ql.specs.Output.{goes_back, clock_level_at, sent_back_at, mode_of, mode_at, was_locked, state_of, state_at}
use Rattle.sync_ql.specs.Level.{do_not_use_of}
use Rattle.sync_ql.specs.Quiet.{IsSameFailed, IsSameOutput}
use Rattle.sync_ql.proofs.Choices.{standing_manual-again, choice-again, choice-within}

-- two functions that agree below n give one list
pub map-range_same : {X : Type 0} (f g : ℕ → X) (n : ℕ) → ((i : ℕ) → i < n → f i ≡ g i) → map f (range_with_len 0 n) ≡ map g (range_with_len 0 n)
map-range_same f g n same =
    same_lists (map f (range_with_len 0 n)) (map g (range_with_len 0 n))
    (length-map-range_with_len f 0 n ∙ sym (length-map-range_with_len g 0 n))
    (λ i d within.
    let below : i < n = rw (length-map-range_with_len f 0 n) at within in
    get_or-map-range_with_len f 0 n i i d below (zero-add i) ∙ same i below ∙ sym (get_or-map-range_with_len g 0 n i i d below (zero-add i)))

-- the inputs of a millisecond are those that are told
pub input_of-moment_after : (settings : Settings) (past : List Moment) (events : List InputEvent) (i : ℕ) → i < length settings.priorities → input_of i (moment_after settings past events) ≡ input_after settings past events i
unfolding moment_after
input_of-moment_after settings past events i within =
    get_or-map-range_with_len (input_after settings past events) 0 (length settings.priorities) i i (record { signal = record { up = true; clear = false }; level = None }) within (zero-add i)

-- what the choice sees in one input
abbrev pub seen : Settings → Switches → List Moment → ℕ → Candidate
seen settings s past i = record { level = level_now i past; priority = slice_index settings.priorities i; usable = usable_at settings s past i }

seen_same : (settings : Settings) (s t : Switches) (past past_then : List Moment) (i : ℕ) → t.locked ≡ s.locked → level_now i past_then ≡ level_now i past → failed_at settings.timers (signals_of i past_then) ≡ failed_at settings.timers (signals_of i past) →
    seen settings t past_then i ≡ seen settings s past i
seen_same settings s t past past_then i locked level failed = rw (locked, level, failed) refl

-- where pasts agree on levels, failures and lockouts, the choice sees the same
pub candidates_at-same : (settings : Settings) (s t : Switches) (past past_then : List Moment) → t.locked ≡ s.locked → ((i : ℕ) → i < length settings.priorities → level_now i past_then ≡ level_now i past) → IsSameFailed settings past past_then →
    candidates_at settings t past_then ≡ candidates_at settings s past
candidates_at-same settings s t past past_then locked levels failed =
    map-range_same (seen settings t past_then) (seen settings s past) (length settings.priorities)
    (λ i within. seen_same settings s t past past_then i locked (levels i within) (failed i within))

-- in a quiet millisecond each input has the level that it had
pub level_now-quiet : (settings : Settings) (now : Moment) (before : List Moment) (i : ℕ) → i < length settings.priorities → level_now i (quiet_moment settings (now ∷ before) ∷ now ∷ before) ≡ level_now i (now ∷ before)
level_now-quiet settings now before i within = ap (λ input. input.level) (input_of-moment_after settings (now ∷ before) [] i within)

-- the switches as the commands left them, and what the choice then sees
abbrev pub commanded : Settings → Moment → List Moment → Switches
commanded settings now before = after_commands (switches_at settings before) now.commands

abbrev pub seen_at : Settings → Moment → List Moment → List Candidate
seen_at settings now before = candidates_at settings (commanded settings now before) (now ∷ before)

pub switches_at-cons : (settings : Settings) (now : Moment) (before : List Moment) → switches_at settings (now ∷ before) ≡ at_end (seen_at settings now before) (commanded settings now before)
unfolding switches_at
switches_at-cons settings now before = refl

pub selection_at-cons : (settings : Settings) (now : Moment) (before : List Moment) → selection_at settings (now ∷ before) ≡ choice (candidates_at settings (switches_at settings (now ∷ before)) (now ∷ before)) (switches_at settings (now ∷ before)).forced (switches_at settings (now ∷ before)).manual (selection_at settings before)
unfolding selection_at
selection_at-cons settings now before = refl

commanded-quiet : (settings : Settings) (past : List Moment) → commanded settings (quiet_moment settings past) past ≡ switches_at settings past
unfolding moment_after
commanded-quiet settings past = refl

-- where no input's "failed" changes, the choice sees in a quiet millisecond what it saw before
seen-quiet : (settings : Settings) (s : Switches) (now : Moment) (before : List Moment) → s.locked ≡ (commanded settings now before).locked → IsSameFailed settings (now ∷ before) (quiet_moment settings (now ∷ before) ∷ now ∷ before) →
    candidates_at settings s (quiet_moment settings (now ∷ before) ∷ now ∷ before) ≡ seen_at settings now before
seen-quiet settings s now before locked failed =
    candidates_at-same settings (commanded settings now before) s (now ∷ before) (quiet_moment settings (now ∷ before) ∷ now ∷ before) locked (level_now-quiet settings now before) failed

pub at_end-again : (inputs : List Candidate) (s : Switches) → at_end inputs (at_end inputs s) ≡ at_end inputs s
at_end-again inputs s = ap (λ manual. record { locked = s.locked; forced = s.forced; manual = manual }) (standing_manual-again inputs s.manual)

-- the switches stay
pub switches_at-quiet : (settings : Settings) (now : Moment) (before : List Moment) → IsSameFailed settings (now ∷ before) (quiet_moment settings (now ∷ before) ∷ now ∷ before) →
    switches_at settings (quiet_moment settings (now ∷ before) ∷ now ∷ before) ≡ switches_at settings (now ∷ before)
switches_at-quiet settings now before failed =
    let past : List Moment = now ∷ before in
    let quiet : Moment = quiet_moment settings past in
    let stands : switches_at settings past ≡ at_end (seen_at settings now before) (commanded settings now before) = switches_at-cons settings now before in
    let locked : (switches_at settings past).locked ≡ (commanded settings now before).locked = ap (λ s. s.locked) stands in
    switches_at-cons settings quiet past
    ∙ ap (λ s. at_end (candidates_at settings s (quiet ∷ past)) s) (commanded-quiet settings past)
    ∙ ap (λ inputs. at_end inputs (switches_at settings past)) (seen-quiet settings (switches_at settings past) now before locked failed)
    ∙ ap (at_end (seen_at settings now before)) stands
    ∙ at_end-again (seen_at settings now before) (commanded settings now before)
    ∙ sym stands

-- and so does the selection
pub selection_at-quiet : (settings : Settings) (now : Moment) (before : List Moment) → IsSameFailed settings (now ∷ before) (quiet_moment settings (now ∷ before) ∷ now ∷ before) →
    selection_at settings (quiet_moment settings (now ∷ before) ∷ now ∷ before) ≡ selection_at settings (now ∷ before)
selection_at-quiet settings now before failed =
    let past : List Moment = now ∷ before in
    let quiet : Moment = quiet_moment settings past in
    let s : Switches = switches_at settings past in
    let inputs : List Candidate = candidates_at settings s past in
    let same : candidates_at settings s (quiet ∷ past) ≡ inputs = candidates_at-same settings s s past (quiet ∷ past) refl (level_now-quiet settings now before) failed in
    let chosen : selection_at settings past ≡ choice inputs s.forced s.manual (selection_at settings before) = selection_at-cons settings now before in
    selection_at-cons settings quiet past
    ∙ ap (λ t. choice (candidates_at settings t (quiet ∷ past)) t.forced t.manual (selection_at settings past)) (switches_at-quiet settings now before failed)
    ∙ ap (λ c. choice c s.forced s.manual (selection_at settings past)) same
    ∙ ap (choice inputs s.forced s.manual) chosen
    ∙ choice-again inputs s.forced s.manual (selection_at settings before)
    ∙ sym chosen

pub or-again : (b c : Bool) → (b || (b || c)) ≡ (b || c)
or-again true c = refl
or-again false c = refl

-- whether there was a selection stays too
pub was_locked-quiet : (settings : Settings) (now : Moment) (before : List Moment) → IsSameFailed settings (now ∷ before) (quiet_moment settings (now ∷ before) ∷ now ∷ before) →
    was_locked settings (quiet_moment settings (now ∷ before) ∷ now ∷ before) ≡ was_locked settings (now ∷ before)
was_locked-quiet settings now before failed =
    ap (λ selection. is_some selection || was_locked settings (now ∷ before)) (selection_at-quiet settings now before failed)
    ∙ or-again (is_some (selection_at settings (now ∷ before))) (was_locked settings before)

-- the input that is taken is one of the inputs
pub selection_at-within : (settings : Settings) (now : Moment) (before : List Moment) → IfSome (selection_at settings (now ∷ before)) (λ i. i < length settings.priorities)
selection_at-within settings now before =
    let s : Switches = commanded settings now before in
    let inputs : List Candidate = seen_at settings now before in
    let count : length inputs ≡ length settings.priorities = length-map-range_with_len (seen settings s (now ∷ before)) 0 (length settings.priorities) in
    let chosen : selection_at settings (now ∷ before) ≡ choice inputs s.forced (standing_manual inputs s.manual) (selection_at settings before) =
    selection_at-cons settings now before
    ∙ ap (λ t. choice (candidates_at settings t (now ∷ before)) t.forced t.manual (selection_at settings before)) (switches_at-cons settings now before) in
    subst (λ n. IfSome (selection_at settings (now ∷ before)) (λ i. i < n)) count
    (subst (λ o. IfSome o (λ i. i < length inputs)) (sym chosen) (choice-within inputs s.forced s.manual (selection_at settings before)))

pub level_of_taken : (own : Level) (taken : Option ℕ) (levels levels_then : ℕ → Option Level) (n : ℕ) → IfSome taken (λ i. i < n) → ((i : ℕ) → i < n → levels_then i ≡ levels i) → unwrap_or (option_and_then levels_then taken) own ≡ unwrap_or (option_and_then levels taken) own
level_of_taken own None levels levels_then n within same = refl
level_of_taken own (Some i) levels levels_then n within same = ap (λ level. unwrap_or level own) (same i within)

-- where nothing is told and no input's "failed" changes, the element gives the same
pub IsSameOutput-quiet : (settings : Settings) (now : Moment) (before : List Moment) → IsSameFailed settings (now ∷ before) (quiet_moment settings (now ∷ before) ∷ now ∷ before) →
    IsSameOutput settings (now ∷ before) (quiet_moment settings (now ∷ before) ∷ now ∷ before)
unfolding clock_level_at sent_back_at mode_at state_at
IsSameOutput-quiet settings now before failed =
    let past : List Moment = now ∷ before in
    let after : List Moment = quiet_moment settings past ∷ past in
    let selection : selection_at settings after ≡ selection_at settings past = selection_at-quiet settings now before failed in
    let level : clock_level_at settings after ≡ clock_level_at settings past =
    ap (λ taken. unwrap_or (option_and_then (λ i. level_now i after) taken) settings.own) selection
    ∙ level_of_taken settings.own (selection_at settings past) (λ i. level_now i past) (λ i. level_now i after) (length settings.priorities) (selection_at-within settings now before) (level_now-quiet settings now before) in
    record {
      selection = selection;
      level = level;
      sent_back = λ i.
          ap (λ taken. if goes_back settings taken i then do_not_use_of settings.own.option else clock_level_at settings after) selection
          ∙ ap (λ l. if goes_back settings (selection_at settings past) i then do_not_use_of settings.own.option else l) level;
      mode = ap (λ s. mode_of s.forced s.manual) (switches_at-quiet settings now before failed);
      state =
          ap (λ taken. state_of taken (was_locked settings after)) selection
          ∙ ap (state_of (selection_at settings past)) (was_locked-quiet settings now before failed);
    }
