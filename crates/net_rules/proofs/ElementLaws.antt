-- An element whose inputs are alike, and to which no command is given, gives what it gave.
use Rattle.std.proofs.Common.{◌≡◌, ◌≤◌, ◌<◌, ◌+◌, ◌⊎◌, ℕ, zero, suc, Bool, true, false, not, ◌&&◌, ◌||◌, List, [], ◌∷◌, map, length, Option, None, Some, IfSome, refl, ap, sym, ◌∙◌, inl, inr, arith}
use Rattle.std.specs.Prelude.{unwrap_or, option_and_then, is_some, if◌then◌else◌}
use Rattle.std.specs.List.{range_with_len}
use Rattle.std.proofs.lemmas.Bool.{true≢false}
use Rattle.sync_ql.specs.declared.levels.Level.{Level}
use Rattle.sync_ql.specs.declared.rules.Candidate.{Candidate}
use Rattle.sync_ql.specs.Level.{do_not_use_of}
use Rattle.sync_ql.specs.Condition.{failed_at}
use Rattle.sync_ql.specs.Switches.{Switches, after_commands}
use Rattle.sync_ql.specs.Selection.{choice}
use Rattle.sync_ql.specs.Moment.{Moment, Settings, signals_of, level_now, candidates_at, at_end, switches_at, selection_at}
use Rattle.sync_ql.specs.Output.{goes_back, clock_level_at, sent_back_at, mode_of, mode_at, was_locked, state_of, state_at}
use Rattle.sync_ql.specs.Quiet.{IsSameOutput}
use Rattle.sync_ql.specs.Taken.{MayBeTaken, AreAlike, AllAlike}
use Rattle.sync_ql.proofs.Choices.{choice-again}
use Rattle.sync_ql.proofs.SameChoice.{standing_alike, choice_alike}
use Rattle.sync_ql.proofs.TakenInputs.{taken_may_be_taken}
use Rattle.sync_ql.proofs.QuietMoments.{seen, seen_at, commanded, candidates_at-same, switches_at-cons, selection_at-cons, at_end-again, or-again}

-- an input has one level and is failed or not alike after both pasts, or is failed after both
abbrev pub IsAlikeAfter : Settings → List Moment → List Moment → ℕ → Type 0
IsAlikeAfter settings past past_then i =
    ((level_now i past_then ≡ level_now i past) × (failed_at settings.timers (signals_of i past_then) ≡ failed_at settings.timers (signals_of i past)))
    ⊎ ((failed_at settings.timers (signals_of i past) ≡ true) × (failed_at settings.timers (signals_of i past_then) ≡ true))

abbrev pub AreAllAlikeAfter : Settings → List Moment → List Moment → Type 0
AreAllAlikeAfter settings past past_then = (i : ℕ) → i < length settings.priorities → IsAlikeAfter settings past past_then i

seen_same : (settings : Settings) (s t : Switches) (past past_then : List Moment) (i : ℕ) → t.locked ≡ s.locked → level_now i past_then ≡ level_now i past
    → failed_at settings.timers (signals_of i past_then) ≡ failed_at settings.timers (signals_of i past) → seen settings s past i ≡ seen settings t past_then i
seen_same settings s t past past_then i locked level failed = rw (locked, level, failed) refl

failed_out : (unlocked failed above good : Bool) → failed ≡ true → ((unlocked && not failed && above) && good) ≡ false
failed_out true true above good is = refl
failed_out false failed above good is = refl
failed_out true false above good is = cc

seen_alike : (settings : Settings) (s : Switches) (past past_then : List Moment) (i : ℕ) → IsAlikeAfter settings past past_then i
    → AreAlike (seen settings s past i) (seen settings s past_then i)
seen_alike settings s past past_then i alike = elim alike [
  | inl same ↦ inl (seen_same settings s s past past_then i refl same.0 same.1)
  | inr both ↦ inr (failed_out _ _ _ _ both.0, failed_out _ _ _ _ both.1)
]

range_alike : (f g : ℕ → Candidate) (from n : ℕ) → ((k : ℕ) → from ≤ k → k < from + n → AreAlike (f k) (g k))
    → AllAlike (map f (range_with_len from n)) (map g (range_with_len from n))
range_alike f g from zero alike = tt
range_alike f g from (suc n) alike =
    (alike from (omega arith) (omega arith), range_alike f g (from + 1) n (λ k low high. alike k (omega (arith, low)) (omega (arith, high))))

candidates_alike : (settings : Settings) (s : Switches) (past past_then : List Moment) → AreAllAlikeAfter settings past past_then
    → AllAlike (candidates_at settings s past) (candidates_at settings s past_then)
candidates_alike settings s past past_then alike =
    range_alike (seen settings s past) (seen settings s past_then) 0 (length settings.priorities)
    (λ k low high. seen_alike settings s past past_then k (alike k (omega (arith, high))))

at_end-alike : (inputs others : List Candidate) (s : Switches) → AllAlike inputs others → at_end others s ≡ at_end inputs s
at_end-alike inputs others s alike = ap (λ manual. record { locked = s.locked; forced = s.forced; manual = manual }) (sym (standing_alike inputs others alike s.manual))

pub switches-stay : (settings : Settings) (now next : Moment) (before : List Moment) → next.commands ≡ []
    → AreAllAlikeAfter settings (now ∷ before) (next ∷ now ∷ before)
    → switches_at settings (next ∷ now ∷ before) ≡ switches_at settings (now ∷ before)
switches-stay settings now next before none alike =
    let past : List Moment = now ∷ before in
    let s : Switches = switches_at settings past in
    let stands : s ≡ at_end (seen_at settings now before) (commanded settings now before) = switches_at-cons settings now before in
    let locked : s.locked ≡ (commanded settings now before).locked = ap (λ t. t.locked) stands in
    let same : candidates_at settings s past ≡ seen_at settings now before =
    candidates_at-same settings (commanded settings now before) s past past locked (λ i within. refl) (λ i within. refl) in
    let left : commanded settings next past ≡ s = ap (after_commands s) none in
    switches_at-cons settings next past
    ∙ ap (λ t. at_end (candidates_at settings t (next ∷ past)) t) left
    ∙ at_end-alike (candidates_at settings s past) (candidates_at settings s (next ∷ past)) s (candidates_alike settings s past (next ∷ past) alike)
    ∙ ap (λ inputs. at_end inputs s) same
    ∙ ap (at_end (seen_at settings now before)) stands
    ∙ at_end-again (seen_at settings now before) (commanded settings now before)
    ∙ sym stands

pub selection-stays : (settings : Settings) (now next : Moment) (before : List Moment) → next.commands ≡ []
    → AreAllAlikeAfter settings (now ∷ before) (next ∷ now ∷ before)
    → selection_at settings (next ∷ now ∷ before) ≡ selection_at settings (now ∷ before)
selection-stays settings now next before none alike =
    let past : List Moment = now ∷ before in
    let s : Switches = switches_at settings past in
    let chosen : selection_at settings past ≡ choice (candidates_at settings s past) s.forced s.manual (selection_at settings before) = selection_at-cons settings now before in
    selection_at-cons settings next past
    ∙ ap (λ t. choice (candidates_at settings t (next ∷ past)) t.forced t.manual (selection_at settings past)) (switches-stay settings now next before none alike)
    ∙ sym (choice_alike (candidates_at settings s past) (candidates_at settings s (next ∷ past)) (candidates_alike settings s past (next ∷ past) alike) s.forced s.manual (selection_at settings past))
    ∙ ap (choice (candidates_at settings s past) s.forced s.manual) chosen
    ∙ choice-again (candidates_at settings s past) s.forced s.manual (selection_at settings before)
    ∙ sym chosen

pub if_some : {A : Type 0} (P Q : A → Type 0) (o : Option A) → ((x : A) → P x → Q x) → IfSome o P → IfSome o Q
if_some P Q None f some = tt
if_some P Q (Some x) f some = f x some

level_same : (own : Level) (taken : Option ℕ) (levels levels_then : ℕ → Option Level) → IfSome taken (λ i. levels_then i ≡ levels i)
    → unwrap_or (option_and_then levels_then taken) own ≡ unwrap_or (option_and_then levels taken) own
level_same own None levels levels_then same = refl
level_same own (Some i) levels levels_then same = ap (λ level. unwrap_or level own) same

was_locked-stays : (settings : Settings) (now next : Moment) (before : List Moment) → selection_at settings (next ∷ now ∷ before) ≡ selection_at settings (now ∷ before)
    → was_locked settings (next ∷ now ∷ before) ≡ was_locked settings (now ∷ before)
was_locked-stays settings now next before same =
    ap (λ selection. is_some selection || was_locked settings (now ∷ before)) same
    ∙ or-again (is_some (selection_at settings (now ∷ before))) (was_locked settings before)

-- the input that is taken has the level that it had
taken_level : (settings : Settings) (past past_then : List Moment) → AreAllAlikeAfter settings past past_then
    → (i : ℕ) → MayBeTaken settings past i → level_now i past_then ≡ level_now i past
taken_level settings past past_then alike i may = elim (alike i may.within) [
  | inl same ↦ same.0
  | inr both ↦ absurd (true≢false (sym both.0 ∙ may.not_failed))
]

pub output-stays : (settings : Settings) (now next : Moment) (before : List Moment) → next.commands ≡ []
    → AreAllAlikeAfter settings (now ∷ before) (next ∷ now ∷ before)
    → IsSameOutput settings (now ∷ before) (next ∷ now ∷ before)
unfolding clock_level_at sent_back_at mode_at state_at
output-stays settings now next before none alike =
    let past : List Moment = now ∷ before in
    let after : List Moment = next ∷ past in
    let selection : selection_at settings after ≡ selection_at settings past = selection-stays settings now next before none alike in
    let levels : IfSome (selection_at settings past) (λ i. level_now i after ≡ level_now i past) =
    if_some (MayBeTaken settings past) (λ i. level_now i after ≡ level_now i past) (selection_at settings past)
    (taken_level settings past after alike) (taken_may_be_taken settings now before) in
    let level : clock_level_at settings after ≡ clock_level_at settings past =
    ap (λ taken. unwrap_or (option_and_then (λ i. level_now i after) taken) settings.own) selection
    ∙ level_same settings.own (selection_at settings past) (λ i. level_now i past) (λ i. level_now i after) levels in
    record {
      selection = selection;
      level = level;
      sent_back = λ i.
          ap (λ taken. if goes_back settings taken i then do_not_use_of settings.own.option else clock_level_at settings after) selection
          ∙ ap (λ l. if goes_back settings (selection_at settings past) i then do_not_use_of settings.own.option else l) level;
      mode = ap (λ s. mode_of s.forced s.manual) (switches-stay settings now next before none alike);
      state =
          ap (λ taken. state_of taken (was_locked settings after)) selection
          ∙ ap (state_of (selection_at settings past)) (was_locked-stays settings now next before selection);
    }
