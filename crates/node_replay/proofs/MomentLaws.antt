-- What the element is told in a millisecond makes that millisecond of its past, and so does nothing where nothing comes.
use Rattle.std.proofs.Common.{◌≡◌, ◌<◌, ◌+◌, ℕ, zero, suc, Bool, true, false, ◌||◌, List, [], ◌∷◌, ◌++◌, map, Option, None, Some, slice_get, refl, ap, sym, subst, ◌∙◌, arith}
use Rattle.std.specs.Prelude.{unwrap_or, nat_eq, if◌then◌else◌, option_map}
use Rattle.std.specs.List.{list_any, filter_map, cons_option}
use Rattle.std.specs.Option.{option_or}
use Rattle.std.proofs.lemmas.Bool.{eq-eqb, ne_eqb}
use Rattle.std.proofs.lemmas.List.Folds.{list_any-append}
use Rattle.std.proofs.lemmas.Option.{same_Some, none-some}
use Rattle.std.proofs.Math.Bool.{or-false}
use Rattle.sync_text.proofs.Each.{each-at}
use Rattle.sync_text.specs.Each.{Each}
use Rattle.sync_ql.specs.declared.rules.Cmd.{Cmd}
use Rattle.sync_ql.specs.declared.rules.Cmd.TheVariants as command
use Rattle.sync_ql.specs.declared.rules.InputEvent.{InputEvent}
use Rattle.sync_ql.specs.declared.rules.InputEvent.TheVariants as tell
use Rattle.sync_ql.specs.Pasts.{past_of}
use Rattle.sync_ql.specs.Condition.{is_up}
use Rattle.sync_ql.specs.Told.{last_said, says_up, says_level, clears, commands_in, moment_after}
use Rattle.sync_topo.specs.declared.input.InputId.{InputId}
use Rattle.sync_topo.specs.declared.input.InputId.TheVariants.{Line, Source}
use Rattle.sync_topo.specs.declared.event.What.{What}
use Rattle.sync_topo.specs.declared.event.What.TheVariants.{Down, Up, EsmcOff, EsmcOn, SourceLevel, Lockout, Unlock, Forced, Manual, Clear, ClearWtr}
use Rattle.sync_topo.specs.declared.event.Event.{Event}
use Rattle.sync_topo.specs.Topology.{Topology}
use Rattle.sync_topo.specs.Lines.{inputs_of, place_at, is_same_input}
use Rattle.net_rules.specs.Signals.{events_at, clears as clears_input, command_to, up_at, source_level_at}
use Rattle.net_rules.specs.History.{by_levels, settings_of, input_level, moment_at}
use Rattle.net_rules.specs.Settings.{signal_at}
use Rattle.net_rules.proofs.SettingLaws.{level_until, IsSaid, told-by}
use Rattle.net_words.specs.declared.input_words.Saying.TheVariants.{IsCleared}
use Rattle.net_words.specs.Words.{word_at}
use Rattle.net_words.specs.Before.{up_before}
use Rattle.net_words.proofs.SplitWords.{past-up}
use Rattle.net_words.proofs.WordLaws.{all-clear, last_said-append, commands_in-append}
use Rattle.node_file.specs.declared.row.NodeWord.{NodeWord}
use Rattle.node_file.specs.declared.row.NodeWord.TheVariants.{Frame, Happens}
use Rattle.node_file.specs.declared.row.NodeRow.{NodeRow}
use Rattle.node_file.specs.NodeRow.{events_in}
use Rattle.node_replay.specs.declared.inputs.InputNow.{InputNow}
use Rattle.node_rules.specs.Replay.{signals_in, heard_in, node_past}
use Rattle.node_replay.specs.private.Telling.{place_in, word_of, row_word, told_from, all_told}
use Rattle.node_replay.specs.Running.{level_before, IsInputAt}

-- what stands at a place of a list that is made from another
kept-at : (inputs : List InputNow) (i : ℕ) (id : InputId) → slice_get (map (λ input. input.id) inputs) i ≡ Some id
    → (input : InputNow) × (slice_get inputs i ≡ Some input) × (input.id ≡ id)
kept-at [] i id at = absurd (none-some id at)
kept-at (input ∷ inputs) zero id at = (input, refl, same_Some input.id id at)
kept-at (input ∷ inputs) (suc i) id at = kept-at inputs i id at

-- what is told of all inputs says of each what is kept
up-none : (place j : ℕ) (inputs : List InputNow) → j < place → last_said (says_up j) (told_from place inputs) ≡ None
up-none place j [] before = refl
up-none place j (input ∷ inputs) before =
    rw (up-none (place + 1) j inputs (omega (arith, before)), ne_eqb place j (λ same. omega (arith, same, before))) refl

up-told : (place i j : ℕ) (inputs : List InputNow) (input : InputNow) → j ≡ place + i → slice_get inputs i ≡ Some input
    → last_said (says_up j) (told_from place inputs) ≡ Some input.up
up-told place i j [] input is at = absurd (none-some input at)
up-told place zero j (first ∷ inputs) input is at =
    rw (up-none (place + 1) j inputs (omega (arith, is)), eq-eqb place j (omega (arith, is))) (ap (λ (k : InputNow). Some k.up) (same_Some first input at))
up-told place (suc i) j (first ∷ inputs) input is at =
    rw (up-told (place + 1) i j inputs input (omega (arith, is)) at) refl

level-none : (place j : ℕ) (inputs : List InputNow) → j < place → last_said (says_level j) (told_from place inputs) ≡ None
level-none place j [] before = refl
level-none place j (input ∷ inputs) before =
    rw (level-none (place + 1) j inputs (omega (arith, before)), ne_eqb place j (λ same. omega (arith, same, before))) refl

level-told : (place i j : ℕ) (inputs : List InputNow) (input : InputNow) → j ≡ place + i → slice_get inputs i ≡ Some input
    → last_said (says_level j) (told_from place inputs) ≡ Some input.level
level-told place i j [] input is at = absurd (none-some input at)
level-told place zero j (first ∷ inputs) input is at =
    rw (level-none (place + 1) j inputs (omega (arith, is)), eq-eqb place j (omega (arith, is))) (ap (λ (k : InputNow). Some k.level) (same_Some first input at))
level-told place (suc i) j (first ∷ inputs) input is at =
    rw (level-told (place + 1) i j inputs input (omega (arith, is)) at) refl

clears-none : (place j : ℕ) (inputs : List InputNow) → list_any (clears j) (told_from place inputs) ≡ false
clears-none place j [] = refl
clears-none place j (input ∷ inputs) = clears-none (place + 1) j inputs

commands-none : (place : ℕ) (inputs : List InputNow) → commands_in (told_from place inputs) ≡ []
commands-none place [] = refl
commands-none place (input ∷ inputs) = commands-none (place + 1) inputs

-- the words of rows say which inputs are cleared
any-cons : {A : Type 0} (p : A → Bool) (o : Option A) (xs : List A) → list_any p (cons_option o xs) ≡ (list_any p (cons_option o []) || list_any p xs)
any-cons p None xs = refl
any-cons p (Some x) xs = ap (λ b. b || list_any p xs) (sym (or-false (p x)))

module _ (plan : Topology) (element : ℕ) where
  module _ (i : ℕ) (input : InputId) (at : slice_get (inputs_of plan element) i ≡ Some input) where
    no-clear : (make : ℕ → InputEvent) (other : InputId) → ((k : ℕ) → clears i (make k) ≡ false)
        → list_any (clears i) (cons_option (option_map make (place_in (inputs_of plan element) other)) []) ≡ false
    no-clear make other none = by (place_in (inputs_of plan element) other)
      where
        by : (o : Option ℕ) → list_any (clears i) (cons_option (option_map make o) []) ≡ false
        by None = refl
        by (Some k) = or-false (clears i (make k)) ∙ none k

    is-clear : (other : InputId) → list_any (clears i) (cons_option (option_map tell.ClearWtr (place_in (inputs_of plan element) other)) []) ≡ is_same_input input other
    is-clear other =
        by (place_at plan element other) (all-clear plan element i input at (record { at = 0; what = ClearWtr other } ∷ []))
        ∙ or-false (is_same_input input other)
      where
        by : (o : Option ℕ) → list_any (clears i) (word_at IsCleared o ++ []) ≡ (is_same_input input other || false)
            → list_any (clears i) (cons_option (option_map tell.ClearWtr o) []) ≡ (is_same_input input other || false)
        by None is = is
        by (Some k) is = is

    what-clear : (what : What) → list_any (clears i) (cons_option (word_of (inputs_of plan element) element what) []) ≡ clears_input input what
    what-clear (Down part) = refl
    what-clear (Up part) = refl
    what-clear (EsmcOff line) = refl
    what-clear (EsmcOn line) = refl
    what-clear (SourceLevel source level) = refl
    what-clear (Lockout other) = no-clear (λ k. tell.Command (command.Lockout k)) other (λ k. refl)
    what-clear (Unlock other) = no-clear (λ k. tell.Command (command.Unlock k)) other (λ k. refl)
    what-clear (Forced other) = no-clear (λ k. tell.Command (command.Forced k)) other (λ k. refl)
    what-clear (Manual other) = no-clear (λ k. tell.Command (command.Manual k)) other (λ k. refl)
    what-clear (Clear other) = by (nat_eq element other)
      where
        by : (b : Bool) → list_any (clears i) (cons_option (if b then Some (tell.Command command.Clear) else None) []) ≡ false
        by true = refl
        by false = refl
    what-clear (ClearWtr other) = is-clear other

    rows-clear : (here : List NodeRow) → list_any (clears i) (filter_map (row_word (inputs_of plan element) element) here)
        ≡ list_any (λ event. clears_input input event.what) (events_in here)
    rows-clear [] = refl
    rows-clear (row ∷ rows) = one row.at row.word (rows-clear rows)
      where
        one : (when : ℕ) (word : NodeWord) → list_any (clears i) (filter_map (row_word (inputs_of plan element) element) rows) ≡ list_any (λ event. clears_input input event.what) (events_in rows)
            → list_any (clears i) (filter_map (row_word (inputs_of plan element) element) (record { at = when; word = word } ∷ rows))
            ≡ list_any (λ event. clears_input input event.what) (events_in (record { at = when; word = word } ∷ rows))
        one when (Frame line level) rest = rest
        one when (Happens what) rest =
            any-cons (clears i) (word_of (inputs_of plan element) element what) (filter_map (row_word (inputs_of plan element) element) rows)
            ∙ ap (λ b. b || list_any (clears i) (filter_map (row_word (inputs_of plan element) element) rows)) (what-clear what)
            ∙ ap (λ b. clears_input input what || b) rest

  -- and which commands are given
  one-command : (make : ℕ → Cmd) (o : Option ℕ) (words : List InputEvent)
      → commands_in (cons_option (option_map (λ k. tell.Command (make k)) o) words) ≡ cons_option (option_map make o) (commands_in words)
  one-command make None words = refl
  one-command make (Some k) words = refl

  what-commands : (what : What) (words : List InputEvent)
      → commands_in (cons_option (word_of (inputs_of plan element) element what) words) ≡ cons_option (command_to plan element what) (commands_in words)
  what-commands (Down part) words = refl
  what-commands (Up part) words = refl
  what-commands (EsmcOff line) words = refl
  what-commands (EsmcOn line) words = refl
  what-commands (SourceLevel source level) words = refl
  what-commands (Lockout other) words = one-command command.Lockout (place_in (inputs_of plan element) other) words
  what-commands (Unlock other) words = one-command command.Unlock (place_in (inputs_of plan element) other) words
  what-commands (Forced other) words = one-command command.Forced (place_in (inputs_of plan element) other) words
  what-commands (Manual other) words = one-command command.Manual (place_in (inputs_of plan element) other) words
  what-commands (Clear other) words = by (nat_eq element other)
    where
      by : (b : Bool) → commands_in (cons_option (if b then Some (tell.Command command.Clear) else None) words) ≡ cons_option (if b then Some command.Clear else None) (commands_in words)
      by true = refl
      by false = refl
  what-commands (ClearWtr other) words = by (place_in (inputs_of plan element) other)
    where
      by : (o : Option ℕ) → commands_in (cons_option (option_map tell.ClearWtr o) words) ≡ commands_in words
      by None = refl
      by (Some k) = refl

  rows-commands : (here : List NodeRow) → commands_in (filter_map (row_word (inputs_of plan element) element) here)
      ≡ filter_map (λ event. command_to plan element event.what) (events_in here)
  rows-commands [] = refl
  rows-commands (row ∷ rows) = one row.at row.word (rows-commands rows)
    where
      one : (when : ℕ) (word : NodeWord) → commands_in (filter_map (row_word (inputs_of plan element) element) rows) ≡ filter_map (λ event. command_to plan element event.what) (events_in rows)
          → commands_in (filter_map (row_word (inputs_of plan element) element) (record { at = when; word = word } ∷ rows))
          ≡ filter_map (λ event. command_to plan element event.what) (events_in (record { at = when; word = word } ∷ rows))
      one when (Frame line level) rest = rest
      one when (Happens what) rest =
          what-commands what (filter_map (row_word (inputs_of plan element) element) rows)
          ∙ ap (cons_option (command_to plan element what)) rest

-- the level that an input has in a millisecond
next-level : (plan : Topology) (rows : List NodeRow) (input : InputId) (t : ℕ)
    → input_level (signals_in plan rows) (heard_in plan rows) input t ≡ level_before plan rows input (suc t)
unfolding heard_in source_level_at
next-level plan rows (Line line) t = refl
next-level plan rows (Source source) t = refl

up-now : (events : List Event) (input : InputId) (t : ℕ) → up_at events input t ≡ up_before events input (suc t)
unfolding up_at
up-now events input t = refl

module _ (plan : Topology) (rows here : List NodeRow) (element t : ℕ) (inputs : List InputNow) (ids : map (λ input. input.id) inputs ≡ inputs_of plan element)
    (is : Each (IsInputAt plan rows (suc t)) inputs) (events : events_at t (events_in rows) ≡ events_in here) where
  words : List InputEvent
  words = all_told (inputs_of plan element) element here inputs

  input-told : (i : ℕ) (input : InputId) → slice_get (inputs_of plan element) i ≡ Some input
      → IsSaid (by_levels plan) (signals_in plan rows) (input_level (signals_in plan rows) (heard_in plan rows)) words t i input
  unfolding words
  input-told i input at =
      let kept = kept-at inputs i input (subst (λ xs. slice_get xs i ≡ Some input) (sym ids) at) in
      let one : IsInputAt plan rows (suc t) kept.0 = each-at (IsInputAt plan rows (suc t)) inputs i kept.0 is kept.1 in
      let front : List InputEvent = filter_map (row_word (inputs_of plan element) element) here in
      record {
        up =
            ap (λ o. unwrap_or o (is_up (past_of (signal_at (signals_in plan rows) input) t)))
            (last_said-append (says_up i) front (told_from 0 inputs) ∙ ap (λ o. option_or o (last_said (says_up i) front)) (up-told 0 i i inputs kept.0 (omega arith) kept.1))
            ∙ one.up ∙ ap (λ id. up_before (events_in rows) id (suc t)) kept.2 ∙ sym (up-now (events_in rows) input t);
        clear =
            list_any-append (clears i) front (told_from 0 inputs)
            ∙ ap (λ b. list_any (clears i) front || b) (clears-none 0 i inputs) ∙ or-false (list_any (clears i) front)
            ∙ rows-clear plan element i input at here ∙ ap (list_any (λ event. clears_input input event.what)) (sym events);
        level =
            ap (λ o. unwrap_or o (level_until (by_levels plan) (input_level (signals_in plan rows) (heard_in plan rows)) input t))
            (last_said-append (says_level i) front (told_from 0 inputs) ∙ ap (λ o. option_or o (last_said (says_level i) front)) (level-told 0 i i inputs kept.0 (omega arith) kept.1))
            ∙ one.level ∙ ap (λ id. level_before plan rows id (suc t)) kept.2 ∙ sym (next-level plan rows input t);
      }

  commands-told : commands_in words ≡ filter_map (λ event. command_to plan element event.what) (events_at t (events_in rows))
  unfolding words
  commands-told =
      let front : List InputEvent = filter_map (row_word (inputs_of plan element) element) here in
      commands_in-append front (told_from 0 inputs) ∙ ap (λ cs. commands_in front ++ cs) (commands-none 0 inputs) ∙ nil (commands_in front)
      ∙ rows-commands plan element here ∙ ap (filter_map (λ event. command_to plan element event.what)) (sym events)
    where
      nil : {A : Type 0} (xs : List A) → xs ++ [] ≡ xs
      nil [] = refl
      nil (x ∷ xs) = ap (λ ys. x ∷ ys) (nil xs)

  pub moment-told : moment_after (settings_of plan element) (node_past plan rows element t) (all_told (inputs_of plan element) element here inputs)
      ≡ moment_at plan (signals_in plan rows) (heard_in plan rows) element t
  unfolding words settings_of moment_at
  moment-told =
      told-by (by_levels plan) plan (signals_in plan rows) (input_level (signals_in plan rows) (heard_in plan rows)) element t words input-told commands-told

-- where nothing comes, and each input stays as it is
module _ (plan : Topology) (rows : List NodeRow) (element t : ℕ) (inputs : List InputNow) (ids : map (λ input. input.id) inputs ≡ inputs_of plan element)
    (was : Each (IsInputAt plan rows (suc t)) inputs) (is : Each (IsInputAt plan rows (suc (suc t))) inputs) (events : events_at (suc t) (events_in rows) ≡ []) where
  input-quiet : (i : ℕ) (input : InputId) → slice_get (inputs_of plan element) i ≡ Some input
      → IsSaid (by_levels plan) (signals_in plan rows) (input_level (signals_in plan rows) (heard_in plan rows)) [] (suc t) i input
  input-quiet i input at =
      let kept = kept-at inputs i input (subst (λ xs. slice_get xs i ≡ Some input) (sym ids) at) in
      let before : IsInputAt plan rows (suc t) kept.0 = each-at (IsInputAt plan rows (suc t)) inputs i kept.0 was kept.1 in
      let after : IsInputAt plan rows (suc (suc t)) kept.0 = each-at (IsInputAt plan rows (suc (suc t))) inputs i kept.0 is kept.1 in
      record {
        up =
            past-up plan (events_in rows) input (suc t) ∙ sym (before.up ∙ ap (λ id. up_before (events_in rows) id (suc t)) kept.2)
            ∙ after.up ∙ ap (λ id. up_before (events_in rows) id (suc (suc t))) kept.2 ∙ sym (up-now (events_in rows) input (suc t));
        clear = sym (ap (list_any (λ event. clears_input input event.what)) events);
        level =
            next-level plan rows input t ∙ sym (before.level ∙ ap (λ id. level_before plan rows id (suc t)) kept.2)
            ∙ after.level ∙ ap (λ id. level_before plan rows id (suc (suc t))) kept.2 ∙ sym (next-level plan rows input (suc t));
      }

  pub moment-quiet : moment_after (settings_of plan element) (node_past plan rows element (suc t)) []
      ≡ moment_at plan (signals_in plan rows) (heard_in plan rows) element (suc t)
  unfolding settings_of moment_at
  moment-quiet =
      told-by (by_levels plan) plan (signals_in plan rows) (input_level (signals_in plan rows) (heard_in plan rows)) element (suc t) [] input-quiet
      (sym (ap (filter_map (λ event. command_to plan element event.what)) events))
