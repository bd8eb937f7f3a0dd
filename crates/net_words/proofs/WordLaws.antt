-- What the words in which elements are told of events say of their inputs.
use Rattle.std.proofs.Common.{◌≡◌, ◌+◌, ◌*◌, ◌/◌, ℕ, Bool, true, false, ◌||◌, List, [], ◌∷◌, ◌++◌, Option, None, Some, slice_get, refl, ap, sym, subst, ◌∙◌, inl, inr, arith}
use Rattle.std.specs.Prelude.{nat_eq, if◌then◌else◌, option_map}
use Rattle.std.specs.List.{list_any, filter_map, cons_option}
use Rattle.std.specs.Option.{option_or}
use Rattle.std.proofs.lemmas.Bool.{true≢false, eq-eqb, ne_eqb}
use Rattle.std.proofs.lemmas.Bool.Decides.{eqb_tells}
use Rattle.std.proofs.lemmas.List.Folds.{list_any-append}
use Rattle.std.proofs.lemmas.Option.{same_Some}
use Rattle.std.proofs.Math.Bool.{or-false}
use Rattle.sync_text.proofs.Tests.{if-same}
use Rattle.sync_ql.specs.declared.levels.Level.{Level}
use Rattle.sync_ql.specs.declared.rules.Cmd.{Cmd}
use Rattle.sync_ql.specs.declared.rules.Cmd.TheVariants as command
use Rattle.sync_ql.specs.declared.rules.InputEvent.{InputEvent}
use Rattle.sync_ql.specs.declared.rules.InputEvent.TheVariants as tell
use Rattle.sync_ql.specs.Told.{last_said, says_up, says_level, clears, commands_in}
use Rattle.sync_topo.specs.declared.input.InputId.{InputId}
use Rattle.sync_topo.specs.declared.input.LineId.{LineId}
use Rattle.sync_topo.specs.declared.input.InputId.TheVariants.{Line, Source}
use Rattle.sync_topo.specs.declared.event.Part.{Part}
use Rattle.sync_topo.specs.declared.event.Part.TheVariants as part
use Rattle.sync_topo.specs.declared.event.What.{What}
use Rattle.sync_topo.specs.declared.event.What.TheVariants.{Down, Up, EsmcOff, EsmcOn, SourceLevel, Lockout, Unlock, Forced, Manual, Clear, ClearWtr}
use Rattle.sync_topo.specs.declared.event.Event.{Event}
use Rattle.sync_topo.specs.Topology.{Topology}
use Rattle.sync_topo.specs.Lines.{line_input, inputs_of, is_same_input, place_at}
use Rattle.net_rules.specs.Signals.{last_word, is_of_part, command_to, says_up as says_input_up, clears as clears_input}
use Rattle.net_words.specs.declared.input_words.Saying.{Saying}
use Rattle.net_words.specs.declared.input_words.Saying.TheVariants.{IsUp, HasLevel, IsCleared, IsLocked, IsUnlocked, IsForced, IsManual}
use Rattle.net_words.specs.Words.{word_at, input_words, part_words, only_to, words_of, all_words}
use Rattle.net_words.proofs.DistinctInputs.{place-at}
use Rattle.sync_topo.proofs.InputPlaces.{same-is, same-self}
use Rattle.net_words.proofs.PlaceLemmas.{found-at}

-- a place is that of the input at another
abbrev is_place : ℕ → Option ℕ → Bool
is_place i None = false
is_place i (Some k) = nat_eq k i

-- an input is the one at a place where its own place is that
place-tells : (plan : Topology) (element i : ℕ) (input other : InputId) → slice_get (inputs_of plan element) i ≡ Some input
    → is_place i (place_at plan element other) ≡ is_same_input input other
place-tells plan element i input other at = by (place_at plan element other) (is_same_input input other) refl refl
  where
    there : is_same_input input other ≡ true → place_at plan element other ≡ Some i
    there same = ap (place_at plan element) (sym (same-is input other same)) ∙ place-at plan element i input at

    back : place_at plan element other ≡ Some i → is_same_input input other ≡ true
    back is =
        let same : input ≡ other = same_Some input other (sym at ∙ found-at plan element i other is) in
        subst (λ o. is_same_input input o ≡ true) same (same-self input)

    by : (o : Option ℕ) (b : Bool) → place_at plan element other ≡ o → is_same_input input other ≡ b → is_place i o ≡ b
    by None false is same = refl
    by None true is same = cc (there same)
    by (Some k) true is same = eq-eqb k i (same_Some k i (sym is ∙ there same))
    by (Some k) false is same = ne_eqb k i (λ here. true≢false (sym (back (is ∙ ap Some here)) ∙ same))

-- what is said of whether an input is up, and of its level
abbrev pub up_in : Saying → Option Bool
up_in (IsUp up) = Some up
up_in saying = None

abbrev pub level_in : Saying → Option (Option Level)
level_in (HasLevel level) = Some (Some level)
level_in saying = None

abbrev pub clears_in : Saying → Bool
clears_in IsCleared = true
clears_in saying = false

up-at : (i : ℕ) (saying : Saying) (o : Option ℕ) → last_said (says_up i) (word_at saying o) ≡ (if is_place i o then up_in saying else None)
up-at i (IsUp up) None = refl
up-at i (IsUp up) (Some k) = refl
up-at i (HasLevel level) None = refl
up-at i (HasLevel level) (Some k) = sym (if-same (nat_eq k i) None)
up-at i IsCleared None = refl
up-at i IsCleared (Some k) = sym (if-same (nat_eq k i) None)
up-at i IsLocked None = refl
up-at i IsLocked (Some k) = sym (if-same (nat_eq k i) None)
up-at i IsUnlocked None = refl
up-at i IsUnlocked (Some k) = sym (if-same (nat_eq k i) None)
up-at i IsForced None = refl
up-at i IsForced (Some k) = sym (if-same (nat_eq k i) None)
up-at i IsManual None = refl
up-at i IsManual (Some k) = sym (if-same (nat_eq k i) None)

level-at : (i : ℕ) (saying : Saying) (o : Option ℕ) → last_said (says_level i) (word_at saying o) ≡ (if is_place i o then level_in saying else None)
level-at i (IsUp up) None = refl
level-at i (IsUp up) (Some k) = sym (if-same (nat_eq k i) None)
level-at i (HasLevel level) None = refl
level-at i (HasLevel level) (Some k) = refl
level-at i IsCleared None = refl
level-at i IsCleared (Some k) = sym (if-same (nat_eq k i) None)
level-at i IsLocked None = refl
level-at i IsLocked (Some k) = sym (if-same (nat_eq k i) None)
level-at i IsUnlocked None = refl
level-at i IsUnlocked (Some k) = sym (if-same (nat_eq k i) None)
level-at i IsForced None = refl
level-at i IsForced (Some k) = sym (if-same (nat_eq k i) None)
level-at i IsManual None = refl
level-at i IsManual (Some k) = sym (if-same (nat_eq k i) None)

if-true : (b : Bool) → (if b then true else false) ≡ b
if-true true = refl
if-true false = refl

clear-at : (i : ℕ) (saying : Saying) (o : Option ℕ) → list_any (clears i) (word_at saying o) ≡ (if is_place i o then clears_in saying else false)
clear-at i (IsUp up) None = refl
clear-at i (IsUp up) (Some k) = sym (if-same (nat_eq k i) false)
clear-at i (HasLevel level) None = refl
clear-at i (HasLevel level) (Some k) = sym (if-same (nat_eq k i) false)
clear-at i IsCleared None = refl
clear-at i IsCleared (Some k) = or-false (nat_eq k i) ∙ sym (if-true (nat_eq k i))
clear-at i IsLocked None = refl
clear-at i IsLocked (Some k) = sym (if-same (nat_eq k i) false)
clear-at i IsUnlocked None = refl
clear-at i IsUnlocked (Some k) = sym (if-same (nat_eq k i) false)
clear-at i IsForced None = refl
clear-at i IsForced (Some k) = sym (if-same (nat_eq k i) false)
clear-at i IsManual None = refl
clear-at i IsManual (Some k) = sym (if-same (nat_eq k i) false)

pub last_said-append : {A : Type 0} (says : InputEvent → Option A) (xs ys : List InputEvent)
    → last_said says (xs ++ ys) ≡ option_or (last_said says ys) (last_said says xs)
last_said-append says [] ys = or_none (last_said says ys)
  where
    or_none : {A : Type 0} (o : Option A) → o ≡ option_or o None
    or_none None = refl
    or_none (Some x) = refl
last_said-append says (x ∷ xs) ys = ap (λ o. option_or o (says x)) (last_said-append says xs ys) ∙ or_assoc (last_said says ys) (last_said says xs) (says x)
  where
    or_assoc : {A : Type 0} (a b c : Option A) → option_or (option_or a b) c ≡ option_or a (option_or b c)
    or_assoc None b c = refl
    or_assoc (Some y) b c = refl

pub commands_in-append : (xs ys : List InputEvent) → commands_in (xs ++ ys) ≡ commands_in xs ++ commands_in ys
commands_in-append [] ys = refl
commands_in-append (tell.Signal i up ∷ xs) ys = commands_in-append xs ys
commands_in-append (tell.Heard i level ∷ xs) ys = commands_in-append xs ys
commands_in-append (tell.ClearWtr i ∷ xs) ys = commands_in-append xs ys
commands_in-append (tell.Command c ∷ xs) ys = ap (λ cs. c ∷ cs) (commands_in-append xs ys)

-- of the two lines of a link, one is an input's own where the link is that of the input
link-lines : (input : InputId) (link : ℕ) (up : Bool)
    → option_or (if is_same_input input (line_input (2 * link + 1)) then Some up else None) (if is_same_input input (line_input (2 * link)) then Some up else None)
    ≡ (if is_of_part input (part.Link link) then Some up else None)
link-lines (Source source) link up = refl
link-lines (Line line) link up = elim (eqb_tells line.0 (2 * link)) [
  | inl even ↦
      rw (ne_eqb line.0 (2 * link + 1) (λ same. omega (arith, same, even.1)), eq-eqb line.0 (2 * link) even.1, eq-eqb (line.0 / 2) link (omega (arith, even.1))) refl
  | inr other ↦ elim (eqb_tells line.0 (2 * link + 1)) [
    | inl odd ↦
        rw (eq-eqb line.0 (2 * link + 1) odd.1, eq-eqb (line.0 / 2) link (omega (arith, odd.1))) refl
    | inr neither ↦
        rw (ne_eqb line.0 (2 * link + 1) neither.1, ne_eqb line.0 (2 * link) other.1, ne_eqb (line.0 / 2) link (λ half. omega (arith, half, other.1, neither.1))) refl
  ]
]

-- a line or a source alone is a part
same-line : (input : InputId) (line : LineId) → is_same_input input (Line line) ≡ is_of_part input (part.Line line)
same-line (Line other) line = refl
same-line (Source other) line = refl

same-source : (input : InputId) (source : ℕ) → is_same_input input (Source source) ≡ is_of_part input (part.Source source)
same-source (Line other) source = refl
same-source (Source other) source = refl

-- for the input at a place of an element
module _ (plan : Topology) (element i : ℕ) (input : InputId) (at : slice_get (inputs_of plan element) i ≡ Some input) where
  pub up-word : (saying : Saying) (other : InputId) → last_said (says_up i) (input_words plan saying other element) ≡ (if is_same_input input other then up_in saying else None)
  up-word saying other = up-at i saying (place_at plan element other) ∙ ap (λ b. if b then up_in saying else None) (place-tells plan element i input other at)

  pub level-word : (saying : Saying) (other : InputId) → last_said (says_level i) (input_words plan saying other element) ≡ (if is_same_input input other then level_in saying else None)
  level-word saying other = level-at i saying (place_at plan element other) ∙ ap (λ b. if b then level_in saying else None) (place-tells plan element i input other at)

  clear-word : (saying : Saying) (other : InputId) → list_any (clears i) (input_words plan saying other element) ≡ (if is_same_input input other then clears_in saying else false)
  clear-word saying other = clear-at i saying (place_at plan element other) ∙ ap (λ b. if b then clears_in saying else false) (place-tells plan element i input other at)

  -- other words say nothing of it
  pub no-up : (saying : Saying) (other : InputId) → up_in saying ≡ None → last_said (says_up i) (input_words plan saying other element) ≡ None
  no-up saying other none = up-word saying other ∙ ap (λ o. if is_same_input input other then o else None) none ∙ if-same (is_same_input input other) None

  no-level : (saying : Saying) (other : InputId) → level_in saying ≡ None → last_said (says_level i) (input_words plan saying other element) ≡ None
  no-level saying other none = level-word saying other ∙ ap (λ o. if is_same_input input other then o else None) none ∙ if-same (is_same_input input other) None

  pub no-clear : (saying : Saying) (other : InputId) → clears_in saying ≡ false → list_any (clears i) (input_words plan saying other element) ≡ false
  no-clear saying other none = clear-word saying other ∙ ap (λ b. if is_same_input input other then b else false) none ∙ if-same (is_same_input input other) false

  -- a part says of it what its going down or coming up does
  part-up : (up : Bool) (whole : Part) → last_said (says_up i) (part_words plan up whole element) ≡ (if is_of_part input whole then Some up else None)
  part-up up (part.Link link) =
      last_said-append (says_up i) (input_words plan (IsUp up) (line_input (2 * link)) element) (input_words plan (IsUp up) (line_input (2 * link + 1)) element)
      ∙ ap (λ o. option_or o (last_said (says_up i) (input_words plan (IsUp up) (line_input (2 * link)) element))) (up-word (IsUp up) (line_input (2 * link + 1)))
      ∙ ap (option_or (if is_same_input input (line_input (2 * link + 1)) then Some up else None)) (up-word (IsUp up) (line_input (2 * link)))
      ∙ link-lines input link up
  part-up up (part.Line line) = up-word (IsUp up) (Line line) ∙ ap (λ b. if b then Some up else None) (same-line input line)
  part-up up (part.Source source) = up-word (IsUp up) (Source source) ∙ ap (λ b. if b then Some up else None) (same-source input source)

  -- the commands say nothing of whether it is up
  only-up : (one : ℕ) → last_said (says_up i) (only_to one (tell.Command command.Clear) element) ≡ None
  only-up one = by (nat_eq one element)
    where
      by : (b : Bool) → last_said (says_up i) (if b then tell.Command command.Clear ∷ [] else []) ≡ None
      by true = refl
      by false = refl

  words-up : (what : What) → last_said (says_up i) (words_of plan what element) ≡ says_input_up input what
  words-up (Down whole) = part-up false whole
  words-up (Up whole) = part-up true whole
  words-up (EsmcOff line) = refl
  words-up (EsmcOn line) = refl
  words-up (SourceLevel source level) = refl
  words-up (Lockout other) = no-up IsLocked other refl
  words-up (Unlock other) = no-up IsUnlocked other refl
  words-up (Forced other) = no-up IsForced other refl
  words-up (Manual other) = no-up IsManual other refl
  words-up (Clear one) = only-up one
  words-up (ClearWtr other) = no-up IsCleared other refl

  pub all-up : (events : List Event) → last_said (says_up i) (all_words plan events element) ≡ last_word (says_input_up input) events
  all-up [] = refl
  all-up (event ∷ events) =
      last_said-append (says_up i) (words_of plan event.what element) (all_words plan events element)
      ∙ ap (λ o. option_or o (last_said (says_up i) (words_of plan event.what element))) (all-up events)
      ∙ ap (option_or (last_word (says_input_up input) events)) (words-up event.what)

  -- words at once say nothing of its level
  part-level : (up : Bool) (whole : Part) → last_said (says_level i) (part_words plan up whole element) ≡ None
  part-level up (part.Link link) =
      last_said-append (says_level i) (input_words plan (IsUp up) (line_input (2 * link)) element) (input_words plan (IsUp up) (line_input (2 * link + 1)) element)
      ∙ ap (λ o. option_or o (last_said (says_level i) (input_words plan (IsUp up) (line_input (2 * link)) element))) (no-level (IsUp up) (line_input (2 * link + 1)) refl)
      ∙ no-level (IsUp up) (line_input (2 * link)) refl
  part-level up (part.Line line) = no-level (IsUp up) (Line line) refl
  part-level up (part.Source source) = no-level (IsUp up) (Source source) refl

  only-level : (one : ℕ) → last_said (says_level i) (only_to one (tell.Command command.Clear) element) ≡ None
  only-level one = by (nat_eq one element)
    where
      by : (b : Bool) → last_said (says_level i) (if b then tell.Command command.Clear ∷ [] else []) ≡ None
      by true = refl
      by false = refl

  words-level : (what : What) → last_said (says_level i) (words_of plan what element) ≡ None
  words-level (Down whole) = part-level false whole
  words-level (Up whole) = part-level true whole
  words-level (EsmcOff line) = refl
  words-level (EsmcOn line) = refl
  words-level (SourceLevel source level) = refl
  words-level (Lockout other) = no-level IsLocked other refl
  words-level (Unlock other) = no-level IsUnlocked other refl
  words-level (Forced other) = no-level IsForced other refl
  words-level (Manual other) = no-level IsManual other refl
  words-level (Clear one) = only-level one
  words-level (ClearWtr other) = no-level IsCleared other refl

  pub all-level : (events : List Event) → last_said (says_level i) (all_words plan events element) ≡ None
  all-level [] = refl
  all-level (event ∷ events) =
      last_said-append (says_level i) (words_of plan event.what element) (all_words plan events element)
      ∙ ap (λ o. option_or o (last_said (says_level i) (words_of plan event.what element))) (all-level events)
      ∙ words-level event.what

  -- whether its wait-to-restore time is cleared
  part-clear : (up : Bool) (whole : Part) → list_any (clears i) (part_words plan up whole element) ≡ false
  part-clear up (part.Link link) =
      list_any-append (clears i) (input_words plan (IsUp up) (line_input (2 * link)) element) (input_words plan (IsUp up) (line_input (2 * link + 1)) element)
      ∙ ap (λ b. b || list_any (clears i) (input_words plan (IsUp up) (line_input (2 * link + 1)) element)) (no-clear (IsUp up) (line_input (2 * link)) refl)
      ∙ no-clear (IsUp up) (line_input (2 * link + 1)) refl
  part-clear up (part.Line line) = no-clear (IsUp up) (Line line) refl
  part-clear up (part.Source source) = no-clear (IsUp up) (Source source) refl

  only-clear : (one : ℕ) → list_any (clears i) (only_to one (tell.Command command.Clear) element) ≡ false
  only-clear one = by (nat_eq one element)
    where
      by : (b : Bool) → list_any (clears i) (if b then tell.Command command.Clear ∷ [] else []) ≡ false
      by true = refl
      by false = refl

  words-clear : (what : What) → list_any (clears i) (words_of plan what element) ≡ clears_input input what
  words-clear (Down whole) = part-clear false whole
  words-clear (Up whole) = part-clear true whole
  words-clear (EsmcOff line) = refl
  words-clear (EsmcOn line) = refl
  words-clear (SourceLevel source level) = refl
  words-clear (Lockout other) = no-clear IsLocked other refl
  words-clear (Unlock other) = no-clear IsUnlocked other refl
  words-clear (Forced other) = no-clear IsForced other refl
  words-clear (Manual other) = no-clear IsManual other refl
  words-clear (Clear one) = only-clear one
  words-clear (ClearWtr other) = clear-word IsCleared other ∙ if-true (is_same_input input other)

  pub all-clear : (events : List Event) → list_any (clears i) (all_words plan events element) ≡ list_any (λ event. clears_input input event.what) events
  all-clear [] = refl
  all-clear (event ∷ events) =
      list_any-append (clears i) (words_of plan event.what element) (all_words plan events element)
      ∙ ap (λ b. b || list_any (clears i) (all_words plan events element)) (words-clear event.what)
      ∙ ap (λ b. clears_input input event.what || b) (all-clear events)

-- the commands among the words
word-command : (saying : Saying) (make : ℕ → Cmd) (o : Option ℕ) → ((k : ℕ) → commands_in (word_at saying (Some k)) ≡ make k ∷ [])
    → commands_in (word_at saying o) ≡ cons_option (option_map make o) []
word-command saying make None is = refl
word-command saying make (Some k) is = is k

pub no-command : (saying : Saying) (o : Option ℕ) → ((k : ℕ) → commands_in (word_at saying (Some k)) ≡ []) → commands_in (word_at saying o) ≡ []
no-command saying None none = refl
no-command saying (Some k) none = none k

part-commands : (plan : Topology) (element : ℕ) (up : Bool) (whole : Part) → commands_in (part_words plan up whole element) ≡ []
part-commands plan element up (part.Link link) =
    commands_in-append (input_words plan (IsUp up) (line_input (2 * link)) element) (input_words plan (IsUp up) (line_input (2 * link + 1)) element)
    ∙ ap (λ cs. cs ++ commands_in (input_words plan (IsUp up) (line_input (2 * link + 1)) element)) (no-command (IsUp up) (place_at plan element (line_input (2 * link))) (λ k. refl))
    ∙ no-command (IsUp up) (place_at plan element (line_input (2 * link + 1))) (λ k. refl)
part-commands plan element up (part.Line line) = no-command (IsUp up) (place_at plan element (Line line)) (λ k. refl)
part-commands plan element up (part.Source source) = no-command (IsUp up) (place_at plan element (Source source)) (λ k. refl)

words-commands : (plan : Topology) (element : ℕ) (what : What) → commands_in (words_of plan what element) ≡ cons_option (command_to plan element what) []
words-commands plan element (Down whole) = part-commands plan element false whole
words-commands plan element (Up whole) = part-commands plan element true whole
words-commands plan element (EsmcOff line) = refl
words-commands plan element (EsmcOn line) = refl
words-commands plan element (SourceLevel source level) = refl
words-commands plan element (Lockout input) = word-command IsLocked command.Lockout (place_at plan element input) (λ k. refl)
words-commands plan element (Unlock input) = word-command IsUnlocked command.Unlock (place_at plan element input) (λ k. refl)
words-commands plan element (Forced input) = word-command IsForced command.Forced (place_at plan element input) (λ k. refl)
words-commands plan element (Manual input) = word-command IsManual command.Manual (place_at plan element input) (λ k. refl)
words-commands plan element (ClearWtr input) = no-command IsCleared (place_at plan element input) (λ k. refl)
words-commands plan element (Clear one) = by (nat_eq one element) (nat_eq element one) (eq-swap one element)
  where
    eq-swap : (a b : ℕ) → nat_eq a b ≡ nat_eq b a
    eq-swap a b = elim (eqb_tells a b) [
      | inl same ↦ eq-eqb a b same.1 ∙ sym (eq-eqb b a (sym same.1))
      | inr other ↦ ne_eqb a b other.1 ∙ sym (ne_eqb b a (λ same. other.1 (sym same)))
    ]

    by : (a b : Bool) → a ≡ b → commands_in (if a then tell.Command command.Clear ∷ [] else []) ≡ cons_option (if b then Some command.Clear else None) []
    by true true same = refl
    by false false same = refl
    by true false same = cc
    by false true same = cc

cons-append : (o : Option Cmd) (cs : List Cmd) → cons_option o [] ++ cs ≡ cons_option o cs
cons-append None cs = refl
cons-append (Some c) cs = refl

pub all-commands : (plan : Topology) (element : ℕ) (events : List Event)
    → commands_in (all_words plan events element) ≡ filter_map (λ event. command_to plan element event.what) events
all-commands plan element [] = refl
all-commands plan element (event ∷ events) =
    commands_in-append (words_of plan event.what element) (all_words plan events element)
    ∙ ap (λ cs. cs ++ commands_in (all_words plan events element)) (words-commands plan element event.what)
    ∙ cons-append (command_to plan element event.what) (commands_in (all_words plan events element))
    ∙ ap (cons_option (command_to plan element event.what)) (all-commands plan element events)
