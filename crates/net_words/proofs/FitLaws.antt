-- The words in which elements are told of events fit the elements, and only events that touch one
-- have some.
use Rattle.std.proofs.Common.{◌≡◌, ◌<◌, ◌+◌, ◌*◌, ℕ, Bool, true, false, List, [], ◌∷◌, ◌++◌, length, Option, None, Some, refl, ap, sym, subst, ◌∙◌}
use Rattle.std.specs.Prelude.{nat_eq, if◌then◌else◌, All}
use Rattle.std.specs.List.{list_any}
use Rattle.std.proofs.lemmas.Bool.{true≢false, or_parts}
use Rattle.std.proofs.lemmas.List.Elements.{All-nil, All-cons, All-append}
use Rattle.std.proofs.lemmas.Option.{slice_get_within}
use Rattle.sync_ql.specs.declared.levels.NetOption.{NetOption}
use Rattle.sync_ql.specs.declared.rules.Cmd.TheVariants as command
use Rattle.sync_ql.specs.declared.rules.InputEvent.TheVariants as tell
use Rattle.sync_ql.specs.Told.{FitsElement}
use Rattle.sync_topo.specs.declared.input.InputId.{InputId}
use Rattle.sync_topo.specs.declared.input.InputId.TheVariants.{Line, Source}
use Rattle.sync_topo.specs.declared.event.Part.{Part}
use Rattle.sync_topo.specs.declared.event.Part.TheVariants as part
use Rattle.sync_topo.specs.declared.event.What.{What}
use Rattle.sync_topo.specs.declared.event.What.TheVariants.{Down, Up, EsmcOff, EsmcOn, SourceLevel, Lockout, Unlock, Forced, Manual, Clear, ClearWtr}
use Rattle.sync_topo.specs.declared.event.Event.{Event}
use Rattle.sync_topo.specs.Topology.{Topology}
use Rattle.sync_topo.specs.Lines.{line_input, inputs_of, receiver_of, place_at}
use Rattle.sync_topo.specs.WellFormed.{IsWellFormed}
use Rattle.net_rules.specs.Activity.{is_at, is_part_at, touches}
use Rattle.net_rules.specs.History.{settings_of}
use Rattle.net_rules.specs.Inputs.{IsInputOf}
use Rattle.net_rules.proofs.TouchLaws.{input-is_at}
use Rattle.net_rules.proofs.NetLaws.{many-inputs}
use Rattle.net_rules.proofs.OwnLevels.{own-option}
use Rattle.net_words.specs.declared.input_words.Saying.{Saying}
use Rattle.net_words.specs.declared.input_words.Saying.TheVariants.{IsUp, HasLevel, IsCleared, IsLocked, IsUnlocked, IsForced, IsManual}
use Rattle.net_words.specs.Words.{said_as, word_at, input_words, part_words, only_to, words_of, all_words}
use Rattle.net_words.proofs.DistinctInputs.{input-of}
use Rattle.net_words.proofs.PlaceLemmas.{found-at, no-place-there}

-- a level that is said is of an option
abbrev pub SayingFits : NetOption → Saying → Type 0
SayingFits option (HasLevel level) = level.option ≡ option
SayingFits option saying = Unit {0}

-- the words fit an element of a plan
module _ (plan : Topology) (element : ℕ) (well : IsWellFormed plan) (within : element < length plan.elements) where
  said-fits : (saying : Saying) (place : ℕ) → place < length (settings_of plan element).priorities → SayingFits plan.option saying
      → FitsElement (settings_of plan element) (said_as saying place)
  said-fits (IsUp up) place inside fits = inside
  said-fits (HasLevel level) place inside fits = (inside, fits ∙ sym (own-option plan element well within))
  said-fits IsCleared place inside fits = inside
  said-fits IsLocked place inside fits = inside
  said-fits IsUnlocked place inside fits = inside
  said-fits IsForced place inside fits = inside
  said-fits IsManual place inside fits = inside

  pub word-fits : (saying : Saying) (input : InputId) → (IsInputOf plan element input → SayingFits plan.option saying)
      → All (FitsElement (settings_of plan element)) (input_words plan saying input element)
  word-fits saying input fits = by (place_at plan element input) refl
    where
      by : (o : Option ℕ) → place_at plan element input ≡ o → All (FitsElement (settings_of plan element)) (word_at saying o)
      by None is = All-nil (FitsElement (settings_of plan element))
      by (Some place) is =
          let there = found-at plan element place input is in
          All-cons (FitsElement (settings_of plan element)) (said_as saying place) []
          (said-fits saying place (subst (λ n. place < n) (sym (many-inputs plan element)) (slice_get_within (inputs_of plan element) place input there)) (fits (input-of plan element place input there)))
          (All-nil (FitsElement (settings_of plan element)))

  part-fits : (up : Bool) (whole : Part) → All (FitsElement (settings_of plan element)) (part_words plan up whole element)
  part-fits up (part.Link link) =
      All-append (FitsElement (settings_of plan element)) (input_words plan (IsUp up) (line_input (2 * link)) element) (input_words plan (IsUp up) (line_input (2 * link + 1)) element)
      (word-fits (IsUp up) (line_input (2 * link)) (λ of. tt)) (word-fits (IsUp up) (line_input (2 * link + 1)) (λ of. tt))
  part-fits up (part.Line line) = word-fits (IsUp up) (Line line) (λ of. tt)
  part-fits up (part.Source source) = word-fits (IsUp up) (Source source) (λ of. tt)

  only-fits : (one : ℕ) → All (FitsElement (settings_of plan element)) (only_to one (tell.Command command.Clear) element)
  only-fits one = by (nat_eq one element)
    where
      by : (b : Bool) → All (FitsElement (settings_of plan element)) (if b then tell.Command command.Clear ∷ [] else [])
      by true = All-cons (FitsElement (settings_of plan element)) (tell.Command command.Clear) [] tt (All-nil (FitsElement (settings_of plan element)))
      by false = All-nil (FitsElement (settings_of plan element))

  words-fit : (what : What) → All (FitsElement (settings_of plan element)) (words_of plan what element)
  words-fit (Down whole) = part-fits false whole
  words-fit (Up whole) = part-fits true whole
  words-fit (EsmcOff line) = All-nil (FitsElement (settings_of plan element))
  words-fit (EsmcOn line) = All-nil (FitsElement (settings_of plan element))
  words-fit (SourceLevel source level) = All-nil (FitsElement (settings_of plan element))
  words-fit (Lockout input) = word-fits IsLocked input (λ of. tt)
  words-fit (Unlock input) = word-fits IsUnlocked input (λ of. tt)
  words-fit (Forced input) = word-fits IsForced input (λ of. tt)
  words-fit (Manual input) = word-fits IsManual input (λ of. tt)
  words-fit (Clear one) = only-fits one
  words-fit (ClearWtr input) = word-fits IsCleared input (λ of. tt)

  pub all-fit : (events : List Event) → All (FitsElement (settings_of plan element)) (all_words plan events element)
  all-fit [] = All-nil (FitsElement (settings_of plan element))
  all-fit (event ∷ events) =
      All-append (FitsElement (settings_of plan element)) (words_of plan event.what element) (all_words plan events element) (words-fit event.what) (all-fit events)

-- an input that isn't at an element is not spoken of there
pub away : (plan : Topology) (element : ℕ) (saying : Saying) (input : InputId) → is_at plan element input ≡ false → input_words plan saying input element ≡ []
away plan element saying input other =
    ap (word_at saying) (no-place-there plan element input (λ of. true≢false (sym (input-is_at plan element input of) ∙ other)))

part-away : (plan : Topology) (element : ℕ) (up : Bool) (whole : Part) → is_part_at plan element whole ≡ false → part_words plan up whole element ≡ []
part-away plan element up (part.Link link) other =
    let both = or_parts (nat_eq (receiver_of plan (2 * link)) element) (nat_eq (receiver_of plan (2 * link + 1)) element) other in
    ap (λ w. w ++ input_words plan (IsUp up) (line_input (2 * link + 1)) element) (away plan element (IsUp up) (line_input (2 * link)) both.0)
    ∙ away plan element (IsUp up) (line_input (2 * link + 1)) both.1
part-away plan element up (part.Line line) other = away plan element (IsUp up) (Line line) other
part-away plan element up (part.Source source) other = away plan element (IsUp up) (Source source) other

words-away : (plan : Topology) (element : ℕ) (what : What) → touches plan element what ≡ false → words_of plan what element ≡ []
words-away plan element (Down whole) other = part-away plan element false whole other
words-away plan element (Up whole) other = part-away plan element true whole other
words-away plan element (EsmcOff line) other = refl
words-away plan element (EsmcOn line) other = refl
words-away plan element (SourceLevel source level) other = refl
words-away plan element (Lockout input) other = away plan element IsLocked input other
words-away plan element (Unlock input) other = away plan element IsUnlocked input other
words-away plan element (Forced input) other = away plan element IsForced input other
words-away plan element (Manual input) other = away plan element IsManual input other
words-away plan element (Clear one) other = ap (λ b. if b then tell.Command command.Clear ∷ [] else []) other
words-away plan element (ClearWtr input) other = away plan element IsCleared input other

-- where no event touches an element, it is told nothing
pub all-away : (plan : Topology) (element : ℕ) (events : List Event) → list_any (λ event. touches plan element event.what) events ≡ false
    → all_words plan events element ≡ []
all-away plan element [] none = refl
all-away plan element (event ∷ events) none =
    let both = or_parts (touches plan element event.what) (list_any (λ event. touches plan element event.what) events) none in
    ap (λ w. w ++ all_words plan events element) (words-away plan element event.what both.0) ∙ all-away plan element events both.1
