-- The events of a millisecond are taken in by four walks over them.
use Rattle.std.proofs.Common.{◌≡◌, ◌<◌, ℕ, Bool, true, false, ◌||◌, List, [], ◌∷◌, ◌++◌, length, Option, None, Some, is_some, refl, ap, sym, subst, ◌∙◌}
use Rattle.std.specs.Prelude.{nat_eq, unwrap_or, if◌then◌else◌}
use Rattle.std.specs.List.{list_any}
use Rattle.std.specs.Option.{option_or}
use Rattle.std.proofs.lemmas.Bool.{true≢false, or_parts, or_from}
use Rattle.std.proofs.lemmas.List.{append-nil}
use Rattle.std.proofs.lemmas.List.Elements.{All-append}
use Rattle.std.proofs.lemmas.List.Folds.{list_any-append}
use Rattle.std.proofs.Math.Bool.{or-false}
use Rattle.sync_text.proofs.Options.{option_or-none, is_some-false}
use Rattle.sync_ql.specs.declared.levels.Level.{Level}
use Rattle.sync_ql.specs.declared.rules.InputEvent.{InputEvent}
use Rattle.sync_ql.specs.Told.{last_said, says_up, says_level, clears, commands_in, FitsElement}
use Rattle.sync_topo.specs.declared.input.InputId.{InputId}
use Rattle.sync_topo.specs.declared.input.InputId.TheVariants.{Line, Source}
use Rattle.sync_topo.specs.declared.event.Part.TheVariants as part
use Rattle.sync_topo.specs.declared.event.What.{What}
use Rattle.sync_topo.specs.declared.event.What.TheVariants.{Down, Up, EsmcOff, EsmcOn, SourceLevel, Lockout, Unlock, Forced, Manual, Clear, ClearWtr}
use Rattle.sync_topo.specs.declared.event.Event.{Event}
use Rattle.sync_topo.specs.Topology.{Topology}
use Rattle.sync_topo.specs.Lines.{line_input, IsNominated}
use Rattle.sync_topo.specs.WellFormed.{IsWellFormed}
use Rattle.net_rules.specs.Activity.{touches}
use Rattle.net_rules.specs.Settling.{switches_line}
use Rattle.net_rules.specs.History.{settings_of}
use Rattle.net_rules.specs.Signals.{last_word, says_up as says_input_up, says_esmc, says_level as says_source_level}
use Rattle.sync_net.specs.declared.signals.LineSignal.{LineSignal}
use Rattle.sync_net.specs.declared.signals.SourceSignal.{SourceSignal}
use Rattle.net_words.specs.declared.tellings.Tellings.{Tellings}
use Rattle.sync_net.specs.private.Kept.{kept_up, kept_level}
use Rattle.sync_net.specs.private.Noted.{AreNoted, IsSettled}
use Rattle.agenda.specs.Called.{is_marked}
use Rattle.sync_net.specs.private.Noting.{line_at, source_at, names_line, AreOfOption, AreLinesNoted, AreSourcesNoted}
use Rattle.sync_net.specs.Named.{named_source, is_it, names_source}
use Rattle.sync_net.specs.private.SourceLevels.{settled, settle_if, AreSourcesSettled, all_level_words}
use Rattle.sync_net.specs.private.Taking.{Taking, AreTaken, kept_in}
use Rattle.sync_net.specs.private.Telling.{IsTold}
use Rattle.net_words.specs.Tellings.{told_to, is_active, is_something, AreTold}
use Rattle.net_words.specs.Words.{all_words}
use Rattle.net_words.proofs.FitLaws.{all-fit, all-away}
use Rattle.sync_net.proofs.LevelFits.{levels-fit, levels-away}
use Rattle.net_words.proofs.WordLaws.{last_said-append, commands_in-append, all-up, all-level, all-clear, all-commands}
use Rattle.sync_net.proofs.LevelWords.{all-named-level, levels-up, levels-level, levels-clear, levels-commands}

nothing-is : (words : List InputEvent) → is_something words ≡ false → words ≡ []
nothing-is [] none = refl
nothing-is (x ∷ xs) none = cc

-- events that don't speak of a matter leave no word
no-word : {A : Type 0} (says : What → Option A) (test : Event → Bool) → ((event : Event) → test event ≡ false → says event.what ≡ None)
    → (events : List Event) → list_any test events ≡ false → last_word says events ≡ None
no-word says test silent [] none = refl
no-word says test silent (event ∷ events) none =
    let both = or_parts (test event) (list_any test events) none in
    ap (λ o. option_or o (says event.what)) (no-word says test silent events both.1) ∙ silent event both.0

-- events that name a nominated line are those that switch it
unnamed-unswitched : (plan : Topology) (line : ℕ) → IsNominated plan line → (events : List Event) → list_any (names_line plan line) events ≡ false
    → list_any (λ event. switches_line line event.what) events ≡ false
unnamed-unswitched plan line nominated [] none = refl
unnamed-unswitched plan line nominated (event ∷ events) none =
    let both = or_parts (names_line plan line event) (list_any (names_line plan line) events) none in
    let here : switches_line line event.what ≡ false = rw nominated at both.0 in
    or_from (switches_line line event.what) (list_any (λ e. switches_line line e.what) events) here (unnamed-unswitched plan line nominated events both.1)

if-none : {A : Type 0} (b : Bool) (x : A) → b ≡ false → ◌≡◌ {A = Option A} (if b then Some x else None) None
if-none true x is = cc
if-none false x is = refl

-- an event that doesn't name a source says nothing of it
unnamed-up : (source : ℕ) (what : What) → is_it (named_source what) source ≡ false → says_input_up (Source source) what ≡ None
unnamed-up source (Down (part.Link link)) none = refl
unnamed-up source (Down (part.Line line)) none = refl
unnamed-up source (Down (part.Source other)) none = if-none (nat_eq source other) false none
unnamed-up source (Up (part.Link link)) none = refl
unnamed-up source (Up (part.Line line)) none = refl
unnamed-up source (Up (part.Source other)) none = if-none (nat_eq source other) true none
unnamed-up source (EsmcOff line) none = refl
unnamed-up source (EsmcOn line) none = refl
unnamed-up source (SourceLevel other level) none = refl
unnamed-up source (Lockout input) none = refl
unnamed-up source (Unlock input) none = refl
unnamed-up source (Forced input) none = refl
unnamed-up source (Manual input) none = refl
unnamed-up source (Clear element) none = refl
unnamed-up source (ClearWtr input) none = refl

unnamed-level : (source : ℕ) (what : What) → is_it (named_source what) source ≡ false → says_source_level source what ≡ None
unnamed-level source (SourceLevel other level) none = if-none (nat_eq source other) level none
unnamed-level source (Down whole) none = refl
unnamed-level source (Up whole) none = refl
unnamed-level source (EsmcOff line) none = refl
unnamed-level source (EsmcOn line) none = refl
unnamed-level source (Lockout input) none = refl
unnamed-level source (Unlock input) none = refl
unnamed-level source (Forced input) none = refl
unnamed-level source (Manual input) none = refl
unnamed-level source (Clear element) none = refl
unnamed-level source (ClearWtr input) none = refl

abbrev line_made : Bool → Bool → LineSignal
line_made up esmc = record { up = up; esmc = esmc }

line-made : (up esmc other_up other_esmc : Bool) → up ≡ other_up → esmc ≡ other_esmc → line_made up esmc ≡ line_made other_up other_esmc
line-made up esmc other_up other_esmc first second = rw (first, second) refl

abbrev source_made : Bool → Level → Level → SourceSignal
source_made up said level = record { up = up; said = said; level = level }

source-made : (up other_up : Bool) (said other_said level other_level : Level) → up ≡ other_up → said ≡ other_said → level ≡ other_level
    → source_made up said level ≡ source_made other_up other_said other_level
source-made up other_up said other_said level other_level first second third = rw (first, second, third) refl

-- the four walks, from what was kept and told, by what the sources and the lists are between, to
-- what is now
module _ (plan : Topology) (well : IsWellFormed plan) (events : List Event) (was now : Taking) (between : List SourceSignal) (told_between : Tellings)
    (lines : AreLinesNoted plan events [] was.lines now.lines was.marks now.marks)
    (sources : AreSourcesNoted events [] was.sources between)
    (first : AreTold (all_words plan events) was.tellings told_between)
    (second : AreTold (all_level_words plan between events) told_between now.tellings)
    (levels : AreSourcesSettled events [] between now.sources)
    (count : length between ≡ length plan.sources) (of_option : AreOfOption plan.option between) where
  source-up : (source : ℕ) → (source_at now.sources source).up ≡ unwrap_or (last_word (says_input_up (Source source)) events) (source_at was.sources source).up
  source-up source = ap (λ s. s.up) (levels.same source) ∙ sources.up source

  source-said : (source : ℕ) → (source_at now.sources source).said ≡ unwrap_or (last_word (says_source_level source) events) (source_at was.sources source).said
  source-said source = ap (λ s. s.said) (levels.same source) ∙ sources.said source

  source-level : (source : ℕ) → IsSettled (source_at was.sources source)
      → (source_at now.sources source).level ≡ (if (source_at now.sources source).up then (source_at now.sources source).said else (source_at was.sources source).level)
  source-level source was_settled = by (list_any (names_source source) events) refl (levels.source source)
    where
      -- where it is named
      named : source_at now.sources source ≡ settled (source_at between source)
          → (source_at now.sources source).level ≡ (if (source_at now.sources source).up then (source_at now.sources source).said else (source_at was.sources source).level)
      named is =
          ap (λ s. s.level) is
          ∙ ap (λ level. if (source_at between source).up then (source_at between source).said else level) (sources.level source)
          ∙ sym (ap (λ s. if s.up then s.said else (source_at was.sources source).level) is)

      same_level : (b : Bool) → (source_at was.sources source).up ≡ b
          → (source_at was.sources source).level ≡ (if b then (source_at was.sources source).said else (source_at was.sources source).level)
      same_level true is = was_settled is
      same_level false is = refl

      -- where it isn't, it is as it was
      unnamed : list_any (names_source source) events ≡ false → (source_at now.sources source).level ≡ (source_at was.sources source).level
          → (source_at now.sources source).level ≡ (if (source_at now.sources source).up then (source_at now.sources source).said else (source_at was.sources source).level)
      unnamed none same =
          let up : (source_at now.sources source).up ≡ (source_at was.sources source).up =
          source-up source ∙ ap (λ o. unwrap_or o (source_at was.sources source).up) (no-word (says_input_up (Source source)) (names_source source) (λ event. unnamed-up source event.what) events none) in
          let said : (source_at now.sources source).said ≡ (source_at was.sources source).said =
          source-said source ∙ ap (λ o. unwrap_or o (source_at was.sources source).said) (no-word (says_source_level source) (names_source source) (λ event. unnamed-level source event.what) events none) in
          same
          ∙ same_level (source_at was.sources source).up refl
          ∙ sym (ap (λ b. if b then (source_at now.sources source).said else (source_at was.sources source).level) up
          ∙ ap (λ l. if (source_at was.sources source).up then l else (source_at was.sources source).level) said)

      by : (b : Bool) → list_any (names_source source) events ≡ b → source_at now.sources source ≡ settle_if b (source_at between source)
          → (source_at now.sources source).level ≡ (if (source_at now.sources source).up then (source_at now.sources source).said else (source_at was.sources source).level)
      by true is settles = named settles
      by false is settles = unnamed is (ap (λ s. s.level) settles ∙ sources.level source)

  are-noted : (heards : List (Option Level)) → AreNoted plan events (kept_in was heards) (kept_in now heards)
  are-noted heards = record {
    line_up = λ line nominated. lines.up line;
    line_esmc = λ line nominated. lines.esmc line;
    source_up = λ source nominated. source-up source;
    source_said = λ source nominated. source-said source;
    source_level = λ source nominated was_settled. source-level source was_settled;
  }

  -- all that an element is told
  list : (element : ℕ) → told_to now.tellings element ≡ (told_to was.tellings element ++ all_words plan events element) ++ all_level_words plan between events element
  list element = second.list element ∙ ap (λ w. w ++ all_level_words plan between events element) (first.list element)

  flag : (element : ℕ) → is_active now.tellings element
      ≡ ((is_active was.tellings element || is_something (all_words plan events element)) || is_something (all_level_words plan between events element))
  flag element = second.flag element ∙ ap (λ b. b || is_something (all_level_words plan between events element)) (first.flag element)

  now-up : (heards : List (Option Level)) (input : InputId)
      → unwrap_or (last_word (says_input_up input) events) (kept_up (kept_in was heards) input) ≡ kept_up (kept_in now heards) input
  now-up heards (Line line) = sym (lines.up line.0)
  now-up heards (Source source) = sym (source-up source)

  now-level : (heards : List (Option Level)) (input : InputId)
      → unwrap_or (all-named-level input between events) (kept_level (kept_in was heards) input) ≡ kept_level (kept_in now heards) input
  now-level heards (Line line) = refl
  now-level heards (Source source) = by (list_any (names_source source) events) (levels.source source)
    where
      by : (b : Bool) → source_at now.sources source ≡ settle_if b (source_at between source)
          → unwrap_or (if b then Some (Some (settled (source_at between source)).level) else None) (Some (source_at was.sources source).level)
          ≡ Some (source_at now.sources source).level
      by true settles = ap (λ s. Some s.level) (sym settles)
      by false settles = ap Some (sym (ap (λ s. s.level) settles ∙ sources.level source))

  words-told : (heards : List (Option Level)) (element : ℕ) → element < length plan.elements
      → IsTold plan (kept_in was heards) (kept_in now heards) events element (all_words plan events element ++ all_level_words plan between events element)
  words-told heards element within = record {
    fits = All-append (FitsElement (settings_of plan element)) (all_words plan events element) (all_level_words plan between events element)
        (all-fit plan element well within events) (levels-fit plan element well within between count of_option events);
    up = λ i input at.
        ap (λ o. unwrap_or o (kept_up (kept_in was heards) input))
        (last_said-append (says_up i) (all_words plan events element) (all_level_words plan between events element)
        ∙ ap (λ o. option_or o (last_said (says_up i) (all_words plan events element))) (levels-up plan element i input at between events)
        ∙ all-up plan element i input at events)
        ∙ now-up heards input;
    level = λ i input at.
        ap (λ o. unwrap_or o (kept_level (kept_in was heards) input))
        (last_said-append (says_level i) (all_words plan events element) (all_level_words plan between events element)
        ∙ ap (option_or (last_said (says_level i) (all_level_words plan between events element))) (all-level plan element i input at events)
        ∙ option_or-none (last_said (says_level i) (all_level_words plan between events element))
        ∙ levels-level plan element i input at between events)
        ∙ now-level heards input;
    clear = λ i input at.
        list_any-append (clears i) (all_words plan events element) (all_level_words plan between events element)
        ∙ ap (λ b. list_any (clears i) (all_words plan events element) || b) (levels-clear plan element i input at between events)
        ∙ or-false (list_any (clears i) (all_words plan events element))
        ∙ all-clear plan element i input at events;
    commands =
        commands_in-append (all_words plan events element) (all_level_words plan between events element)
        ∙ ap (λ cs. commands_in (all_words plan events element) ++ cs) (levels-commands plan element between events)
        ∙ append-nil (commands_in (all_words plan events element))
        ∙ all-commands plan element events;
  }

  are-told : (heards : List (Option Level)) (element : ℕ) → element < length plan.elements → told_to was.tellings element ≡ []
      → IsTold plan (kept_in was heards) (kept_in now heards) events element (told_to now.tellings element)
  are-told heards element within none =
      subst (IsTold plan (kept_in was heards) (kept_in now heards) events element)
      (sym (list element ∙ ap (λ w. (w ++ all_words plan events element) ++ all_level_words plan between events element) none))
      (words-told heards element within)

  -- where there are no words all is as it was
  unspoken : (element : ℕ) → all_words plan events element ≡ [] → all_level_words plan between events element ≡ []
      → told_to now.tellings element ≡ told_to was.tellings element
  unspoken element none neither =
      list element
      ∙ ap (λ w. (told_to was.tellings element ++ all_words plan events element) ++ w) neither
      ∙ append-nil (told_to was.tellings element ++ all_words plan events element)
      ∙ ap (λ w. told_to was.tellings element ++ w) none
      ∙ append-nil (told_to was.tellings element)

  stays-inactive : (element : ℕ) → is_active now.tellings element ≡ false → told_to now.tellings element ≡ told_to was.tellings element
  stays-inactive element not_active =
      let both = or_parts (is_active was.tellings element || is_something (all_words plan events element)) (is_something (all_level_words plan between events element)) (sym (flag element) ∙ not_active) in
      let parts = or_parts (is_active was.tellings element) (is_something (all_words plan events element)) both.0 in
      unspoken element (nothing-is (all_words plan events element) parts.1) (nothing-is (all_level_words plan between events element) both.1)

  stays-active : (element : ℕ) → is_active was.tellings element ≡ true → is_active now.tellings element ≡ true
  stays-active element active = flag element ∙ ap (λ b. (b || is_something (all_words plan events element)) || is_something (all_level_words plan between events element)) active

  becomes-active : (element : ℕ) → is_active was.tellings element ≡ false → is_active now.tellings element ≡ true
      → list_any (λ event. touches plan element event.what) events ≡ true
  becomes-active element not_active active = by (list_any (λ event. touches plan element event.what) events) refl
    where
      by : (b : Bool) → list_any (λ event. touches plan element event.what) events ≡ b → b ≡ true
      by true is = refl
      by false is = absurd (true≢false (sym active ∙ flag element
          ∙ ap (λ b. (b || is_something (all_words plan events element)) || is_something (all_level_words plan between events element)) not_active
          ∙ ap (λ w. is_something w || is_something (all_level_words plan between events element)) (all-away plan element events is)
          ∙ ap is_something (levels-away plan between element events is)))

  -- a line that no event switches is as it was
  unswitched-line : (line : ℕ) → list_any (λ event. switches_line line event.what) events ≡ false → line_at now.lines line ≡ line_at was.lines line
  unswitched-line line none =
      line-made (line_at now.lines line).up (line_at now.lines line).esmc (line_at was.lines line).up (line_at was.lines line).esmc
      (lines.up line ∙ ap (λ o. unwrap_or o (line_at was.lines line).up) (no-word (says_input_up (line_input line)) (λ event. switches_line line event.what) (λ event other. (silent event other).0) events none))
      (lines.esmc line ∙ ap (λ o. unwrap_or o (line_at was.lines line).esmc) (no-word (says_esmc line) (λ event. switches_line line event.what) (λ event other. (silent event other).1) events none))
    where
      silent : (event : Event) → switches_line line event.what ≡ false → (says_input_up (line_input line) event.what ≡ None) × (says_esmc line event.what ≡ None)
      silent event other =
          let both = or_parts (is_some (says_input_up (line_input line) event.what)) (is_some (says_esmc line event.what)) other in
          (is_some-false (says_input_up (line_input line) event.what) both.0, is_some-false (says_esmc line event.what) both.1)

  unnamed-line : (line : ℕ) → IsNominated plan line → is_marked now.marks line ≡ false → line_at now.lines line ≡ line_at was.lines line
  unnamed-line line nominated not_marked = unswitched-line line (unnamed-unswitched plan line nominated events none)
    where
      none : list_any (names_line plan line) events ≡ false
      none = (or_parts (list_any (names_line plan line) events) (is_marked was.marks line) (sym (lines.marked line) ∙ not_marked)).0

  -- and a source that none names
  unnamed-source : (source : ℕ) → list_any (names_source source) events ≡ false → source_at now.sources source ≡ source_at was.sources source
  unnamed-source source none =
      levels.source source ∙ ap (λ named. settle_if named (source_at between source)) none
      ∙ source-made (source_at between source).up (source_at was.sources source).up
      (source_at between source).said (source_at was.sources source).said (source_at between source).level (source_at was.sources source).level
      (sources.up source ∙ ap (λ o. unwrap_or o (source_at was.sources source).up) (no-word (says_input_up (Source source)) (names_source source) (λ event. unnamed-up source event.what) events none))
      (sources.said source ∙ ap (λ o. unwrap_or o (source_at was.sources source).said) (no-word (says_source_level source) (names_source source) (λ event. unnamed-level source event.what) events none))
      (sources.level source)

  pub are-taken : AreTaken plan events was now
  are-taken = record {
    line_count = lines.count;
    source_count = levels.count ∙ sources.count;
    mark_count = lines.marks;
    list_count = second.count ∙ first.count;
    flag_count = second.flags_count ∙ first.flags_count;
    noted = are-noted;
    told = are-told;
    inactive = stays-inactive;
    stays_active = stays-active;
    becomes_active = becomes-active;
    marked = lines.marked;
    unmarked = unnamed-line;
    unswitched = unswitched-line;
    unnamed = unnamed-source;
  }
