-- What the words on levels in which elements are told of events say of their inputs.
use Rattle.std.proofs.Common.{◌≡◌, ℕ, Bool, true, false, ◌||◌, List, [], ◌∷◌, ◌++◌, Option, None, Some, slice_get, refl, ap, sym, ◌∙◌}
use Rattle.std.specs.Prelude.{nat_eq, if◌then◌else◌}
use Rattle.std.specs.List.{list_any}
use Rattle.std.specs.Option.{option_or}
use Rattle.std.proofs.lemmas.Bool.{eqb-true}
use Rattle.std.proofs.lemmas.List.Folds.{list_any-append}
use Rattle.sync_ql.specs.declared.levels.Level.{Level}
use Rattle.sync_ql.specs.Told.{last_said, says_up, says_level, clears, commands_in}
use Rattle.sync_topo.specs.declared.input.InputId.{InputId}
use Rattle.sync_topo.specs.declared.input.InputId.TheVariants.{Line, Source}
use Rattle.sync_topo.specs.declared.event.Event.{Event}
use Rattle.sync_topo.specs.Topology.{Topology}
use Rattle.sync_topo.specs.Lines.{inputs_of, is_same_input, place_at}
use Rattle.net_words.specs.declared.input_words.Saying.TheVariants.{HasLevel}
use Rattle.sync_net.specs.declared.signals.SourceSignal.{SourceSignal}
use Rattle.sync_net.specs.private.Noting.{source_at}
use Rattle.sync_net.specs.Named.{named_source, is_it, names_source}
use Rattle.sync_net.specs.private.SourceLevels.{settled, level_words, all_level_words}
use Rattle.net_words.proofs.WordLaws.{no-up, no-clear, level-word, no-command, last_said-append, commands_in-append}

-- the level of the source that an event names, where that is the input
abbrev pub named-level : InputId → List SourceSignal → Option ℕ → Option (Option Level)
named-level (Line line) sources named = None
named-level (Source source) sources named = if is_it named source then Some (Some (settled (source_at sources source)).level) else None

none-named : (input : InputId) (sources : List SourceSignal) → named-level input sources None ≡ None
none-named (Line line) sources = refl
none-named (Source source) sources = refl

some-named : (input : InputId) (sources : List SourceSignal) (source : ℕ)
    → (if is_same_input input (Source source) then Some (Some (settled (source_at sources source)).level) else None) ≡ named-level input sources (Some source)
some-named (Line line) sources source = refl
some-named (Source own) sources source = by (nat_eq own source) refl
  where
    by : (b : Bool) → nat_eq own source ≡ b
        → (if b then Some (Some (settled (source_at sources source)).level) else None) ≡ (if b then Some (Some (settled (source_at sources own)).level) else None)
    by true is = ap (λ s. Some (Some (settled (source_at sources s)).level)) (sym (eqb-true own source is))
    by false is = refl

-- and so by all of some events
abbrev pub all-named-level : InputId → List SourceSignal → List Event → Option (Option Level)
all-named-level (Line line) sources events = None
all-named-level (Source source) sources events =
    if list_any (names_source source) events then Some (Some (settled (source_at sources source)).level) else None

no-named : (input : InputId) (sources : List SourceSignal) → all-named-level input sources [] ≡ None
no-named (Line line) sources = refl
no-named (Source source) sources = refl

more-named : (input : InputId) (sources : List SourceSignal) (event : Event) (events : List Event)
    → option_or (all-named-level input sources events) (named-level input sources (named_source event.what)) ≡ all-named-level input sources (event ∷ events)
more-named (Line line) sources event events = refl
more-named (Source source) sources event events = by (list_any (names_source source) events) (names_source source event)
  where
    by : (later here : Bool)
        → option_or (if later then Some (Some (settled (source_at sources source)).level) else None) (if here then Some (Some (settled (source_at sources source)).level) else None)
        ≡ (if here || later then Some (Some (settled (source_at sources source)).level) else None)
    by true true = refl
    by true false = refl
    by false true = refl
    by false false = refl

-- for the input at a place of an element
module _ (plan : Topology) (element i : ℕ) (input : InputId) (at : slice_get (inputs_of plan element) i ≡ Some input) where
  -- words on levels say nothing else of it
  level-up : (sources : List SourceSignal) (named : Option ℕ) → last_said (says_up i) (level_words plan sources named element) ≡ None
  level-up sources None = refl
  level-up sources (Some source) = no-up plan element i input at (HasLevel (settled (source_at sources source)).level) (Source source) refl

  pub levels-up : (sources : List SourceSignal) (events : List Event) → last_said (says_up i) (all_level_words plan sources events element) ≡ None
  levels-up sources [] = refl
  levels-up sources (event ∷ events) =
      last_said-append (says_up i) (level_words plan sources (named_source event.what) element) (all_level_words plan sources events element)
      ∙ ap (λ o. option_or o (last_said (says_up i) (level_words plan sources (named_source event.what) element))) (levels-up sources events)
      ∙ level-up sources (named_source event.what)

  level-clear : (sources : List SourceSignal) (named : Option ℕ) → list_any (clears i) (level_words plan sources named element) ≡ false
  level-clear sources None = refl
  level-clear sources (Some source) = no-clear plan element i input at (HasLevel (settled (source_at sources source)).level) (Source source) refl

  pub levels-clear : (sources : List SourceSignal) (events : List Event) → list_any (clears i) (all_level_words plan sources events element) ≡ false
  levels-clear sources [] = refl
  levels-clear sources (event ∷ events) =
      list_any-append (clears i) (level_words plan sources (named_source event.what) element) (all_level_words plan sources events element)
      ∙ ap (λ b. b || list_any (clears i) (all_level_words plan sources events element)) (level-clear sources (named_source event.what))
      ∙ levels-clear sources events

  level-level : (sources : List SourceSignal) (named : Option ℕ) → last_said (says_level i) (level_words plan sources named element) ≡ named-level input sources named
  level-level sources None = sym (none-named input sources)
  level-level sources (Some source) = level-word plan element i input at (HasLevel (settled (source_at sources source)).level) (Source source) ∙ some-named input sources source

  pub levels-level : (sources : List SourceSignal) (events : List Event) → last_said (says_level i) (all_level_words plan sources events element) ≡ all-named-level input sources events
  levels-level sources [] = sym (no-named input sources)
  levels-level sources (event ∷ events) =
      last_said-append (says_level i) (level_words plan sources (named_source event.what) element) (all_level_words plan sources events element)
      ∙ ap (λ o. option_or o (last_said (says_level i) (level_words plan sources (named_source event.what) element))) (levels-level sources events)
      ∙ ap (option_or (all-named-level input sources events)) (level-level sources (named_source event.what))
      ∙ more-named input sources event events

pub levels-commands : (plan : Topology) (element : ℕ) (sources : List SourceSignal) (events : List Event) → commands_in (all_level_words plan sources events element) ≡ []
levels-commands plan element sources [] = refl
levels-commands plan element sources (event ∷ events) =
    commands_in-append (level_words plan sources (named_source event.what) element) (all_level_words plan sources events element)
    ∙ ap (λ cs. cs ++ commands_in (all_level_words plan sources events element)) (one (named_source event.what))
    ∙ levels-commands plan element sources events
  where
    one : (named : Option ℕ) → commands_in (level_words plan sources named element) ≡ []
    one None = refl
    one (Some source) = no-command (HasLevel (settled (source_at sources source)).level) (place_at plan element (Source source)) (λ k. refl)
