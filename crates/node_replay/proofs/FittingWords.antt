-- What the element is told fits it.
use Rattle.std.proofs.Common.{◌≡◌, ◌≤◌, ◌<◌, ◌+◌, ℕ, Bool, true, false, List, [], ◌∷◌, map, length, Option, None, Some, refl, ap, sym, subst, ◌∙◌, arith}
use Rattle.std.specs.Prelude.{nat_eq, if◌then◌else◌, option_map}
use Rattle.std.specs.List.{All, filter_map, cons_option}
use Rattle.std.proofs.lemmas.List.{length-map}
use Rattle.std.proofs.lemmas.Option.{slice_get_within}
use Rattle.sync_text.proofs.Each.{Each-append, all-each}
use Rattle.sync_text.specs.Each.{Each}
use Rattle.sync_ql.specs.declared.rules.Cmd.TheVariants as command
use Rattle.sync_ql.specs.declared.rules.InputEvent.{InputEvent}
use Rattle.sync_ql.specs.declared.rules.InputEvent.TheVariants as tell
use Rattle.sync_ql.specs.declared.levels.Level.{Level}
use Rattle.sync_ql.specs.Told.{FitsElement, IsOfOption}
use Rattle.sync_topo.specs.declared.input.InputId.{InputId}
use Rattle.sync_topo.specs.declared.event.What.{What}
use Rattle.sync_topo.specs.declared.event.What.TheVariants.{Down, Up, EsmcOff, EsmcOn, SourceLevel, Lockout, Unlock, Forced, Manual, Clear, ClearWtr}
use Rattle.sync_topo.specs.Topology.{Topology}
use Rattle.sync_topo.specs.Lines.{inputs_of}
use Rattle.sync_topo.specs.WellFormed.{IsWellFormed}
use Rattle.net_rules.specs.History.{settings_of}
use Rattle.net_rules.proofs.NetLaws.{many-inputs}
use Rattle.net_words.proofs.PlaceLemmas.{found-at}
use Rattle.net_rules.proofs.OwnLevels.{own-option}
use Rattle.node_file.specs.declared.row.NodeWord.{NodeWord}
use Rattle.node_file.specs.declared.row.NodeWord.TheVariants.{Frame, Happens}
use Rattle.node_file.specs.declared.row.NodeRow.{NodeRow}
use Rattle.node_replay.specs.declared.inputs.InputNow.{InputNow}
use Rattle.node_replay.specs.private.Telling.{place_in, word_of, row_word, told_from, all_told}
use Rattle.node_replay.specs.private.Running.{IsKeptOf}

-- a level of the plan's option is one of the element's own
own-level : (plan : Topology) (element : ℕ) (level : Option Level) → IsWellFormed plan → element < length plan.elements
    → IsOfOption plan.option level → IsOfOption (settings_of plan element).own.option level
own-level plan element level well within is = subst (λ o. IsOfOption o level) (sym (own-option plan element well within)) is

module _ (plan : Topology) (element : ℕ) (well : IsWellFormed plan) (within : element < length plan.elements) where
  Fit : List InputEvent → Type 0
  Fit words = Each (FitsElement (settings_of plan element)) words

  found-within : (input : InputId) (i : ℕ) → place_in (inputs_of plan element) input ≡ Some i → i < length (settings_of plan element).priorities
  found-within input i is =
      subst (λ n. i < n) (sym (many-inputs plan element)) (slice_get_within (inputs_of plan element) i input (found-at plan element i input is))

  -- a word on an input is at a place that it has
  placed : (make : ℕ → InputEvent) (input : InputId) → ((i : ℕ) → i < length (settings_of plan element).priorities → FitsElement (settings_of plan element) (make i))
      → Fit (cons_option (option_map make (place_in (inputs_of plan element) input)) [])
  unfolding Fit
  placed make input fits = by (place_in (inputs_of plan element) input) refl
    where
      by : (o : Option ℕ) → place_in (inputs_of plan element) input ≡ o → Each (FitsElement (settings_of plan element)) (cons_option (option_map make o) [])
      by None is = tt
      by (Some i) is = (fits i (found-within input i is), tt)

  word-fits : (what : What) → Fit (cons_option (word_of (inputs_of plan element) element what) [])
  unfolding Fit
  word-fits (Down part) = tt
  word-fits (Up part) = tt
  word-fits (EsmcOff line) = tt
  word-fits (EsmcOn line) = tt
  word-fits (SourceLevel source level) = tt
  word-fits (Lockout input) = placed (λ i. tell.Command (command.Lockout i)) input (λ i inside. inside)
  word-fits (Unlock input) = placed (λ i. tell.Command (command.Unlock i)) input (λ i inside. inside)
  word-fits (Forced input) = placed (λ i. tell.Command (command.Forced i)) input (λ i inside. inside)
  word-fits (Manual input) = placed (λ i. tell.Command (command.Manual i)) input (λ i inside. inside)
  word-fits (Clear other) = by (nat_eq element other)
    where
      by : (b : Bool) → Each (FitsElement (settings_of plan element)) (cons_option (if b then Some (tell.Command command.Clear) else None) [])
      by true = (tt, tt)
      by false = tt
  word-fits (ClearWtr input) = placed tell.ClearWtr input (λ i inside. inside)

  front-fits : (o : Option InputEvent) (words : List InputEvent) → Fit (cons_option o []) → Fit words → Fit (cons_option o words)
  unfolding Fit
  front-fits None words first rest = rest
  front-fits (Some word) words first rest = (first.0, rest)

  row-fits : (at : ℕ) (word : NodeWord) → Fit (cons_option (row_word (inputs_of plan element) element (record { at = at; word = word })) [])
  unfolding Fit
  row-fits at (Frame line level) = tt
  row-fits at (Happens what) = word-fits what

  rows-fit : (here : List NodeRow) → Fit (filter_map (row_word (inputs_of plan element) element) here)
  unfolding Fit
  rows-fit [] = tt
  rows-fit (row ∷ rows) = front-fits (row_word (inputs_of plan element) element row) (filter_map (row_word (inputs_of plan element) element) rows)
      (row-fits row.at row.word) (rows-fit rows)

  told-fits : (place : ℕ) (inputs : List InputNow) → place + length inputs ≤ length (settings_of plan element).priorities
      → Each (IsKeptOf plan.option) inputs → Fit (told_from place inputs)
  unfolding Fit
  told-fits place [] room each = tt
  told-fits place (input ∷ inputs) room each =
      let inside : place < length (settings_of plan element).priorities = omega (arith, room) in
      (inside, ((inside, own-level plan element input.level well within each.0.level), told-fits (place + 1) inputs (omega (arith, room)) each.1))

  pub words-fit : (here : List NodeRow) (inputs : List InputNow) → map (λ input. input.id) inputs ≡ inputs_of plan element
      → Each (IsKeptOf plan.option) inputs → All (FitsElement (settings_of plan element)) (all_told (inputs_of plan element) element here inputs)
  unfolding Fit
  words-fit here inputs ids each =
      let count : length inputs ≡ length (settings_of plan element).priorities =
      sym (length-map inputs (λ input. input.id)) ∙ ap length ids ∙ sym (many-inputs plan element) in
      all-each (FitsElement (settings_of plan element)) (all_told (inputs_of plan element) element here inputs)
      (Each-append (FitsElement (settings_of plan element)) (filter_map (row_word (inputs_of plan element) element) here) (told_from 0 inputs)
      (rows-fit here) (told-fits 0 inputs (omega (arith, count)) each))
