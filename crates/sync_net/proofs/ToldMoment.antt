-- What an element is told makes of its past the millisecond that the rules have.
use Rattle.std.proofs.Common.{◌≡◌, ℕ, zero, suc, List, [], Option, None, Some, slice_get, refl, ap, sym, ◌∙◌}
use Rattle.std.specs.Prelude.{unwrap_or}
use Rattle.std.specs.List.{list_any, filter_map}
use Rattle.sync_ql.specs.declared.levels.Level.{Level}
use Rattle.sync_ql.specs.declared.rules.InputEvent.{InputEvent}
use Rattle.sync_ql.specs.Messages.{heard_at}
use Rattle.sync_ql.specs.Told.{last_said, says_up, says_level, moment_after}
use Rattle.sync_topo.specs.declared.input.InputId.{InputId}
use Rattle.sync_topo.specs.declared.input.InputId.TheVariants.{Line, Source}
use Rattle.sync_topo.specs.declared.event.Event.{Event}
use Rattle.sync_topo.specs.Topology.{Topology}
use Rattle.sync_topo.specs.Lines.{inputs_of}
use Rattle.net_rules.specs.Inputs.{IsInputOf}
use Rattle.net_rules.specs.Signals.{signals_by, events_at, clears as clears_input, command_to, up_at, source_level_at, source_level_before}
use Rattle.net_rules.specs.History.{by_levels, settings_of, first_level, heard, input_level, moment_at, element_past, out_at}
use Rattle.net_rules.specs.Settings.{InputLevels}
use Rattle.net_rules.proofs.SettingLaws.{level_until, IsSaid, told-by}
use Rattle.sync_net.specs.Kept.{Kept}
use Rattle.sync_net.specs.private.Kept.{kept_up, kept_level}
use Rattle.sync_net.specs.Standing.{AreSignals, AreHeard, heard_before}
use Rattle.net_words.specs.Before.{up_before}
use Rattle.sync_net.specs.private.Telling.{IsTold}
use Rattle.net_words.proofs.DistinctInputs.{input-of}
use Rattle.net_words.proofs.SplitWords.{past-up}

-- the level that an input has after n milliseconds
abbrev level_before : Topology → List Event → InputId → ℕ → Option Level
level_before plan all (Line line) n = heard_before plan (signals_by plan all) (out_at plan (signals_by plan all)) line.0 n
level_before plan all (Source source) n = Some (source_level_before plan all source n)

-- what is kept of a nominated input is as it is after n milliseconds
kept-up : (plan : Topology) (kept : Kept) (all : List Event) (n element : ℕ) (input : InputId) → AreSignals plan kept all n → IsInputOf plan element input
    → kept_up kept input ≡ up_before all input n
kept-up plan kept all n element (Line line) signals of = signals.line_up line.0 of.nominated
kept-up plan kept all n element (Source source) signals of = signals.source_up source (record { has = of.has; nominated = of.nominated })

kept-level : (plan : Topology) (kept : Kept) (all : List Event) (n element : ℕ) (input : InputId) → AreSignals plan kept all n → AreHeard plan kept all n
    → IsInputOf plan element input → kept_level kept input ≡ level_before plan all input n
kept-level plan kept all n element (Line line) signals heards of = heards line.0 of.nominated
kept-level plan kept all n element (Source source) signals heards of =
    ap Some (signals.source_level source (record { has = of.has; nominated = of.nominated }))

heard-none : (delay : ℕ) → heard_at delay [] ≡ None
unfolding heard_at
heard-none delay = refl

-- the level of an input after n milliseconds of its element
first-level : (plan : Topology) (all : List Event) (input : InputId) → first_level plan input ≡ level_before plan all input 0
first-level plan all (Line line) = sym (heard-none _)
first-level plan all (Source source) = refl

next-level : (plan : Topology) (all : List Event) (input : InputId) (t : ℕ)
    → input_level (signals_by plan all) (heard plan (signals_by plan all) (out_at plan (signals_by plan all))) input t ≡ level_before plan all input (suc t)
unfolding heard source_level_at
next-level plan all (Line line) t = refl
next-level plan all (Source source) t = refl

past-level : (plan : Topology) (all : List Event) (input : InputId) (n : ℕ)
    → level_until (by_levels plan) (input_level (signals_by plan all) (heard plan (signals_by plan all) (out_at plan (signals_by plan all)))) input n
    ≡ level_before plan all input n
past-level plan all input zero = first-level plan all input
past-level plan all input (suc t) = next-level plan all input t

-- what an element is told in a millisecond makes that millisecond of its past
module _ (plan : Topology) (all events : List Event) (now : ℕ) (was then_kept : Kept) (element : ℕ) (changes : List InputEvent)
    (signals : AreSignals plan was all now) (heards : AreHeard plan was all now)
    (later_signals : AreSignals plan then_kept all (suc now)) (later_heards : AreHeard plan then_kept all (suc now))
    (at : events_at now all ≡ events) (told : IsTold plan was then_kept events element changes) where
  abbrev levels : InputLevels
  levels = input_level (signals_by plan all) (heard plan (signals_by plan all) (out_at plan (signals_by plan all)))

  input-told : (i : ℕ) (input : InputId) → slice_get (inputs_of plan element) i ≡ Some input → IsSaid (by_levels plan) (signals_by plan all) levels changes now i input
  unfolding up_at
  input-told i input place =
      let of : IsInputOf plan element input = input-of plan element i input place in
      record {
        up =
            ap (unwrap_or (last_said (says_up i) changes)) (past-up plan all input now ∙ sym (kept-up plan was all now element input signals of))
            ∙ told.up i input place
            ∙ kept-up plan then_kept all (suc now) element input later_signals of;
        clear = told.clear i input place ∙ ap (list_any (λ event. clears_input input event.what)) (sym at);
        level =
            ap (unwrap_or (last_said (says_level i) changes)) (past-level plan all input now ∙ sym (kept-level plan was all now element input signals heards of))
            ∙ told.level i input place
            ∙ kept-level plan then_kept all (suc now) element input later_signals later_heards of
            ∙ sym (next-level plan all input now);
      }

  pub told-moment : moment_after (settings_of plan element) (element_past plan (signals_by plan all) (out_at plan (signals_by plan all)) element now) changes
      ≡ moment_at plan (signals_by plan all) (heard plan (signals_by plan all) (out_at plan (signals_by plan all))) element now
  unfolding settings_of moment_at
  told-moment =
      told-by (by_levels plan) plan (signals_by plan all) levels element now changes input-told
      (told.commands ∙ ap (filter_map (λ event. command_to plan element event.what)) (sym at))
