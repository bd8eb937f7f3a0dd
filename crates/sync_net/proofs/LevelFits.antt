-- The words on levels fit the elements, and only events that touch one have some.
use Rattle.std.proofs.Common.{◌≡◌, ◌<◌, ℕ, Bool, true, false, List, [], ◌∷◌, ◌++◌, length, Option, None, Some, refl, ap, sym, subst, ◌∙◌}
use Rattle.std.specs.Prelude.{if◌then◌else◌, All}
use Rattle.std.specs.List.{list_any}
use Rattle.std.proofs.lemmas.Bool.{or_parts}
use Rattle.std.proofs.lemmas.List.Elements.{All-nil, All-append}
use Rattle.sync_ql.specs.Told.{FitsElement}
use Rattle.sync_topo.specs.declared.input.InputId.TheVariants.{Source}
use Rattle.sync_topo.specs.declared.event.Part.TheVariants as part
use Rattle.sync_topo.specs.declared.event.What.{What}
use Rattle.sync_topo.specs.declared.event.What.TheVariants.{Down, Up, EsmcOff, EsmcOn, SourceLevel, Lockout, Unlock, Forced, Manual, Clear, ClearWtr}
use Rattle.sync_topo.specs.declared.event.Event.{Event}
use Rattle.sync_topo.specs.Topology.{Topology}
use Rattle.sync_topo.specs.WellFormed.{IsWellFormed}
use Rattle.net_rules.specs.Activity.{touches}
use Rattle.net_rules.specs.History.{settings_of}
use Rattle.net_words.specs.declared.input_words.Saying.TheVariants.{HasLevel}
use Rattle.sync_net.specs.declared.signals.SourceSignal.{SourceSignal}
use Rattle.sync_net.specs.private.Noting.{source_at, IsSourceOf, AreOfOption}
use Rattle.sync_net.specs.Named.{named_source}
use Rattle.sync_net.specs.private.SourceLevels.{settled, level_words, all_level_words}
use Rattle.net_words.proofs.FitLaws.{word-fits, away}

-- words on levels fit an element of a plan
module _ (plan : Topology) (element : ℕ) (well : IsWellFormed plan) (within : element < length plan.elements) where
  level-fits : (sources : List SourceSignal) → length sources ≡ length plan.sources → AreOfOption plan.option sources → (named : Option ℕ)
      → All (FitsElement (settings_of plan element)) (level_words plan sources named element)
  level-fits sources count of_option None = All-nil (FitsElement (settings_of plan element))
  level-fits sources count of_option (Some source) =
      word-fits plan element well within (HasLevel (settled (source_at sources source)).level) (Source source)
      (λ of. settled-fits (source_at sources source) (of_option source (subst (λ n. source < n) (sym count) of.has)))
    where
      settled-fits : (one : SourceSignal) → IsSourceOf plan.option one → (settled one).level.option ≡ plan.option
      settled-fits one fits = by one.up
        where
          by : (b : Bool) → (if b then one.said else one.level).option ≡ plan.option
          by true = fits.said
          by false = fits.level

  pub levels-fit : (sources : List SourceSignal) → length sources ≡ length plan.sources → AreOfOption plan.option sources → (events : List Event)
      → All (FitsElement (settings_of plan element)) (all_level_words plan sources events element)
  levels-fit sources count of_option [] = All-nil (FitsElement (settings_of plan element))
  levels-fit sources count of_option (event ∷ events) =
      All-append (FitsElement (settings_of plan element)) (level_words plan sources (named_source event.what) element) (all_level_words plan sources events element)
      (level-fits sources count of_option (named_source event.what)) (levels-fit sources count of_option events)

-- only events that touch an element tell it a level
level-away : (plan : Topology) (sources : List SourceSignal) (element : ℕ) (what : What) → touches plan element what ≡ false
    → level_words plan sources (named_source what) element ≡ []
level-away plan sources element (Down (part.Link link)) other = refl
level-away plan sources element (Down (part.Line line)) other = refl
level-away plan sources element (Down (part.Source source)) other = away plan element (HasLevel (settled (source_at sources source)).level) (Source source) other
level-away plan sources element (Up (part.Link link)) other = refl
level-away plan sources element (Up (part.Line line)) other = refl
level-away plan sources element (Up (part.Source source)) other = away plan element (HasLevel (settled (source_at sources source)).level) (Source source) other
level-away plan sources element (SourceLevel source level) other = away plan element (HasLevel (settled (source_at sources source)).level) (Source source) other
level-away plan sources element (EsmcOff line) other = refl
level-away plan sources element (EsmcOn line) other = refl
level-away plan sources element (Lockout input) other = refl
level-away plan sources element (Unlock input) other = refl
level-away plan sources element (Forced input) other = refl
level-away plan sources element (Manual input) other = refl
level-away plan sources element (Clear one) other = refl
level-away plan sources element (ClearWtr input) other = refl

pub levels-away : (plan : Topology) (sources : List SourceSignal) (element : ℕ) (events : List Event) → list_any (λ event. touches plan element event.what) events ≡ false
    → all_level_words plan sources events element ≡ []
levels-away plan sources element [] none = refl
levels-away plan sources element (event ∷ events) none =
    let both = or_parts (touches plan element event.what) (list_any (λ event. touches plan element event.what) events) none in
    ap (λ w. w ++ all_level_words plan sources events element) (level-away plan sources element event.what both.0) ∙ levels-away plan sources element events both.1
