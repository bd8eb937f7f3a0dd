-- Private to this crate: what events make of the levels of sources, and the words in which that is
-- told.
use Rattle.std.specs.Prelude.{◌≡◌, ℕ, Bool, if◌then◌else◌, List, [], ◌∷◌, ◌++◌, length, Option, None, Some}
use Rattle.std.specs.List.{list_any}
use Rattle.sync_ql.specs.declared.rules.InputEvent.{InputEvent}
use Rattle.sync_topo.specs.declared.input.InputId.TheVariants.{Source}
use Rattle.sync_topo.specs.declared.event.Event.{Event}
use Rattle.sync_topo.specs.Topology.{Topology}
use Rattle.sync_net.specs.declared.signals.SourceSignal.{SourceSignal}
use Rattle.net_words.specs.declared.input_words.Saying.TheVariants.{HasLevel}
use Rattle.sync_net.specs.Named.{named_source, names_source}
use Rattle.sync_net.specs.private.Noting.{source_at}
use Rattle.net_words.specs.Words.{input_words}

-- a source that is up has the level that was said last
abbrev pub settled : SourceSignal → SourceSignal
settled source = record { up = source.up; said = source.said; level = if source.up then source.said else source.level }

abbrev pub settle_if : Bool → SourceSignal → SourceSignal
settle_if named source = if named then settled source else source

-- what is left of some events settles the sources now as all the events level_now those before
pub record AreSourcesSettled (all left : List Event) (before now : List SourceSignal) : Type 0 where
  pub count : length now ≡ length before
  pub same : (source : ℕ) → settled (source_at now source) ≡ settled (source_at before source)
  pub source : (source : ℕ) → settle_if (list_any (names_source source) left) (source_at now source)
      ≡ settle_if (list_any (names_source source) all) (source_at before source)

-- an element is told the level of the source that an event names
abbrev pub level_words : Topology → List SourceSignal → Option ℕ → ℕ → List InputEvent
level_words plan sources None element = []
level_words plan sources (Some source) element =
    input_words plan (HasLevel (settled (source_at sources source)).level) (Source source) element

abbrev pub all_level_words : Topology → List SourceSignal → List Event → ℕ → List InputEvent
all_level_words plan sources [] element = []
all_level_words plan sources (event ∷ events) element =
    level_words plan sources (named_source event.what) element ++ all_level_words plan sources events element
