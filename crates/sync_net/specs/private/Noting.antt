-- Private to this crate: what events make of lines and sources, and of the marks of lines.
use Rattle.std.specs.Prelude.{◌≡◌, ◌<◌, ℕ, Bool, true, ◌&&◌, ◌||◌, if◌then◌else◌, List, length, slice_index_or, slice_set, unwrap_or}
use Rattle.std.specs.List.{list_any}
use Rattle.sync_ql.specs.declared.levels.NetOption.{NetOption}
use Rattle.sync_topo.specs.declared.input.InputId.TheVariants.{Source}
use Rattle.sync_topo.specs.declared.event.Event.{Event}
use Rattle.sync_topo.specs.Topology.{Topology}
use Rattle.sync_topo.specs.Lines.{line_input, is_nominated}
use Rattle.net_rules.specs.Signals.{last_word, says_up, says_esmc, says_level}
use Rattle.net_rules.specs.Settling.{switches_line}
use Rattle.agenda.specs.Called.{is_marked}
use Rattle.sync_net.specs.declared.signals.LineSignal.{LineSignal}
use Rattle.sync_net.specs.declared.signals.SourceSignal.{SourceSignal}
use Rattle.sync_net.specs.Kept.{no_source}

-- a line and a source by number
abbrev pub line_at : List LineSignal → ℕ → LineSignal
line_at lines line = slice_index_or lines line (record { up = true; esmc = true })

abbrev pub source_at : List SourceSignal → ℕ → SourceSignal
source_at sources source = slice_index_or sources source no_source

-- a line's signal or its ESMC changed, and a mark set where the line is nominated
abbrev pub with_up : List LineSignal → ℕ → Bool → List LineSignal
with_up lines line up = slice_set lines line (record { up = up; esmc = (line_at lines line).esmc })

abbrev pub with_esmc : List LineSignal → ℕ → Bool → List LineSignal
with_esmc lines line on = slice_set lines line (record { up = (line_at lines line).up; esmc = on })

abbrev pub with_mark : Topology → List Bool → ℕ → List Bool
with_mark plan flags line = if is_nominated plan line then slice_set flags line true else flags

-- the levels of sources are of an option
pub record IsSourceOf (option : NetOption) (source : SourceSignal) : Type 0 where
  pub said : source.said.option ≡ option
  pub level : source.level.option ≡ option

abbrev pub AreOfOption : NetOption → List SourceSignal → Type 0
AreOfOption option sources = (source : ℕ) → source < length sources → IsSourceOf option (source_at sources source)

-- an event switches a nominated line
abbrev pub names_line : Topology → ℕ → Event → Bool
names_line plan line event = is_nominated plan line && switches_line line event.what

-- what is left of some events makes of the lines now what all the events make of those before; and
-- of the marks of the nominated lines that they name
pub record AreLinesNoted (plan : Topology) (all left : List Event) (before now : List LineSignal) (marked_before marked_now : List Bool) : Type 0 where
  pub count : length now ≡ length before
  pub marks : length marked_now ≡ length marked_before
  pub up : (line : ℕ) → unwrap_or (last_word (says_up (line_input line)) left) (line_at now line).up
      ≡ unwrap_or (last_word (says_up (line_input line)) all) (line_at before line).up
  pub esmc : (line : ℕ) → unwrap_or (last_word (says_esmc line) left) (line_at now line).esmc
      ≡ unwrap_or (last_word (says_esmc line) all) (line_at before line).esmc
  pub marked : (line : ℕ) → (list_any (names_line plan line) left || is_marked marked_now line)
      ≡ (list_any (names_line plan line) all || is_marked marked_before line)

-- the same of sources, whose levels stay
pub record AreSourcesNoted (all left : List Event) (before now : List SourceSignal) : Type 0 where
  pub count : length now ≡ length before
  pub up : (source : ℕ) → unwrap_or (last_word (says_up (Source source)) left) (source_at now source).up
      ≡ unwrap_or (last_word (says_up (Source source)) all) (source_at before source).up
  pub said : (source : ℕ) → unwrap_or (last_word (says_level source) left) (source_at now source).said
      ≡ unwrap_or (last_word (says_level source) all) (source_at before source).said
  pub level : (source : ℕ) → (source_at now source).level ≡ (source_at before source).level
