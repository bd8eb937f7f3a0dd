-- Private to this crate: what the events of a millisecond make of all that is kept and told.
use Rattle.std.specs.Prelude.{◌≡◌, ◌<◌, ℕ, Bool, true, false, ◌||◌, List, [], length, Option}
use Rattle.std.specs.List.{list_any}
use Rattle.sync_ql.specs.declared.levels.Level.{Level}
use Rattle.sync_topo.specs.declared.event.Event.{Event}
use Rattle.sync_topo.specs.Topology.{Topology}
use Rattle.sync_topo.specs.Lines.{IsNominated}
use Rattle.net_rules.specs.Activity.{touches}
use Rattle.net_rules.specs.Settling.{switches_line}
use Rattle.sync_net.specs.declared.signals.LineSignal.{LineSignal}
use Rattle.sync_net.specs.declared.signals.SourceSignal.{SourceSignal}
use Rattle.net_words.specs.declared.tellings.Tellings.{Tellings}
use Rattle.sync_net.specs.Kept.{Kept}
use Rattle.sync_net.specs.private.Noted.{AreNoted}
use Rattle.agenda.specs.Called.{is_marked}
use Rattle.sync_net.specs.Named.{names_source}
use Rattle.sync_net.specs.private.Noting.{line_at, source_at, names_line}
use Rattle.sync_net.specs.private.Telling.{IsTold}
use Rattle.net_words.specs.Tellings.{told_to, is_active}

-- the lines, the sources, the marks of lines, and what elements are told
pub record Taking : Type 0 where
  pub lines : List LineSignal
  pub sources : List SourceSignal
  pub marks : List Bool
  pub tellings : Tellings

abbrev pub kept_in : Taking → List (Option Level) → Kept
kept_in taking heards = record { lines = taking.lines; sources = taking.sources; heards = heards }

-- the events are taken in, whatever is heard
pub record AreTaken (plan : Topology) (events : List Event) (was now : Taking) : Type 0 where
  pub line_count : length now.lines ≡ length was.lines
  pub source_count : length now.sources ≡ length was.sources
  pub mark_count : length now.marks ≡ length was.marks
  pub list_count : length now.tellings.changes.items ≡ length was.tellings.changes.items
  pub flag_count : length now.tellings.active.flags ≡ length was.tellings.active.flags
  pub noted : (heards : List (Option Level)) → AreNoted plan events (kept_in was heards) (kept_in now heards)
  -- an element that was told nothing before is told all of it
  pub told : (heards : List (Option Level)) (element : ℕ) → element < length plan.elements → told_to was.tellings element ≡ [] →
      IsTold plan (kept_in was heards) (kept_in now heards) events element (told_to now.tellings element)
  -- an element that isn't active is told nothing more; one that becomes active is touched by an
  -- event
  pub inactive : (element : ℕ) → is_active now.tellings element ≡ false → told_to now.tellings element ≡ told_to was.tellings element
  pub stays_active : (element : ℕ) → is_active was.tellings element ≡ true → is_active now.tellings element ≡ true
  pub becomes_active : (element : ℕ) → is_active was.tellings element ≡ false → is_active now.tellings element ≡ true →
      list_any (λ event. touches plan element event.what) events ≡ true
  -- just the nominated lines that an event names are marked besides; a nominated line that isn't
  -- marked is as it was
  pub marked : (line : ℕ) → is_marked now.marks line ≡ (list_any (names_line plan line) events || is_marked was.marks line)
  pub unmarked : (line : ℕ) → IsNominated plan line → is_marked now.marks line ≡ false → line_at now.lines line ≡ line_at was.lines line
  -- a line that no event switches is as it was, and a source that none names
  pub unswitched : (line : ℕ) → list_any (λ event. switches_line line event.what) events ≡ false → line_at now.lines line ≡ line_at was.lines line
  pub unnamed : (source : ℕ) → list_any (names_source source) events ≡ false → source_at now.sources source ≡ source_at was.sources source
