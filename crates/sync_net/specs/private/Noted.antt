-- Private to this crate: what the events of a millisecond make of what is kept of lines and
-- sources.
use Rattle.std.specs.Prelude.{◌≡◌, ℕ, true, if◌then◌else◌, List, unwrap_or}
use Rattle.sync_topo.specs.declared.input.InputId.TheVariants.{Source}
use Rattle.sync_topo.specs.declared.event.Event.{Event}
use Rattle.sync_topo.specs.Topology.{Topology}
use Rattle.sync_topo.specs.Lines.{line_input, IsNominated}
use Rattle.net_rules.specs.Signals.{last_word, says_up, says_esmc, says_level}
use Rattle.sync_net.specs.declared.signals.SourceSignal.{SourceSignal}
use Rattle.sync_net.specs.Kept.{Kept, line_signal, source_signal}
use Rattle.sync_net.specs.Standing.{IsNominatedSource}

-- a source that is up has the level that was said last
abbrev pub IsSettled : SourceSignal → Type 0
IsSettled source = source.up ≡ true → source.level ≡ source.said

-- what the events say of nominated lines and sources is kept, and else what was; and a source has
-- the level said last while it is up, and while it is down the one that it had
pub record AreNoted (plan : Topology) (events : List Event) (was now : Kept) : Type 0 where
  pub line_up : (line : ℕ) → IsNominated plan line →
      (line_signal now line).up ≡ unwrap_or (last_word (says_up (line_input line)) events) (line_signal was line).up
  pub line_esmc : (line : ℕ) → IsNominated plan line →
      (line_signal now line).esmc ≡ unwrap_or (last_word (says_esmc line) events) (line_signal was line).esmc
  pub source_up : (source : ℕ) → IsNominatedSource plan source →
      (source_signal now source).up ≡ unwrap_or (last_word (says_up (Source source)) events) (source_signal was source).up
  pub source_said : (source : ℕ) → IsNominatedSource plan source →
      (source_signal now source).said ≡ unwrap_or (last_word (says_level source) events) (source_signal was source).said
  pub source_level : (source : ℕ) → IsNominatedSource plan source → IsSettled (source_signal was source) →
      (source_signal now source).level
      ≡ (if (source_signal now source).up then (source_signal now source).said else (source_signal was source).level)
