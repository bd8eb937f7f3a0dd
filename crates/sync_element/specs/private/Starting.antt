-- Private to this crate: inputs before the first step.
use Rattle.std.specs.Prelude.{◌≡◌, ◌<◌, ℕ, true, false, not, [], length, map, slice_index_or, Option, None}
use Rattle.sync_ql.specs.declared.levels.Level.{Level}
use Rattle.sync_ql.specs.declared.rules.Cond.TheVariants.{Good}
use Rattle.sync_ql.specs.declared.rules.Candidate.{Candidate}
use Rattle.sync_ql.specs.Selection.{is_better}
use Rattle.input_monitor.specs.StandsFor.{StandsFor}
use Rattle.sync_element.specs.declared.config.Config.{Config}
use Rattle.sync_element.specs.declared.config.InputConfig.{InputConfig}
use Rattle.sync_element.specs.declared.watched.Watched.{Watched}
use Rattle.sync_element.specs.Configured.{settings_of}
use Rattle.sync_element.specs.Kept.{InputsKept, dues_of, watched_in}

-- an input that was told nothing, with its first level
pub record HasFirst (config : Config) (first : Option Level) (w : Watched) : Type 0 where
  pub timers : w.monitor.timers ≡ (settings_of config).timers
  pub next : w.monitor.next ≡ 0
  pub condition : w.monitor.condition ≡ Good
  pub due : w.monitor.due ≡ None
  pub stands : StandsFor w.monitor []
  pub up : w.up ≡ true
  pub level : w.level ≡ first
  pub cleared : w.cleared ≡ false

abbrev pub IsNew : Config → ℕ → Watched → Type 0
IsNew config i w = HasFirst config (slice_index_or (settings_of config).first_levels i None) w

-- what the choice looks at in it
abbrev pub first_candidate : Option Level → InputConfig → Candidate
first_candidate floor input = record { level = input.first; priority = input.priority; usable = not (is_better floor input.first) }

-- the inputs of a new element
pub record AreNew (config : Config) (x : InputsKept) : Type 0 where
  pub count : length x.watched ≡ length config.inputs
  pub new : (i : ℕ) → i < length config.inputs → IsNew config i (watched_in x.watched i)
  pub dues : x.dues ≡ dues_of x.watched
  pub candidates : x.candidates ≡ map (first_candidate config.floor) config.inputs
