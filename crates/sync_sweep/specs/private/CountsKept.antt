-- Private to this crate: what is true of states and levels that are kept with their counts.
use Rattle.std.specs.Prelude.{◌≡◌, ◌≤◌, ◌<◌, ℕ, List, length, slice_index_or}
use Rattle.sync_ql.specs.declared.levels.Level.{Level}
use Rattle.sync_ql.specs.declared.rules.ClockState.{ClockState}
use Rattle.sync_sweep.specs.declared.counted_levels.CountedLevels.TheInside as levels
use Rattle.sync_sweep.specs.declared.counted_states.CountedStates.TheInside as states
use Rattle.sync_sweep.specs.private.Counts.{AreTallied, with_place}

abbrev pub states_in : states.Inside → List ClockState
states_in c = c.states.items

-- the counts are those of the states
pub record AreStatesCounted (c : states.Inside) : Type 0 where
  pub few : length c.states.items ≤ 4294967295
  pub tallied : AreTallied c.states.items c.counts

abbrev pub levels_in : levels.Inside → List Level
levels_in c = c.levels.items

-- so many levels have each place
pub record AreByPlace (counts : List ℕ) (many : ℕ → ℕ) : Type 0 where
  pub room : length counts ≡ 16
  pub each : (place : ℕ) → place < 16 → slice_index_or counts place 0 ≡ many place

-- the counts are those of the levels
pub record AreLevelsCounted (c : levels.Inside) : Type 0 where
  pub few : length c.levels.items ≤ 4294967295
  pub tallied : AreByPlace c.counts (with_place c.levels.items)
