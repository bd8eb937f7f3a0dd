-- Private to this crate: what the elements of a network show, kept beside it.
use Rattle.std.specs.Prelude.{◌≡◌, ◌<◌, ℕ, false, nat_eq, List, length, slice_index_or}
use Rattle.std.specs.List.{list_any}
use Rattle.sync_ql.specs.declared.levels.Level.{Level}
use Rattle.sync_ql.specs.declared.rules.ClockState.{ClockState}
use Rattle.sync_ql.specs.Moment.{Moment}
use Rattle.sync_ql.specs.Told.{moments_until}
use Rattle.sync_ql.specs.Output.{clock_level_at, state_at}
use Rattle.sync_element.specs.ElementState.{ElementState, IsInTime}
use Rattle.sync_element.specs.StandsFor as Element
use Rattle.sync_net.specs.NetState.{NetState}
use Rattle.sync_sweep.specs.declared.shown.ShownCounts.{ShownCounts}

-- an element shows this state, up to but not at its due time, if nothing is told
pub record ShowsState (element : ElementState) (state : ClockState) : Type 0 where
  pub is : (past : List Moment) (n : ℕ) → Element.StandsFor element past → IsInTime element n →
      state ≡ state_at element.settings (moments_until element.settings n past)

-- so this level
pub record ShowsLevel (element : ElementState) (level : Level) : Type 0 where
  pub option : level.option ≡ element.settings.own.option
  pub is : (past : List Moment) (n : ℕ) → Element.StandsFor element past → IsInTime element n →
      level ≡ clock_level_at element.settings (moments_until element.settings n past)

-- each element shows the state at its place
pub record AreStates (net : NetState) (states : List ClockState) : Type 0 where
  pub count : length states ≡ length net.plan.elements
  pub each : (e : ℕ) (element : ElementState) (other : ClockState) → e < length net.plan.elements →
      ShowsState (slice_index_or net.elements e element) (slice_index_or states e other)

-- so the level
pub record AreLevels (net : NetState) (levels : List Level) : Type 0 where
  pub count : length levels ≡ length net.plan.elements
  pub each : (e : ℕ) (element : ElementState) (other : Level) → e < length net.plan.elements →
      ShowsLevel (slice_index_or net.elements e element) (slice_index_or levels e other)

pub record AreShown (net : NetState) (shown : ShownCounts) : Type 0 where
  pub states : AreStates net shown.states
  pub levels : AreLevels net shown.levels

-- but at some places the elements of two networks are the same
abbrev pub AreAlikeBut : List ℕ → NetState → NetState → Type 0
AreAlikeBut places net base = (e : ℕ) (other : ElementState) → e < length base.plan.elements → list_any (nat_eq e) places ≡ false →
    slice_index_or net.elements e other ≡ slice_index_or base.elements e other
