-- Private to this crate: the elements of each state among the first n.
use Rattle.std.specs.Prelude.{nat_eq, ◌≡◌, ◌<◌, ◌+◌, ℕ, Bool, true, false, List, length, slice_index_or}
use Rattle.std.specs.List.{count_by, range_with_len}
use Rattle.sync_ql.specs.declared.levels.Level.{Level}
use Rattle.sync_ql.specs.declared.rules.ClockState.{ClockState}
use Rattle.sync_ql.specs.declared.rules.ClockState.TheVariants.{FreeRun, Locked, Holdover}
use Rattle.sync_topo.specs.declared.event.Event.{Event}
use Rattle.sync_topo.specs.Topology.{Topology}
use Rattle.shown_words.specs.Sameness.{is_same_state}
use Rattle.sync_sweep.specs.declared.counted_states.States.{States}
use Rattle.sync_sweep.specs.Outcomes.{is_in}

-- how many are counted
abbrev pub counted : States → ℕ
counted states = states.locked + states.holdover + states.free

-- 1 for a truth
abbrev pub one_if : Bool → ℕ
one_if true = 1
one_if false = 0

-- one more element is counted, in its state
pub record IsOneMore (before : States) (state : ClockState) (after : States) : Type 0 where
  pub locked : after.locked ≡ before.locked + one_if (is_same_state state Locked)
  pub holdover : after.holdover ≡ before.holdover + one_if (is_same_state state Holdover)
  pub free : after.free ≡ before.free + one_if (is_same_state state FreeRun)
  pub all : counted after ≡ counted before + 1

-- so many of some states are each
pub record AreTallied (list : List ClockState) (states : States) : Type 0 where
  pub locked : states.locked ≡ count_by (λ state. is_same_state state Locked) list
  pub holdover : states.holdover ≡ count_by (λ state. is_same_state state Holdover) list
  pub free : states.free ≡ count_by (λ state. is_same_state state FreeRun) list
  pub all : counted states ≡ length list

pub record AreCounted (plan : Topology) (events : List Event) (t n : ℕ) (states : States) : Type 0 where
  pub locked : states.locked ≡ count_by (is_in Locked plan events t) (range_with_len 0 n)
  pub holdover : states.holdover ≡ count_by (is_in Holdover plan events t) (range_with_len 0 n)
  pub free : states.free ≡ count_by (is_in FreeRun plan events t) (range_with_len 0 n)

-- how many of some levels have a place in their table
abbrev pub with_place : List Level → ℕ → ℕ
with_place levels place = count_by (λ level. nat_eq level.place place) levels

-- one of some levels has this place
pub record HasPlace (levels : List Level) (place : ℕ) : Type 0 where
  pub element : ℕ
  pub within : element < length levels
  pub has : (other : Level) → (slice_index_or levels element other).place ≡ place
