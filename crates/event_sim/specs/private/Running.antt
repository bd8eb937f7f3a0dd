-- Private to this crate: what a run keeps, and how far it has come.
use Rattle.std.specs.Prelude.{◌≡◌, ◌≤◌, ◌<◌, ◌+◌, ℕ, suc, Bool, true, false, cond, List, [], length, slice_index_or, count_by}
use Rattle.std.specs.List.{range_with_len}
use Rattle.sync_ql.specs.declared.limits.TheConstants.{LAST_MILLISECOND}
use Rattle.sync_element.specs.ElementState.{ElementState}
use Rattle.sync_topo.specs.declared.event.Event.{Event}
use Rattle.net_rules.specs.Activity.{is_active}
use Rattle.sync_net.specs.NetState.{NetState}
use Rattle.sync_net.specs.Standing as Net
use Rattle.sync_topo.specs.Sizes.{most_rows}
use Rattle.event_sim.specs.declared.change.Change.{Change}
use Rattle.event_sim.specs.declared.change.Watch.{Watch}
use Rattle.event_sim.specs.declared.change.Watch.TheVariants.{Nothing}
use Rattle.event_sim.specs.declared.running.Run.{Run}
use Rattle.event_sim.specs.Rows.{rows_until}
use Rattle.event_sim.specs.Standing.{watched_rows}
use Rattle.event_sim.specs.Answers.{AreTooMany}
use Rattle.event_sim.specs.Bounds.{turns_in, active_times, active_pairs}
use Rattle.event_sim.specs.private.Showing.{AreShownIf}

-- a run that may go on
pub record IsOpen (run : Run) : Type 0 where
  pub live : run.net.spent ≡ false
  pub in_range : run.net.next ≤ LAST_MILLISECOND + 1
  pub few : length run.changes.items ≤ most_rows run.net.plan
  pub first : run.net.next ≡ 0 → run.changes.items ≡ []
  pub shown : AreShownIf run.watch run.net run.shown.items

-- its plan and what it watches stay
pub record IsKeptBy (before after : Run) : Type 0 where
  pub plan : after.net.plan ≡ before.net.plan
  pub watch : after.watch ≡ before.watch
  pub unwatched : before.watch ≡ Nothing → after.changes.items ≡ before.changes.items

-- after n milliseconds a network stands for all events, and what was noted are the rows up to there
pub record RunStands (watch : Watch) (net : NetState) (changes : List Change) (events : List Event) (n : ℕ) : Type 0 where
  pub stands : Net.StandsFor net events n
  pub rows : changes ≡ watched_rows watch net.plan events n

-- the rows of a millisecond don't fit: the network has made it, and the rows end before it
pub record IsCut (watch : Watch) (net : NetState) (changes : List Change) (events : List Event) (t : ℕ) : Type 0 where
  pub stands : Net.StandsFor net events (suc t)
  pub rows : changes ≡ rows_until net.plan events t
  pub full : AreTooMany net.plan events (suc t)

-- after a millisecond its rows were noted, or are too many
abbrev pub IsAfterTurn : Bool → Watch → NetState → List Change → List Event → ℕ → Type 0
IsAfterTurn true watch net changes events t = RunStands watch net changes events (suc t)
IsAfterTurn false watch net changes events t = IsCut watch net changes events t

-- what a step in a millisecond may cost
pub record IsTurnBound (events : List Event) (t : ℕ) (before after : NetState) (ticks ticks_then : ℕ) : Type 0 where
  pub work : ticks_then ≤ ticks + count_by (λ element. is_active before.plan events element t) (range_with_len 0 (length before.plan.elements))
  pub counts : (element : ℕ) (other : ElementState) → element < length before.plan.elements
      → (slice_index_or after.elements element other).later_steps
      ≤ (slice_index_or before.elements element other).later_steps + cond (is_active before.plan events element t) 1 0

-- what was done from one network to a later one costs no more than it may
pub record IsBound (events : List Event) (until : ℕ) (before after : NetState) (ticks ticks_then : ℕ) : Type 0 where
  pub turns : after.later_steps ≤ before.later_steps + turns_in before.plan events until before.next after.next
  pub work : ticks_then ≤ ticks + active_pairs before.plan events before.next after.next
  pub counts : (element : ℕ) (other : ElementState) → element < length before.plan.elements
      → (slice_index_or after.elements element other).later_steps
      ≤ (slice_index_or before.elements element other).later_steps + active_times before.plan events element before.next after.next
