-- What becomes of a network under some events, at the end of a millisecond. Levels and states are
-- after G.781; the rest is this project's own.
use Rattle.std.specs.Prelude.{◌≡◌, ◌<◌, ◌↔◌, ℕ, true, Bool, List, length, Option, MatchOption}
use Rattle.std.specs.List.{count_by, range_with_len}
use Rattle.sync_ql.specs.declared.levels.Level.{Level}
use Rattle.sync_ql.specs.declared.rules.ClockState.{ClockState}
use Rattle.sync_ql.specs.declared.rules.ClockState.TheVariants.{FreeRun, Locked, Holdover}
use Rattle.sync_ql.specs.Level.{IsBetter}
use Rattle.sync_topo.specs.declared.event.Event.{Event}
use Rattle.sync_topo.specs.Topology.{Topology}
use Rattle.net_rules.specs.Signals.{signals_by}
use Rattle.net_rules.specs.History.{out_at, level_at, element_state}
use Rattle.net_rules.specs.Walks.{Taken}
use Rattle.net_rules.specs.Safety.{taken_in}
use Rattle.net_rules.specs.Settled.{IsSettled}
use Rattle.net_rules.specs.Settling.{IsSettlingBound}
use Rattle.shown_words.specs.Sameness.{is_same_state}
use Rattle.closed_walks.specs.Loops.{AreLoops}
use Rattle.sync_sweep.specs.declared.outcomes.Outcome.{Outcome}
use Rattle.sync_sweep.specs.Cases.{IsLastUntil}

-- an element is in a state at the end of a millisecond, by the rules
abbrev pub is_in : ClockState → Topology → List Event → ℕ → ℕ → Bool
is_in state plan events t element =
    is_same_state (element_state plan (signals_by plan events) (out_at plan (signals_by plan events)) element t) state

-- how many elements are
abbrev pub count_in : ClockState → Topology → List Event → ℕ → ℕ
count_in state plan events t = count_by (is_in state plan events t) (range_with_len 0 (length plan.elements))

-- the level of an element at the end of a millisecond, by the rules
abbrev pub level_in : Topology → List Event → ℕ → ℕ → Level
level_in plan events t element = level_at plan (signals_by plan events) (out_at plan (signals_by plan events)) element t

-- what each element takes in a millisecond, by the rules
abbrev pub taken_by : Topology → List Event → ℕ → Taken
taken_by plan events t = taken_in plan (signals_by plan events) (out_at plan (signals_by plan events)) t

-- the worst level of the first n elements: a level of the plan's option, which one of them has, and
-- which is better than that of none
pub record IsWorstOf (plan : Topology) (events : List Event) (t n : ℕ) (worst : Level) : Type 0 where
  pub of_option : worst.option ≡ plan.option
  pub element : ℕ
  pub within : element < n
  pub has : level_in plan events t element ≡ worst
  pub none_worse : (other : ℕ) → other < n → ¬ IsBetter worst (level_in plan events t other)

-- there are so many closed walks, where each is listed once
pub record AreSoManyLoops (plan : Topology) (taken : Taken) (count : ℕ) : Type 0 where
  pub walks : List (List ℕ)
  pub are_walks : AreLoops plan taken walks
  pub many : count ≡ length walks

-- what the network shows
pub record IsShown (plan : Topology) (events : List Event) (t : ℕ) (outcome : Outcome) : Type 0 where
  pub settled : (outcome.settled ≡ true) ↔ IsSettled plan (signals_by plan events) (out_at plan (signals_by plan events)) t
  pub locked : outcome.locked ≡ count_in Locked plan events t
  pub holdover : outcome.holdover ≡ count_in Holdover plan events t
  pub free : outcome.free ≡ count_in FreeRun plan events t
  pub loops : AreSoManyLoops plan (taken_by plan events t) outcome.loops
  pub worst : IsWorstOf plan events t (length plan.elements) outcome.worst

-- the settling bound after a millisecond, where there is one
abbrev pub IsBoundAfter : Topology → ℕ → Option ℕ → Type 0
IsBoundAfter plan last bound = MatchOption bound ((other : ℕ) → ¬ IsSettlingBound plan last other) (IsSettlingBound plan last)

-- what becomes of it, with the settling bound after the last event up to the millisecond
pub record IsOutcome (plan : Topology) (events : List Event) (until : ℕ) (outcome : Outcome) : Type 0 where
  pub shown : IsShown plan events until outcome
  pub last : ℕ
  pub is_last : IsLastUntil events until last
  pub bound : IsBoundAfter plan last outcome.bound
