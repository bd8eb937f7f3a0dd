-- When no timing loop can form in a network, but two elements that face each other on one link or bundle,
-- under whatever happens. This project's own.
use Rattle.std.specs.Prelude.{◌≡◌, ℕ, List}
use Rattle.sync_ql.specs.declared.levels.Level.{Level}
use Rattle.sync_topo.specs.declared.event.Event.{Event}
use Rattle.sync_topo.specs.Topology.{Topology}
use Rattle.sync_topo.specs.Events.{IsEventList}
use Rattle.net_rules.specs.Signals.{Signals, signals_by}
use Rattle.net_rules.specs.History.{Levels, taken_at, level_at, out_at}
use Rattle.net_rules.specs.Settings.{own_level}
use Rattle.net_rules.specs.Walks.{Taken, IsClosedWalk, IsFacingPair, TraceEnd, at_source, at_clock, at_loop, IsTrace}
use Rattle.net_rules.specs.Settled.{IsSettled}

-- what each element takes in a millisecond
abbrev pub taken_in : Topology → Signals → Levels → ℕ → Taken
taken_in plan signals out t element = taken_at plan signals out element t

-- the level is that of the source, or of the own clock, at which the trace ends; at a loop there is none
abbrev pub IsEndLevel : Topology → Signals → ℕ → Level → TraceEnd → Type 0
IsEndLevel plan signals t level (at_source source) = level ≡ signals.source_level source t
IsEndLevel plan signals t level (at_clock element) = level ≡ own_level plan element
IsEndLevel plan signals t level (at_loop element) = ⊥

-- in a millisecond each closed walk is a facing pair; and where it is settled there is none, and each
-- element has the level of the source or clock at which its trace ends
pub record IsLoopFreeAt (plan : Topology) (signals : Signals) (out : Levels) (t : ℕ) : Type 0 where
  pub pairs : (lines : List ℕ) → IsClosedWalk plan (taken_in plan signals out t) lines → IsFacingPair plan lines
  pub none_settled : IsSettled plan signals out t →
      (lines : List ℕ) → ¬ IsClosedWalk plan (taken_in plan signals out t) lines
  pub traced : IsSettled plan signals out t →
      (element : ℕ) (lines : List ℕ) (end : TraceEnd) →
      IsTrace plan (taken_in plan signals out t) element lines end →
      IsEndLevel plan signals t (level_at plan signals out element t) end

-- that holds in every millisecond, whatever list of events the plan may have
abbrev pub IsLoopFree : Topology → Type 0
IsLoopFree plan =
    (events : List Event) → IsEventList plan events →
    (t : ℕ) → IsLoopFreeAt plan (signals_by plan events) (out_at plan (signals_by plan events)) t
