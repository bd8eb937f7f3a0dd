-- Private to this crate: what the engine gives for each case.
use Rattle.std.specs.Prelude.{◌≡◌, ◌≤◌, ℕ, true, List, IfSome}
use Rattle.std.specs.List.{AllZip}
use Rattle.sync_topo.specs.declared.event.Case.{Case}
use Rattle.sync_topo.specs.declared.event.Event.{Event}
use Rattle.sync_topo.specs.Topology.{Topology}
use Rattle.net_rules.specs.Walks.{Taken}
use Rattle.sync_sweep.specs.declared.outcomes.Outcome.{Outcome}
use Rattle.timings.specs.declared.counted.Timing.{Timing}
use Rattle.sync_sweep.specs.declared.working.Worked.{Worked}
use Rattle.sync_sweep.specs.Cases.{merged}
use Rattle.sync_sweep.specs.OnWay.{before_own, IsOnWay}
use Rattle.sync_sweep.specs.Outcomes.{IsOutcome, taken_by}

-- a settling bound that is not after the end has come
abbrev pub IsSettledIfDue : ℕ → Outcome → Type 0
IsSettledIfDue until outcome = IfSome outcome.bound (λ bound. bound ≤ until → outcome.settled ≡ true)

-- what becomes of a network under some events, its timing as far as a timer tells it, and what they cost on
-- the way after a millisecond
pub record IsWorked (IsTold : Topology → Taken → Timing → Type 0) (plan : Topology) (events : List Event) (before until : ℕ) (worked : Worked) : Type 0 where
  pub outcome : IsOutcome plan events until worked.outcome
  pub due : IsSettledIfDue until worked.outcome
  pub timing : IsTold plan (taken_by plan events until) worked.timing
  pub way : IsOnWay plan events before until worked.way

-- so under those of a case and the common ones
abbrev pub IsCaseWorked : (Topology → Taken → Timing → Type 0) → Topology → List Event → ℕ → Case → Worked → Type 0
IsCaseWorked IsTold plan common until case = IsWorked IsTold plan (merged common case.events) (before_own case.events until) until

abbrev pub AreWorked : (Topology → Taken → Timing → Type 0) → Topology → List Event → ℕ → List Case → List Worked → Type 0
AreWorked IsTold plan common until cases worked = AllZip (IsCaseWorked IsTold plan common until) cases worked
