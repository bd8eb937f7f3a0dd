-- What an advance answers.
use Rattle.std.specs.Prelude.{◌≤◌, ◌<◌, ℕ, suc, Bool, true, false, List, length, Result, Ok, Err, ⊤}
use Rattle.sync_text.specs.declared.errors.NoMemory.{NoMemory}
use Rattle.sync_topo.specs.declared.event.Event.{Event}
use Rattle.sync_topo.specs.Topology.{Topology}
use Rattle.sync_topo.specs.Sizes.{most_rows}
use Rattle.event_sim.specs.declared.change.Reach.{Reach}
use Rattle.event_sim.specs.declared.change.Reach.TheVariants.{Until, Stopped}
use Rattle.event_sim.specs.Rows.{rows_until}

-- it answers Until, or Stopped
abbrev pub is_stopped : Result Reach NoMemory → Bool
is_stopped (Ok (Stopped t)) = true
is_stopped (Ok Until) = false
is_stopped (Err error) = false

abbrev pub OnUntil : Result Reach NoMemory → Type 0 → Type 0
OnUntil (Ok Until) P = P
OnUntil (Ok (Stopped t)) P = ⊤
OnUntil (Err error) P = ⊤

abbrev pub IfStopped : Result Reach NoMemory → (ℕ → Type 0) → Type 0
IfStopped (Ok Until) P = ⊤
IfStopped (Ok (Stopped t)) P = P t
IfStopped (Err error) P = ⊤

-- so many rows that they don't all fit
abbrev pub AreTooMany : Topology → List Event → ℕ → Type 0
AreTooMany plan events n = most_rows plan < length (rows_until plan events n)

-- the rows up to a millisecond are too many, and this earlier one is the last up to which all fit
pub record IsLastFit (plan : Topology) (events : List Event) (t until : ℕ) : Type 0 where
  pub fit : length (rows_until plan events (suc t)) ≤ most_rows plan
  pub full : AreTooMany plan events (suc (suc t))
  pub all : AreTooMany plan events (suc until)
