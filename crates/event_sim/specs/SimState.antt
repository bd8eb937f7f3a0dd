-- What contracts see of a simulator.
use Rattle.std.specs.Prelude.{ℕ, suc, Bool, List, Option, None, Some}
use Rattle.sync_net.specs.NetState.{NetState}
use Rattle.event_sim.specs.declared.change.Change.{Change}
use Rattle.event_sim.specs.declared.change.Watch.{Watch}

-- its network; whether changes are watched; the changes; the millisecond that it has reached, and none
-- before 0; whether it is spent, after which nothing else of it is said but whether it is stopped; and
-- whether it is stopped, after which it goes no further
pub record SimState : Type 0 where
  pub net : NetState
  pub watch : Watch
  pub changes : List Change
  pub reached : Option ℕ
  pub spent : Bool
  pub stopped : Bool

-- the first millisecond after the one that is reached, which is 0 before any
abbrev pub first_after : Option ℕ → ℕ
first_after None = 0
first_after (Some t) = suc t
