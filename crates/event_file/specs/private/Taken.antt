-- How far the rows are gone through: what only private clauses cite.
use Rattle.std.specs.Prelude.{◌≡◌, ℕ, ◌≤◌, ◌<◌, ◌++◌, List, length, None}
use Rattle.std.specs.List.{All}
use Rattle.sync_topo.specs.declared.event.Event.{Event}
use Rattle.sync_topo.specs.Topology.{Topology}
use Rattle.sync_topo.specs.Sizes.{event_limit}
use Rattle.sync_topo.specs.Events.{Fits, IsInOrder}
use Rattle.event_file.specs.Rows.{Fields, time_before, refusal_at, last_time}
use Rattle.event_file.specs.EventText.{events_in}

-- of the rows the first n are gone through and these are left; the last of them has this time, and these are their events
pub record AreTaken (plan : Topology) (rows : List Fields) (n before : ℕ) (left : List Fields) (events : List Event) : Type 0 where
  pub done : List Fields
  pub whole : rows ≡ done ++ left
  pub numbered : length done ≡ n
  pub sound : (place : ℕ) → place < n → refusal_at plan rows place ≡ None
  pub time : before ≡ time_before rows n
  pub given : events ≡ events_in plan done
  pub few : n ≤ event_limit plan
  pub counted : length events ≡ n
  pub fit : All (Fits plan) events
  pub in_order : IsInOrder events
  pub last : All (λ event. event.at ≤ before) events
  pub in_time : All (λ event. event.at ≤ last_time) events
