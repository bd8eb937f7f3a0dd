-- When the events of a plan stand, and which come next. This project's own.
use Rattle.std.specs.Prelude.{◌≡◌, ◌≤◌, ◌<◌, ◌⊎◌, ℕ, true, nat_eq, List, [], Option, Some, IfSome}
use Rattle.std.specs.List.{All, list_any}
use Rattle.sync_topo.specs.declared.event.Event.{Event}
use Rattle.sync_topo.specs.Topology.{Topology}
use Rattle.sync_topo.specs.Events.{IsEventList, IsInOrder, Fits}
use Rattle.net_rules.specs.Signals.{events_at}

-- events stand in order from one millisecond up to another, which is included
pub record AreWithin (plan : Topology) (from until : ℕ) (events : List Event) : Type 0 where
  pub list : IsEventList plan events
  pub later : All (λ event. from ≤ event.at) events
  pub up_to : All (λ event. event.at ≤ until) events

-- of all events of a plan, just those that are told stand from one millisecond up to another, which
-- is included
pub record AreTold (plan : Topology) (all : List Event) (from until : ℕ) (told : List Event) : Type
    0 where
  pub ordered : IsEventList plan all
  pub here : (t : ℕ) → from ≤ t → t ≤ until → events_at t all ≡ events_at t told

-- the next millisecond in which something happens: none of these events, and nothing that is due,
-- is earlier; and there is a cause for it
pub record IsNextTime (next : ℕ) (rest : List Event) (due : Option ℕ) (until now : ℕ) : Type 0 where
  pub first : next ≡ 0 → now ≡ 0
  pub later : next ≤ now
  pub up_to : now ≤ until
  pub until_due : IfSome due (λ d. now ≤ d)
  pub until_event : All (λ event. now ≤ event.at) rest
  pub cause : (next ≡ 0) ⊎
      ((now ≡ until) ⊎ ((list_any (λ event. nat_eq event.at now) rest ≡ true) ⊎ (due ≡ Some now)))

-- of all events of a plan, these stand at a millisecond
pub record AreHere (plan : Topology) (all : List Event) (t : ℕ) (told : List Event) : Type 0 where
  pub ordered : IsEventList plan all
  pub here : events_at t all ≡ told

-- events stand in order from one millisecond up to another, which is included
pub record AreBetween (from until : ℕ) (events : List Event) : Type 0 where
  pub in_order : IsInOrder events
  pub later : All (λ event. from ≤ event.at) events
  pub up_to : All (λ event. event.at ≤ until) events

-- a run on its way: the first millisecond that isn't passed, the events that are left, and the last
-- millisecond
pub record MomentsLeft : Type 0 where
  pub next : ℕ
  pub rest : List Event
  pub until : ℕ

-- of all events of a plan, those that are left are just those that are ahead
abbrev pub AreAhead : Topology → List Event → MomentsLeft → Type 0
AreAhead plan all left = AreTold plan all left.next left.until left.rest

-- of all events of a plan, none stands from one millisecond up to another, and these stand at that one
pub record AreNext (plan : Topology) (all : List Event) (next now : ℕ) (told : List Event) : Type 0
  where
    pub none : (t : ℕ) → next ≤ t → t < now → events_at t all ≡ []
    pub here : AreHere plan all now told
    pub fit : All (Fits plan) told
    pub at : All (λ event. event.at ≡ now) told
