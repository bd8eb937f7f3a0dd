-- Which events a plan may have, and lists of events.
use Rattle.std.specs.Prelude.{◌≡◌, ◌<◌, ◌≤◌, List, length}
use Rattle.std.specs.List.{All, AllAdjacentBelow}
use Rattle.sync_topo.specs.declared.event.Part.{Part}
use Rattle.sync_topo.specs.declared.event.Part.TheVariants as part
use Rattle.sync_topo.specs.declared.event.What.{What}
use Rattle.sync_topo.specs.declared.event.What.TheVariants.{Down, Up, EsmcOff, EsmcOn, SourceLevel, Lockout, Unlock, Forced, Manual, Clear, ClearWtr}
use Rattle.sync_topo.specs.declared.event.Event.{Event}
use Rattle.sync_topo.specs.declared.event.Case.{Case}
use Rattle.sync_topo.specs.Topology.{Topology}
use Rattle.sync_topo.specs.Lines.{line_count, IsInput}

-- the plan has the link, the line or the source
abbrev pub IsPart : Topology → Part → Type 0
IsPart plan (part.Link link) = link < length plan.links
IsPart plan (part.Line line) = line.0 < line_count plan
IsPart plan (part.Source source) = source < length plan.sources

-- what happens is of something that the plan has, and a level is one of the plan's option
abbrev pub MayHappen : Topology → What → Type 0
MayHappen plan (Down part) = IsPart plan part
MayHappen plan (Up part) = IsPart plan part
MayHappen plan (EsmcOff line) = line.0 < line_count plan
MayHappen plan (EsmcOn line) = line.0 < line_count plan
MayHappen plan (SourceLevel source level) = (source < length plan.sources) × (level.option ≡ plan.option)
MayHappen plan (Lockout input) = IsInput plan input
MayHappen plan (Unlock input) = IsInput plan input
MayHappen plan (Forced input) = IsInput plan input
MayHappen plan (Manual input) = IsInput plan input
MayHappen plan (Clear element) = element < length plan.elements
MayHappen plan (ClearWtr input) = IsInput plan input

-- the event fits the plan
abbrev pub Fits : Topology → Event → Type 0
Fits plan event = MayHappen plan event.what

-- times don't fall from one event to the next
abbrev pub IsInOrder : List Event → Type 0
IsInOrder events = AllAdjacentBelow (λ one next. one.at ≤ next.at) events (length events)

-- the events fit the plan, and stand in order of time
pub record IsEventList (plan : Topology) (events : List Event) : Type 0 where
  pub fit : All (Fits plan) events
  pub in_order : IsInOrder events

-- a case of a plan: something happens in it
pub record IsCase (plan : Topology) (case : Case) : Type 0 where
  pub list : IsEventList plan case.events
  pub some : 0 < length case.events
