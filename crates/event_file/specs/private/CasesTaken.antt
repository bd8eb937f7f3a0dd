-- How far the rows of a case file are gone through: what only private clauses cite.
use Rattle.std.specs.Prelude.{◌≡◌, ℕ, ◌+◌, ◌≤◌, ◌<◌, false, ◌&&◌, is_none, List, [], ◌∷◌, ◌++◌, length, map, Option, Some, None, IfSome, if◌then◌else◌}
use Rattle.std.specs.List.{All, list_all, sum_by}
use Rattle.std.specs.Str.{bytes_eq}
use Rattle.sync_topo.specs.declared.event.Case.{Case}
use Rattle.sync_topo.specs.declared.event.Event.{Event}
use Rattle.sync_topo.specs.Topology.{Topology}
use Rattle.sync_topo.specs.Sizes.{event_limit}
use Rattle.sync_topo.specs.Names.{is_named}
use Rattle.sync_topo.specs.Events.{IsEventList}
use Rattle.event_file.specs.declared.progress.CasesSoFar.{CasesSoFar}
use Rattle.event_file.specs.Rows.{Fields, last_time}
use Rattle.event_file.specs.EventText.{events_in}
use Rattle.event_file.specs.CaseRows.{is_common, case_before, rows_of, time_after, case_refusal_at}
use Rattle.event_file.specs.CaseText.{names_of, case_of}

-- the case that is read, after those that are whole
abbrev pub with_current : List Case → Option Case → List Case
with_current whole None = whole
with_current whole (Some case) = whole ++ case ∷ []

-- the events that one more goes with: those of the case that is read, and the common ones before the first case
abbrev pub latest : List Event → Option Case → List Event
latest common None = common
latest common (Some case) = case.events

-- one more event, with those of the case that is read
abbrev pub with_event_in : CasesSoFar → Event → Option Case → CasesSoFar
with_event_in kept event None = record kept { rows = kept.rows + 1; before = event.at; common = kept.common ++ event ∷ [] }
with_event_in kept event (Some case) =
    record kept { rows = kept.rows + 1; before = event.at; current = Some (record { events = case.events ++ event ∷ [] }) }

abbrev pub with_event : CasesSoFar → Event → CasesSoFar
with_event kept event = with_event_in kept event kept.current

-- events of the plan in order of time, none after the last time
pub record AreTimely (plan : Topology) (events : List Event) : Type 0 where
  pub list : IsEventList plan events
  pub in_time : All (λ event. event.at ≤ last_time) events

-- the same of a case, in which something happens
pub record IsTimely (plan : Topology) (case : Case) : Type 0 where
  pub timely : AreTimely plan case.events
  pub some : 0 < length case.events

-- the names after some rows, where the next row is of this case
abbrev pub names_with : List Fields → List ℕ → List (List ℕ)
names_with done name = names_of done ++ (if bytes_eq name (case_before done) then [] else name ∷ [])

-- of the names the last is that of the case that is read, and those before it are of the whole ones
pub record IsLast (plan : Topology) (done : List Fields) (names : List (List ℕ)) (whole : List Case) (name : List ℕ) (case : Case) : Type 0 where
  pub front : List (List ℕ)
  pub split : names ≡ front ++ name ∷ []
  pub other : is_named front name ≡ false
  pub closed : whole ≡ map (case_of plan done) front
  pub given : case ≡ case_of plan done name
  pub named : bytes_eq name [] ≡ false

-- the case that is read is of this name; before the first one no case has a name
abbrev pub IsCurrent : Topology → List Fields → List (List ℕ) → List Case → List ℕ → Option Case → Type 0
IsCurrent plan done names whole name None = (names ≡ []) × (whole ≡ []) × (name ≡ [])
IsCurrent plan done names whole name (Some case) = IsLast plan done names whole name case

-- none of these rows is refused, they gave what is kept, and the next row is of this case
pub record AreSorted (plan : Topology) (done : List Fields) (name : List ℕ) (kept : CasesSoFar) : Type 0 where
  pub numbered : kept.rows ≡ length done
  pub few : kept.rows ≤ event_limit plan
  pub sound : (place : ℕ) → place < length done → case_refusal_at plan done place ≡ None
  pub all_names : kept.names ≡ names_with done name
  pub same_names : kept.listed ≡ kept.names
  pub time : kept.before ≡ time_after (rows_of done name)
  pub shared : kept.common ≡ events_in plan (rows_of done [])
  pub begun : is_none kept.current ≡ (list_all is_common done && bytes_eq name [])
  pub here : IsCurrent plan done kept.names kept.whole name kept.current
  pub counted : length kept.common + sum_by (λ case. length case.events) (with_current kept.whole kept.current) ≡ length done
  pub common_timely : AreTimely plan kept.common
  pub whole_timely : All (IsTimely plan) kept.whole
  pub current_timely : IfSome kept.current (λ case. AreTimely plan case.events)
  pub last : All (λ event. event.at ≤ kept.before) (latest kept.common kept.current)

-- the rows are gone through, and this is what they gave
pub record AreCasesTaken (plan : Topology) (done : List Fields) (kept : CasesSoFar) : Type 0 where
  pub sorted : AreSorted plan done (case_before done) kept
  pub some : IfSome kept.current (λ case. 0 < length case.events)

-- of all rows these are left, and what is kept is of those before them
pub record AreCasesLeft (plan : Topology) (rows left : List Fields) (kept : CasesSoFar) : Type 0 where
  pub done : List Fields
  pub parts : rows ≡ done ++ left
  pub taken : AreCasesTaken plan done kept
