-- Private to this crate: what becomes of a run in a millisecond, element by element.
use Rattle.std.specs.Prelude.{◌≡◌, ◌≢◌, ◌<◌, ℕ, Bool, true, false, nat_eq, List, [], ◌++◌, length, map, IfSome}
use Rattle.std.specs.List.{All, concat, list_any}
use Rattle.sync_ql.specs.declared.rules.InputEvent.{InputEvent}
use Rattle.sync_ql.specs.Told.{FitsElement}
use Rattle.sync_element.specs.ElementState.{IsInTime}
use Rattle.sync_element.specs.StandsAfter.{IsStepped}
use Rattle.sync_topo.specs.declared.event.Event.{Event}
use Rattle.sync_topo.specs.Topology.{Topology}
use Rattle.net_words.specs.Tellings.{is_active}
use Rattle.net_words.specs.Words.{all_words}
use Rattle.prio_mode.specs.declared.running.PriorityRun.{PriorityRun}
use Rattle.prio_mode.specs.PriorityAlone.{priority_settings}
use Rattle.prio_mode.specs.PriorityRows.{row_between}
use Rattle.prio_mode.specs.private.Running.{Shows, Kept, kept_at, AreCounted}

-- what an element wants for its step
pub record CanStep (plan : Topology) (now e : ℕ) (kept : Kept) : Type 0 where
  pub settings : kept.one.element.settings ≡ priority_settings plan e
  pub in_time : IsInTime kept.one.element now
  pub fits : All (FitsElement (priority_settings plan e)) kept.told

-- an element was told some words; one that isn't marked has none, and something to do only later
pub record IsCalled (now : ℕ) (words : List InputEvent) (marked : Bool) (was is : Kept) : Type 0
  where
    pub one : is.one ≡ was.one
    pub told : is.told ≡ words
    pub started : marked ≡ false → now ≢ 0
    pub wordless : marked ≡ false → words ≡ []
    pub idle : marked ≡ false → is ≡ was
    pub later : IfSome is.due (λ due. now < due)

-- so each element was
pub record AreCalled (plan : Topology) (now : ℕ) (here : List Event) (before after : PriorityRun) : Type 0
  where
    pub counted : AreCounted plan after
    pub each : (e : ℕ) → e < length plan.elements → IsCalled now (all_words plan here e)
        (is_active after.tellings e) (kept_at plan before e) (kept_at plan after e)

-- it made its step: it was told all, and is due when it says
pub record IsVisited (plan : Topology) (now e : ℕ) (was is : Kept) : Type 0 where
  pub stepped : IsStepped now was.told was.one.element is.one.element
  pub shows : Shows plan e is.one.element is.one.shown
  pub untold : is.told ≡ []
  pub due : is.due ≡ is.one.element.due

-- the row of its change
abbrev pub row_of : Topology → ℕ → ℕ → Kept → Kept → List ℕ
row_of plan now e was is = row_between plan now e was.one.shown is.one.shown

-- one element alone made its step, and its change is written
pub record IsAloneVisited (plan : Topology) (now e : ℕ) (before after : PriorityRun)
    (text text_then : List ℕ) : Type 0 where
  pub counted : AreCounted plan after
  pub here : IsVisited plan now e (kept_at plan before e) (kept_at plan after e)
  pub others : (other : ℕ) → other ≢ e → kept_at plan after other ≡ kept_at plan before other
  pub row : text_then ≡ text ++ row_of plan now e (kept_at plan before e) (kept_at plan after e)

-- those that are listed did, one after another
pub record AreVisited (plan : Topology) (now : ℕ) (order : List ℕ) (before after : PriorityRun)
    (text text_then : List ℕ) : Type 0 where
  pub counted : AreCounted plan after
  pub here : (e : ℕ) → list_any (nat_eq e) order ≡ true
      → IsVisited plan now e (kept_at plan before e) (kept_at plan after e)
  pub others : (e : ℕ) → list_any (nat_eq e) order ≡ false
      → kept_at plan after e ≡ kept_at plan before e
  pub rows : (row : ℕ → List ℕ)
      → ((e : ℕ) → list_any (nat_eq e) order ≡ true
      → row e ≡ row_of plan now e (kept_at plan before e) (kept_at plan after e))
      → text_then ≡ text ++ concat (map row order)
