-- Private to this crate: what is kept of what each element shows, and what is noted after a step.
use Rattle.std.specs.Prelude.{◌≡◌, ◌≤◌, ◌<◌, ℕ, Bool, true, false, nat_eq, List, [], ◌++◌, length, map, filter, slice_index_or, IfSome, ⊤}
use Rattle.std.specs.List.{All, IsDistinct, list_any, range_with_len}
use Rattle.sync_ql.specs.Moment.{Moment}
use Rattle.sync_ql.specs.Told.{moments_until}
use Rattle.sync_element.specs.ElementState.{ElementState, IsInTime}
use Rattle.sync_element.specs.StandsFor as Element
use Rattle.sync_topo.specs.Topology.{Topology}
use Rattle.sync_topo.specs.Lines.{IsInput}
use Rattle.net_rules.specs.History.{settings_of}
use Rattle.sync_net.specs.NetState.{NetState}
use Rattle.sync_topo.specs.Sizes.{most_rows}
use Rattle.event_sim.specs.declared.shown.Shown.{Shown}
use Rattle.event_sim.specs.declared.change.Change.{Change}
use Rattle.event_sim.specs.declared.change.Watch.{Watch}
use Rattle.event_sim.specs.declared.change.Watch.TheVariants.{Changes, Nothing}
use Rattle.event_sim.specs.Rows.{shows_other, shown_after, row_of}

-- an element of a plan shows this after any past for which it stands, and after the milliseconds that
-- follow up to its due time, if nothing is told; and the input is one of the plan
pub record Shows (plan : Topology) (place : ℕ) (element : ElementState) (shown : Shown) : Type 0 where
  pub shows : element.settings ≡ settings_of plan place → (past : List Moment) (n : ℕ) → Element.StandsFor element past
      → IsInTime element n → shown ≡ shown_after plan place (moments_until (settings_of plan place) n past)
  pub input : IfSome shown.input (IsInput plan)

-- what is kept as shown by the element at a place
abbrev pub kept_in : Topology → List Shown → ℕ → Shown
kept_in plan shown place = slice_index_or shown place (shown_after plan place [])

-- each element of a network shows what is kept, and the changes of one millisecond fit
pub record AreShown (net : NetState) (shown : List Shown) : Type 0 where
  pub few : length net.plan.elements ≤ most_rows net.plan
  pub count : length shown ≡ length net.plan.elements
  pub each : (place : ℕ) (other : ElementState) → place < length net.plan.elements
      → Shows net.plan place (slice_index_or net.elements place other) (kept_in net.plan shown place)

abbrev pub AreShownIf : Watch → NetState → List Shown → Type 0
AreShownIf Changes net shown = AreShown net shown
AreShownIf Nothing net shown = ⊤

-- a network made a step, before which this was shown by each of its elements
pub record IsAfterStep (net : NetState) (shown : List Shown) : Type 0 where
  pub live : net.spent ≡ false
  pub count : length shown ≡ length net.plan.elements
  pub within : All (λ element. element < length net.plan.elements) net.evaluated
  pub apart : IsDistinct nat_eq net.evaluated

-- what the elements at some places show is kept, and for the others nothing changed
pub record AreRenewed (net : NetState) (places : List ℕ) (was now : List Shown) : Type 0 where
  pub count : length now ≡ length was
  pub seen : (place : ℕ) (other : ElementState) → place < length net.plan.elements → list_any (nat_eq place) places ≡ true
      → Shows net.plan place (slice_index_or net.elements place other) (kept_in net.plan now place)
  pub left : (place : ℕ) → list_any (nat_eq place) places ≡ false → kept_in net.plan now place ≡ kept_in net.plan was place

-- they were looked at, and those that show something else are listed once
pub record AreSeen (net : NetState) (places : List ℕ) (was now : List Shown) (listed : List ℕ) : Type 0 where
  pub renewed : AreRenewed net places was now
  pub apart : IsDistinct nat_eq listed
  pub changed : (place : ℕ) → list_any (nat_eq place) listed ≡ shows_other (kept_in net.plan was place) (kept_in net.plan now place)

-- the places at which something else is kept, and the rows of a millisecond from one list to another
abbrev pub others_in : Topology → List Shown → List Shown → List ℕ
others_in plan was now =
    filter (λ place. shows_other (kept_in plan was place) (kept_in plan now place)) (range_with_len 0 (length plan.elements))

abbrev pub rows_between : Topology → ℕ → List Shown → List Shown → List Change
rows_between plan t was now = map (λ place. row_of t place (kept_in plan now place)) (others_in plan was now)

-- after a step all that it changed is noted; or it would be too much, and nothing is noted
pub record IsNoted (net : NetState) (t : ℕ) (was now : List Shown) (before after : List Change) : Type 0 where
  pub rows : after ≡ before ++ rows_between net.plan t was now
  pub few : length after ≤ most_rows net.plan

pub record IsTooMuch (net : NetState) (t : ℕ) (was now : List Shown) (before after : List Change) : Type 0 where
  pub rows : after ≡ before
  pub many : most_rows net.plan < length (before ++ rows_between net.plan t was now)

abbrev pub AreNoted : Bool → NetState → ℕ → List Shown → List Shown → List Change → List Change → Type 0
AreNoted true net t was now before after = IsNoted net t was now before after
AreNoted false net t was now before after = IsTooMuch net t was now before after
