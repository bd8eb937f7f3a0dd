-- What a step does, beside what a network then stands for.
use Rattle.std.specs.Prelude.{◌≡◌, ◌≤◌, ◌<◌, ◌⊎◌, ◌+◌, ℕ, true, false, nat_eq, if◌then◌else◌, List, [], ◌∷◌, length, slice_index_or, Some, IsSomeAnd}
use Rattle.std.specs.List.{All, IsDistinct, list_any}
use Rattle.sync_ql.specs.Moment.{Moment}
use Rattle.sync_ql.specs.Told.{moments_until}
use Rattle.sync_element.specs.ElementState.{ElementState}
use Rattle.sync_element.specs.StandsFor as Element
use Rattle.sync_topo.specs.declared.event.Event.{Event}
use Rattle.sync_topo.specs.Topology.{Topology}
use Rattle.sync_topo.specs.Events.{IsEventList}
use Rattle.sync_topo.specs.Lines.{line_count, sender_of}
use Rattle.net_rules.specs.Signals.{signals_by, events_at}
use Rattle.net_rules.specs.History.{taken_by, out_at}
use Rattle.net_rules.specs.Facing.{Faces}
use Rattle.net_rules.specs.Settling.{switches_line}
use Rattle.net_rules.specs.Walks.{Taken, IsClosedWalk, IsFacingPair}
use Rattle.sync_net.specs.Kept.{line_signal, source_signal, heard_on}
use Rattle.sync_net.specs.Named.{names_source}
use Rattle.sync_net.specs.NetState.{NetState, line_in}
use Rattle.sync_net.specs.Standing.{NoneFrom}

-- of all events of a plan, none stands from one millisecond up to another, and these stand at that
-- one
pub record IsContinued (plan : Topology) (all : List Event) (n now : ℕ) (events : List Event) : Type 0 where
  pub ordered : IsEventList plan all
  pub later : n ≤ now
  pub none : NoneFrom n now all
  pub here : events_at now all ≡ events

-- just the elements that are listed, none of them twice, made a step; the others are as they were
pub record AreAloneEvaluated (before after : NetState) : Type 0 where
  pub apart : IsDistinct nat_eq after.evaluated
  pub within : All (λ element. element < length before.plan.elements) after.evaluated
  pub counts : (element : ℕ) (other : ElementState) → element < length before.plan.elements → list_any (nat_eq element) after.evaluated ≡ true →
      (slice_index_or after.elements element other).later_steps
      ≡ (if nat_eq (slice_index_or before.elements element other).next 0 then 0 else (slice_index_or before.elements element other).later_steps + 1)
  pub left : (element : ℕ) (other : ElementState) → element < length before.plan.elements → list_any (nat_eq element) after.evaluated ≡ false →
      slice_index_or after.elements element other ≡ slice_index_or before.elements element other

-- why a line is called: an event switches it, it is due, or the step evaluated its sender
abbrev pub IsCalledFor : ℕ → List Event → NetState → NetState → ℕ → Type 0
IsCalledFor now events before after line =
    (list_any (λ event. switches_line line event.what) events ≡ true)
    ⊎ (IsSomeAnd (line_in before.lines line) (λ state. state.due ≡ Some now)
    ⊎ (list_any (nat_eq (sender_of before.plan line)) after.evaluated ≡ true))

-- the lines that aren't listed as called are as they were
pub record AreAloneCalled (before after : NetState) : Type 0 where
  pub within : All (λ line. line < line_count before.plan) after.called
  pub left : (line : ℕ) → line < line_count before.plan → list_any (nat_eq line) after.called ≡ false →
      line_in after.lines line ≡ line_in before.lines line

-- the signal of a line that no event switches is as it was, the level that is heard on one that isn't
-- called, and a source that no event names
pub record AreAloneTold (events : List Event) (before after : NetState) : Type 0 where
  pub signals : (line : ℕ) → list_any (λ event. switches_line line event.what) events ≡ false →
      line_signal after.kept line ≡ line_signal before.kept line
  pub heards : (line : ℕ) → list_any (nat_eq line) after.called ≡ false → heard_on after.kept line ≡ heard_on before.kept line
  pub sources : (source : ℕ) → list_any (names_source source) events ≡ false → source_signal after.kept source ≡ source_signal before.kept source

-- what each element of a network takes after n milliseconds, whatever past it stands for
abbrev pub AreTaking : NetState → ℕ → Taken → Type 0
AreTaking net n taken = (element : ℕ) (other : ElementState) (past : List Moment) → element < length net.plan.elements →
    Element.StandsFor (slice_index_or net.elements element other) past →
    taken element ≡ taken_by net.plan element (moments_until (slice_index_or net.elements element other).settings n past)

-- two elements of a network take their timing from each other after n milliseconds: over a line, and over one that goes
-- back from it
pub record AreFacing (net : NetState) (n line back : ℕ) : Type 0 where
  pub within : line < line_count net.plan
  pub back_within : back < line_count net.plan
  pub taken : Taken
  pub taking : AreTaking net n taken
  pub walk : IsClosedWalk net.plan taken (line ∷ back ∷ [])
  pub pair : IsFacingPair net.plan (line ∷ back ∷ [])

-- so they did by the rules from one millisecond up to but not at another
pub record HaveFaced (plan : Topology) (all : List Event) (line back from now : ℕ) : Type 0 where
  pub early : from ≤ now
  pub each : (t : ℕ) → from ≤ t → t < now → Faces plan (signals_by plan all) (out_at plan (signals_by plan all)) line back t
