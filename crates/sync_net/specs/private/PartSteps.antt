-- Private to this crate: the stages of a millisecond, over all that a network keeps.
use Rattle.std.specs.Prelude.{◌≡◌, ◌<◌, ◌⊎◌, ◌+◌, ℕ, Bool, true, nat_eq, if◌then◌else◌, List, length}
use Rattle.std.specs.List.{list_any}
use Rattle.agenda.specs.DueTimes.{AreLater}
use Rattle.agenda.specs.Marked.{none_marked, AreListed}
use Rattle.sync_topo.specs.declared.event.Event.{Event}
use Rattle.sync_topo.specs.Topology.{Topology}
use Rattle.sync_topo.specs.Lines.{IsNominated}
use Rattle.sync_net.specs.declared.parts.NetParts.{NetParts}
use Rattle.sync_net.specs.private.Noting.{line_at, AreOfOption}
use Rattle.sync_net.specs.private.Taking.{AreTaken}
use Rattle.sync_net.specs.private.Hearing.{AreTold}
use Rattle.agenda.specs.Called.{is_marked}
use Rattle.sync_net.specs.private.Stages.{KeepsMarks, AreDueMarked, AreEvaluated, AreSent, is_out_of}

-- what no stage changes
pub record SameTables (p q : NetParts) : Type 0 where
  pub next : q.next ≡ p.next
  pub later_steps : q.later_steps ≡ p.later_steps

-- in the first step all elements and nominated lines are marked
pub record IsFirstMarked (plan : Topology) (next : ℕ) (elements elements_then lines lines_then : List Bool) : Type 0 where
  pub elements_kept : KeepsMarks elements elements_then
  pub lines_kept : KeepsMarks lines lines_then
  pub elements_first : next ≡ 0 → (e : ℕ) → e < length plan.elements → is_marked elements_then e ≡ true
  pub lines_first : next ≡ 0 → (l : ℕ) → IsNominated plan l → is_marked lines_then l ≡ true
  pub elements_cause : (e : ℕ) → is_marked elements_then e ≡ true → (is_marked elements e ≡ true) ⊎ (next ≡ 0)
  pub lines_cause : (l : ℕ) → is_marked lines_then l ≡ true → (is_marked lines l ≡ true) ⊎ ((next ≡ 0) × IsNominated plan l)

-- what is due is marked, and nothing else is but in the first step
pub record AreCalled (plan : Topology) (now : ℕ) (p q : NetParts) : Type 0 where
  pub tables : SameTables p q
  pub elements : q.elements ≡ p.elements
  pub lines : q.lines ≡ p.lines
  pub signals : q.signals ≡ p.signals
  pub sources : q.sources ≡ p.sources
  pub heards : q.heards ≡ p.heards
  pub changes : q.tellings.changes ≡ p.tellings.changes
  pub active : List Bool
  pub called : List Bool
  pub first : IsFirstMarked plan p.next (none_marked (length p.tellings.active.flags)).flags active (none_marked (length p.called.flags)).flags called
  pub due : AreDueMarked now (length plan.elements) (record { dues = p.dues; elements = active; lines = called })
      (record { dues = q.dues; elements = q.tellings.active.flags; lines = q.called.flags })
  pub later : AreLater now q.dues

-- the events are taken in
pub record AreTakenIn (plan : Topology) (events : List Event) (p q : NetParts) : Type 0 where
  pub tables : SameTables p q
  pub elements : q.elements ≡ p.elements
  pub lines : q.lines ≡ p.lines
  pub heards : q.heards ≡ p.heards
  pub dues : q.dues ≡ p.dues
  pub taken : AreTaken plan events
      (record { lines = p.signals.items; sources = p.sources.items; marks = p.called.flags; tellings = p.tellings })
      (record { lines = q.signals.items; sources = q.sources.items; marks = q.called.flags; tellings = q.tellings })
  pub of_option : AreOfOption plan.option q.sources.items
  pub listed : AreListed q.called

-- the lines are told, and what is heard is passed on
pub record AreHeardIn (plan : Topology) (now : ℕ) (p q : NetParts) : Type 0 where
  pub tables : SameTables p q
  pub elements : q.elements ≡ p.elements
  pub signals : q.signals ≡ p.signals
  pub sources : q.sources ≡ p.sources
  pub dues : q.dues ≡ p.dues
  pub called : q.called ≡ p.called
  pub listed : AreListed p.called
  pub told : AreTold plan now (line_at p.signals.items) (λ l. list_any (nat_eq l) p.called.listed)
      (record { lines = p.lines.items; heards = p.heards.items; changes = p.tellings.changes.items; active = p.tellings.active.flags })
      (record { lines = q.lines.items; heards = q.heards.items; changes = q.tellings.changes.items; active = q.tellings.active.flags })

-- the elements make their steps
pub record AreEvaluatedIn (plan : Topology) (now : ℕ) (p q : NetParts) : Type 0 where
  pub tables : SameTables p q
  pub lines : q.lines ≡ p.lines
  pub signals : q.signals ≡ p.signals
  pub sources : q.sources ≡ p.sources
  pub heards : q.heards ≡ p.heards
  pub active : q.tellings.active ≡ p.tellings.active
  pub listed : AreListed p.tellings.active
  pub called_listed : AreListed q.called
  pub evaluated : AreEvaluated now (length plan.elements) (is_out_of plan) (λ e. list_any (nat_eq e) p.tellings.active.listed)
      (record { elements = p.elements.items; changes = p.tellings.changes.items; dues = p.dues; called = p.called.flags })
      (record { elements = q.elements.items; changes = q.tellings.changes.items; dues = q.dues; called = q.called.flags })

-- the lines are given their levels
pub record AreSentIn (plan : Topology) (now : ℕ) (p q : NetParts) : Type 0 where
  pub tables : SameTables p q
  pub elements : q.elements ≡ p.elements
  pub signals : q.signals ≡ p.signals
  pub sources : q.sources ≡ p.sources
  pub heards : q.heards ≡ p.heards
  pub tellings : q.tellings ≡ p.tellings
  pub called : q.called ≡ p.called
  pub listed : AreListed p.called
  pub sent : AreSent plan p.elements.items now (λ l. list_any (nat_eq l) p.called.listed)
      (record { lines = p.lines.items; dues = p.dues }) (record { lines = q.lines.items; dues = q.dues })

-- the millisecond is over
pub record IsOver (now : ℕ) (p q : NetParts) : Type 0 where
  pub next : q.next ≡ now + 1
  pub later_steps : q.later_steps ≡ (if nat_eq p.next 0 then 0 else p.later_steps + 1)
  pub elements : q.elements ≡ p.elements
  pub lines : q.lines ≡ p.lines
  pub signals : q.signals ≡ p.signals
  pub sources : q.sources ≡ p.sources
  pub heards : q.heards ≡ p.heards
  pub dues : q.dues ≡ p.dues
  pub tellings : q.tellings ≡ p.tellings
  pub called : q.called ≡ p.called
