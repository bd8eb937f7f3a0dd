-- Private to this crate: when two networks keep the same.
use Rattle.std.specs.Prelude.{◌≡◌, ◌<◌, ◌+◌, ℕ, true, false, nat_eq, List, Option, length, slice_index_or, option_and_then}
use Rattle.std.specs.List.{list_any}
use Rattle.agenda.specs.DueTimes.{due_in}
use Rattle.sync_element.specs.ElementState.{ElementState}
use Rattle.link_model.specs.LineState.{LineState}
use Rattle.sync_net.specs.declared.parts.NetParts.{NetParts}
use Rattle.sync_net.specs.NetState.{line_in}

pub record AreSame (parts copy : NetParts) : Type 0 where
  pub next : copy.next ≡ parts.next
  pub later_steps : copy.later_steps ≡ parts.later_steps
  pub elements : copy.elements.items ≡ parts.elements.items
  pub lines : copy.lines.items ≡ parts.lines.items
  pub signals : copy.signals.items ≡ parts.signals.items
  pub sources : copy.sources.items ≡ parts.sources.items
  pub heards : copy.heards.items ≡ parts.heards.items
  pub dues : copy.dues ≡ parts.dues
  pub changes : copy.tellings.changes.items ≡ parts.tellings.changes.items
  pub active : copy.tellings.active ≡ parts.tellings.active
  pub called : copy.called ≡ parts.called

-- two lists of one length are the same, but for some places
pub record AreSameBut {A : Type 0} (places : List ℕ) (xs ys : List A) : Type 0 where
  pub count : length xs ≡ length ys
  pub same : (k : ℕ) (other : A) → k < length ys → list_any (nat_eq k) places ≡ false → slice_index_or xs k other ≡ slice_index_or ys k other

-- when the element at a place is due
abbrev pub IsElementDue : List ElementState → ℕ → Option ℕ → Type 0
IsElementDue elements e due = (other : ElementState) → due ≡ (slice_index_or elements e other).due

-- when the line at a place is due, if it is kept
abbrev pub IsLineDue : List (Option LineState) → ℕ → Option ℕ → Type 0
IsLineDue lines l due = due ≡ option_and_then (λ state. state.due) (line_in lines l)

-- due times from a first one on: those of some places are now what they have to be, and all others as
-- they were
pub record AreRenewed (first : ℕ) (places : List ℕ) (IsDue : ℕ → Option ℕ → Type 0) (before after : List (Option ℕ)) : Type 0 where
  pub count : length after ≡ length before
  pub renewed : (k : ℕ) → list_any (nat_eq k) places ≡ true → IsDue k (due_in after (first + k))
  pub left : (k : ℕ) → list_any (nat_eq k) places ≡ false → due_in after (first + k) ≡ due_in before (first + k)
  pub earlier : (k : ℕ) → k < first → due_in after k ≡ due_in before k

-- a network became what another over the same plan is: it keeps what is the same for both
pub record AreReturned (base before after : NetParts) : Type 0 where
  pub next : after.next ≡ base.next
  pub later_steps : after.later_steps ≡ base.later_steps
  pub elements : after.elements.items ≡ base.elements.items
  pub lines : after.lines.items ≡ base.lines.items
  pub signals : after.signals.items ≡ base.signals.items
  pub sources : after.sources.items ≡ base.sources.items
  pub heards : after.heards.items ≡ base.heards.items
  pub dues : after.dues ≡ base.dues
  pub changes : after.tellings.changes ≡ before.tellings.changes
  pub active : after.tellings.active ≡ base.tellings.active
  pub called : after.called ≡ base.called
