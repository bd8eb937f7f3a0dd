-- Private to this crate: a network that differs from another in what is marked alone.
use Rattle.std.specs.Prelude.{◌≡◌, ◌<◌, ℕ, Bool, false, List, length, slice_index_or}
use Rattle.std.specs.List.{list_any}
use Rattle.agenda.specs.Marked.{Marked}
use Rattle.sync_element.specs.ElementState.{ElementState}
use Rattle.sync_topo.specs.declared.event.Event.{Event}
use Rattle.sync_topo.specs.Topology.{Topology}
use Rattle.sync_topo.specs.Lines.{line_count}
use Rattle.net_rules.specs.Settling.{switches_line}
use Rattle.sync_net.specs.Kept.{line_signal, source_signal, heard_on}
use Rattle.sync_net.specs.NetState.{NetState, line_in}
use Rattle.sync_net.specs.Named.{names_source}
use Rattle.sync_sweep.specs.declared.touched.Touched.{Touched}

-- the marks are of the elements, lines and sources of a plan
pub record AreMarksOf (plan : Topology) (touched : Touched) : Type 0 where
  pub elements : length touched.elements.flags ≡ length plan.elements
  pub lines : length touched.lines.flags ≡ line_count plan
  pub sources : length touched.sources.flags ≡ length plan.sources

-- a place isn't marked
abbrev pub IsFree : Marked → ℕ → Type 0
IsFree marks place = slice_index_or marks.flags place false ≡ false

-- marks only come, and each place of a kind has one
pub record AreMarkedToo (IsOne : ℕ → Bool) (before after : Marked) : Type 0 where
  pub count : length after.flags ≡ length before.flags
  pub left : (k : ℕ) → IsFree after k → IsFree before k
  pub marked : (k : ℕ) → IsFree after k → IsOne k ≡ false

-- so do the lines that events switch and the sources that they name, and elements are as they were
pub record AreEventsNamed (events : List Event) (before after : Touched) : Type 0 where
  pub elements : after.elements ≡ before.elements
  pub lines : AreMarkedToo (λ line. list_any (λ event. switches_line line event.what) events) before.lines after.lines
  pub sources : AreMarkedToo (λ source. list_any (names_source source) events) before.sources after.sources

-- of elements, lines and sources of a network those that aren't marked are as they are in another
pub record IsBranch (base net : NetState) (touched : Touched) : Type 0 where
  pub plan : net.plan ≡ base.plan
  pub marks : AreMarksOf base.plan touched
  pub elements_same : (e : ℕ) (other : ElementState) → e < length base.plan.elements → IsFree touched.elements e
      → slice_index_or net.elements e other ≡ slice_index_or base.elements e other
  pub lines_same : (l : ℕ) → l < line_count base.plan → IsFree touched.lines l → line_in net.lines l ≡ line_in base.lines l
  pub signals_same : (l : ℕ) → l < line_count base.plan → IsFree touched.lines l → line_signal net.kept l ≡ line_signal base.kept l
  pub heards_same : (l : ℕ) → l < line_count base.plan → IsFree touched.lines l → heard_on net.kept l ≡ heard_on base.kept l
  pub sources_same : (s : ℕ) → s < length base.plan.sources → IsFree touched.sources s → source_signal net.kept s ≡ source_signal base.kept s
