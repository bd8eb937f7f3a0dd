-- Whence the elements of a network have their timing, counted. This project's own.
use Rattle.std.specs.Prelude.{◌≡◌, ℕ, Bool, true, false, not, List, Some, slice_get}
use Rattle.std.specs.List.{count_by, position}
use Rattle.sync_topo.specs.Topology.{Topology}
use Rattle.net_rules.specs.Walks.{Taken}
use Rattle.net_rules.specs.Settling.{IsGreatest}
use Rattle.closed_walks.specs.declared.traced.End.{End}
use Rattle.closed_walks.specs.declared.traced.End.TheVariants.{Source, OwnClock, Loop}
use Rattle.closed_walks.specs.declared.traced.Ending.{Ending}
use Rattle.closed_walks.specs.Traces.{AreEndings}
use Rattle.timings.specs.declared.counted.Timing.{Timing}

abbrev pub is_source : End → Bool
is_source (Source source) = true
is_source (OwnClock element) = false
is_source (Loop element) = false

-- the trace of an element doesn't end at a source
abbrev pub is_lost : Ending → Bool
is_lost ending = not (is_source ending.end)

-- it ends at a source or at an own clock, and doesn't go round
abbrev pub has_ended : End → Bool
has_ended (Source source) = true
has_ended (OwnClock element) = true
has_ended (Loop element) = false

-- one of some traces that end so is of so many lines
pub record IsLengthIn (endings : List Ending) (lines : ℕ) : Type 0 where
  pub element : ℕ
  pub ending : Ending
  pub there : slice_get endings element ≡ Some ending
  pub ended : has_ended ending.end ≡ true
  pub is : lines ≡ ending.lines

-- how many traces don't end at a source, the first element of such a trace, and the lines of the longest
-- trace that ends
pub record IsCounted (endings : List Ending) (timing : Timing) : Type 0 where
  pub lost : timing.lost ≡ count_by is_lost endings
  pub first : timing.first ≡ position is_lost endings
  pub longest : IsGreatest (IsLengthIn endings) timing.longest

-- that of all elements, by what each takes
pub record IsTiming (plan : Topology) (taken : Taken) (timing : Timing) : Type 0 where
  pub endings : List Ending
  pub are_endings : AreEndings plan taken endings
  pub counted : IsCounted endings timing
