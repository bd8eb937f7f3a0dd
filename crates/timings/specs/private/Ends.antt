-- Private to this crate: how traces end, as plain numbers.
use Rattle.std.specs.Prelude.{◌≡◌, ◌<◌, ℕ, Bool, true, false, List, length, slice_get, slice_index_or, Option, None, Some}
use Rattle.sync_topo.specs.Topology.{Topology}
use Rattle.net_rules.specs.Walks.{Taken}
use Rattle.closed_walks.specs.declared.traced.Ending.{Ending}
use Rattle.closed_walks.specs.Following.{is_met}
use Rattle.closed_walks.specs.private.Known.{known_at, AreKnown}
use Rattle.timings.specs.Timing.{is_lost, has_ended}

-- how many lines are noted of an element
abbrev pub lines_at : List ℕ → ℕ → ℕ
lines_at lines element = slice_index_or lines element 0

-- what is noted of a trace is how it ends; and it ends
abbrev pub IsNoted : Option Ending → Bool → ℕ → Bool → Type 0
IsNoted None known lines lost = known ≡ false
IsNoted (Some ending) known lines lost =
    (known ≡ true) × (has_ended ending.end ≡ true) × (lines ≡ ending.lines) × (lost ≡ is_lost ending)

-- just the endings that are known are noted
pub record AreEndsNoted (plan : Topology) (taken : Taken) (known : List Bool) (lines : List ℕ) (lost : List Bool) : Type 0 where
  pub endings : List (Option Ending)
  pub are : AreKnown plan taken endings
  pub many_known : length known ≡ length plan.elements
  pub many_lines : length lines ≡ length plan.elements
  pub many_lost : length lost ≡ length plan.elements
  pub each : (k : ℕ) → k < length plan.elements →
      IsNoted (known_at endings k) (is_met known k) (lines_at lines k) (is_met lost k)

-- a number is one of a list
pub record IsNumberIn (numbers : List ℕ) (n : ℕ) : Type 0 where
  pub place : ℕ
  pub there : slice_get numbers place ≡ Some n
