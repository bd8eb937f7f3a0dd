-- Traces as they are answered.
use Rattle.std.specs.Prelude.{◌≡◌, ℕ, List, length, map, Option, Some, slice_get}
use Rattle.sync_topo.specs.Topology.{Topology}
use Rattle.net_rules.specs.Walks.{Taken, TraceEnd, at_source, at_clock, at_loop, IsTrace}
use Rattle.closed_walks.specs.declared.traced.Ending.{Ending}
use Rattle.closed_walks.specs.declared.traced.End.{End}
use Rattle.closed_walks.specs.declared.traced.End.TheVariants.{Source, OwnClock, Loop}

-- the end that is meant
abbrev pub end_of : End → TraceEnd
end_of (Source source) = at_source source
end_of (OwnClock element) = at_clock element
end_of (Loop element) = at_loop element

-- the trace of an element has so many lines, and ends so
abbrev pub EndsSo : Topology → Taken → ℕ → Ending → Type 0
EndsSo plan taken element ending =
    (lines : List ℕ) × (length lines ≡ ending.lines) × IsTrace plan taken element lines (end_of ending.end)

-- how the traces of all elements end, by what each takes
pub record AreEndings (plan : Topology) (taken : Taken) (endings : List Ending) : Type 0 where
  pub count : length endings ≡ length plan.elements
  pub each : (element : ℕ) (ending : Ending) → slice_get endings element ≡ Some ending → EndsSo plan taken element ending

-- so they end, as a list by the number of the element
pub record AreFound (plan : Topology) (taken : Taken) (known : List (Option Ending)) : Type 0 where
  pub endings : List Ending
  pub is : map Some endings ≡ known
  pub are : AreEndings plan taken endings
