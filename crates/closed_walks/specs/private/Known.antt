-- The endings that are known, as a list by the number of the element.
use Rattle.std.specs.Prelude.{◌≡◌, ◌⊎◌, ℕ, [], List, length, slice_index_or, Option, None, Some, is_some, IsTrue, IfSome}
use Rattle.sync_topo.specs.Topology.{Topology}
use Rattle.sync_topo.specs.Lines.{line_input, sender_of}
use Rattle.net_rules.specs.GoingBack.{ComesBack}
use Rattle.net_rules.specs.Walks.{Taken, EndsAt}
use Rattle.closed_walks.specs.declared.traced.Ending.{Ending}
use Rattle.closed_walks.specs.declared.traced.End.{End}
use Rattle.closed_walks.specs.declared.traced.End.TheVariants.{Source, OwnClock, Loop}
use Rattle.closed_walks.specs.Traces.{end_of, EndsSo}

abbrev pub known_at : List (Option Ending) → ℕ → Option Ending
known_at known element = slice_index_or known element None

abbrev pub IsKnown : List (Option Ending) → ℕ → Type 0
IsKnown known element = IsTrue (is_some (known_at known element))

-- each that is known is right, and with an element the one that it takes its timing from is known
pub record AreKnown (plan : Topology) (taken : Taken) (known : List (Option Ending)) : Type 0 where
  pub count : length known ≡ length plan.elements
  pub holds : (element : ℕ) → IfSome (known_at known element) (EndsSo plan taken element)
  pub on : (element line : ℕ) → IsKnown known element → taken element ≡ Some (line_input line) → IsKnown known (sender_of plan line)

-- an element takes a line from which going back so many times leads to it again
pub record IsOnLoop (plan : Topology) (taken : Taken) (element : ℕ) : Type 0 where
  pub count : ℕ
  pub line : ℕ
  pub takes : taken element ≡ Some (line_input line)
  pub comes : ComesBack plan taken count line

-- where following came to: an element that is known or on a loop; or one that takes no line
abbrev pub IsEndAt : Topology → Taken → List (Option Ending) → ℕ → End → Type 0
IsEndAt plan taken known last (Loop again) = IsKnown known last ⊎ IsOnLoop plan taken last
IsEndAt plan taken known last (Source source) = EndsAt taken [] last (end_of (Source source))
IsEndAt plan taken known last (OwnClock element) = EndsAt taken [] last (end_of (OwnClock element))

-- more endings are known, and none less
pub record IsMoreKnown (plan : Topology) (taken : Taken) (before after : List (Option Ending)) : Type 0 where
  pub known : AreKnown plan taken after
  pub still : (k : ℕ) → IsKnown before k → IsKnown after k
