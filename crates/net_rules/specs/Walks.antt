-- Closed walks, facing pairs and traces: over what each element takes in one millisecond.
-- This project's own; that timing must not go round is after G.781 and G.803.
use Rattle.std.specs.Prelude.{◌≡◌, ◌≢◌, ◌⊎◌, ℕ, IsTrue, List, [], ◌∷◌, Option, None, Some, ⊤}
use Rattle.sync_text.specs.Each.{Each}
use Rattle.sync_topo.specs.declared.input.InputId.{InputId}
use Rattle.sync_topo.specs.declared.input.InputId.TheVariants.{Source}
use Rattle.sync_topo.specs.Topology.{Topology}
use Rattle.sync_topo.specs.Lines.{line_input, sender_of, receiver_of}
use Rattle.sync_topo.specs.Hops.{goes_back}
use Rattle.sync_topo.specs.Ranks.{Leads}

-- the input that each element takes, or none
abbrev pub Taken : Type 0
Taken = ℕ → Option InputId

-- none stands twice in a list
abbrev pub AreApart : List ℕ → Type 0
AreApart [] = ⊤
AreApart (n ∷ rest) = Each (λ other. n ≢ other) rest × AreApart rest

-- one of a list
abbrev pub IsOneOf : ℕ → List ℕ → Type 0
IsOneOf n [] = ⊥
IsOneOf n (other ∷ rest) = (n ≡ other) ⊎ IsOneOf n rest

-- the receiver of a line takes it
abbrev pub IsTaken : Topology → Taken → ℕ → Type 0
IsTaken plan taken line = taken (receiver_of plan line) ≡ Some (line_input line)

-- a line ends where the next begins
abbrev pub Joins : Topology → ℕ → ℕ → Type 0
Joins plan line next = receiver_of plan line ≡ sender_of plan next

-- lines without repeats, each taken by its receiver, each of which begins where the one before ends, and
-- the first where the last ends
pub record IsClosedWalkFrom (plan : Topology) (taken : Taken) (first : ℕ) (rest : List ℕ) : Type 0 where
  pub joined : Leads (Joins plan) first rest first
  pub each_taken : Each (IsTaken plan taken) (first ∷ rest)
  pub apart : AreApart (first ∷ rest)

abbrev pub IsClosedWalk : Topology → Taken → List ℕ → Type 0
IsClosedWalk plan taken [] = ⊥
IsClosedWalk plan taken (first ∷ rest) = IsClosedWalkFrom plan taken first rest

-- two lines whose links are of one bundle, of which the second goes back from the first
abbrev pub IsFacingPair : Topology → List ℕ → Type 0
IsFacingPair plan (line ∷ back ∷ []) = IsTrue (goes_back plan line back)
IsFacingPair plan lines = ⊥

-- where a trace ends: at a source, at an element that takes nothing, or at the first that it meets again
pub data TraceEnd : Type 0 where
  at_source : ℕ → TraceEnd
  at_clock : ℕ → TraceEnd
  at_loop : ℕ → TraceEnd

-- what an element takes is followed backwards; these were passed, and the trace ends at this element
abbrev pub EndsAt : Taken → List ℕ → ℕ → TraceEnd → Type 0
EndsAt taken passed element (at_source source) =
    Each (λ other. element ≢ other) passed × (taken element ≡ Some (Source source))
EndsAt taken passed element (at_clock clock) =
    Each (λ other. element ≢ other) passed × (taken element ≡ None) × (clock ≡ element)
EndsAt taken passed element (at_loop again) =
    IsOneOf element passed × (again ≡ element)

abbrev pub IsTraceAfter : Topology → Taken → List ℕ → ℕ → List ℕ → TraceEnd → Type 0
IsTraceAfter plan taken passed element [] end = EndsAt taken passed element end
IsTraceAfter plan taken passed element (line ∷ rest) end =
    Each (λ other. element ≢ other) passed
    × (taken element ≡ Some (line_input line))
    × IsTraceAfter plan taken (element ∷ passed) (sender_of plan line) rest end

-- the lines that are followed from an element, in order, and the end
abbrev pub IsTrace : Topology → Taken → ℕ → List ℕ → TraceEnd → Type 0
IsTrace plan taken element lines end = IsTraceAfter plan taken [] element lines end
