-- What is answered is of the plan.
use Rattle.std.proofs.Common.{◌≡◌, ◌<◌, ℕ, zero, suc, List, [], ◌∷◌, length, map, Option, Some, IfSome, Result, Ok, Err, IfOk, get_or, subst, sym, arith}
use Rattle.std.specs.Prelude.{slice_get}
use Rattle.std.specs.List.{All}
use Rattle.std.proofs.lemmas.Option.{slice_get-get_or}
use Rattle.sync_text.specs.Each.{Each}
use Rattle.sync_topo.specs.declared.input.InputId.{InputId}
use Rattle.sync_text.specs.declared.errors.NoMemory.{NoMemory}
use Rattle.sync_topo.specs.declared.input.LineId.{LineId}
use Rattle.sync_topo.specs.Topology.{Topology}
use Rattle.sync_topo.specs.Lines.{sender_of, receiver_of, numbers}
use Rattle.sync_topo.specs.WellFormed.{IsWellFormed}
use Rattle.net_rules.specs.Inputs.{IsInputOf}
use Rattle.net_rules.specs.Walks.{IsTaken, IsClosedWalk, TraceEnd, at_source, at_clock, at_loop, IsTraceAfter}
use Rattle.closed_walks.specs.declared.traced.End.{End}
use Rattle.closed_walks.specs.declared.traced.End.TheVariants.{Source, OwnClock, Loop}
use Rattle.closed_walks.specs.declared.traced.Ending.{Ending}
use Rattle.closed_walks.specs.Taking.{taken_in_list, AreTaken}
use Rattle.closed_walks.specs.Traces.{end_of, EndsSo}
use Rattle.closed_walks.specs.Loops.{IsLoop}
use Rattle.closed_walks.specs.Within.{IsEndOf, AreLinesOf}
use Rattle.closed_walks.proofs.KnownLaws.{taken-line, taken-within}

-- an end is a source or an element of the plan
IsWithin : Topology → TraceEnd → Type 0
IsWithin plan (at_source source) = source < length plan.sources
IsWithin plan (at_clock element) = element < length plan.elements
IsWithin plan (at_loop element) = element < length plan.elements

end-within : (plan : Topology) (inputs : List (Option InputId)) → IsWellFormed plan → AreTaken plan inputs
    → (lines passed : List ℕ) (element : ℕ) (end : TraceEnd) → element < length plan.elements
    → IsTraceAfter plan (taken_in_list inputs) passed element lines end → IsWithin plan end
unfolding IsWithin
end-within plan inputs well are [] passed element (at_source source) within trace =
    (subst (λ (o : Option InputId). IfSome o (IsInputOf plan element)) trace.1 (are.own element)).has
end-within plan inputs well are [] passed element (at_clock clock) within trace = subst (λ e. e < length plan.elements) (sym trace.2) within
end-within plan inputs well are [] passed element (at_loop again) within trace = subst (λ e. e < length plan.elements) (sym trace.1) within
end-within plan inputs well are (line ∷ rest) passed element end within trace =
    end-within plan inputs well are rest (element ∷ passed) (sender_of plan line) end (taken-within plan inputs well are element line trace.1) trace.2

end-of : (plan : Topology) (lines : ℕ) (end : End) → IsWithin plan (end_of end) → IsEndOf plan (record { lines = lines; end = end })
unfolding IsWithin
end-of plan lines (Source source) is = is
end-of plan lines (OwnClock element) is = is
end-of plan lines (Loop element) is = is

pub ends-of_plan : (plan : Topology) (inputs : List (Option InputId)) (endings : List Ending) → IsWellFormed plan → AreTaken plan inputs
    → length endings ≡ length plan.elements
    → ((element : ℕ) (ending : Ending) → slice_get endings element ≡ Some ending → EndsSo plan (taken_in_list inputs) element ending)
    → All (IsEndOf plan) endings
ends-of_plan plan inputs endings well are count each k other inside =
    let ending = get_or endings k other in
    let ends = each k ending (slice_get-get_or endings k other inside) in
    end-of plan ending.lines ending.end (end-within plan inputs well are ends.0 [] k (end_of ending.end) (omega (arith, inside, count)) ends.2)

-- the lines of closed walks are lines of the plan
each-of : (plan : Topology) (inputs : List (Option InputId)) → AreTaken plan inputs → (lines : List LineId)
    → Each (IsTaken plan (taken_in_list inputs)) (numbers lines) → AreLinesOf plan lines
each-of plan inputs are [] each k other inside = absurd (omega (arith, inside))
each-of plan inputs are (line ∷ lines) each zero other inside = (taken-line plan inputs (receiver_of plan line.0) line.0 are each.0).has
each-of plan inputs are (line ∷ lines) each (suc k) other inside = each-of plan inputs are lines each.1 k other (omega (arith, inside))

walk-of : (plan : Topology) (inputs : List (Option InputId)) → AreTaken plan inputs → (lines : List LineId)
    → IsClosedWalk plan (taken_in_list inputs) (numbers lines) → AreLinesOf plan lines
walk-of plan inputs are [] walk = absurd walk
walk-of plan inputs are (line ∷ lines) walk = each-of plan inputs are (line ∷ lines) walk.each_taken

pub walks-each : (plan : Topology) (inputs : List (Option InputId)) → AreTaken plan inputs → (walks : List (List LineId))
    → Each (IsLoop plan (taken_in_list inputs)) (map numbers walks) → All (AreLinesOf plan) walks
walks-each plan inputs are [] each k other inside = absurd (omega (arith, inside))
walks-each plan inputs are (walk ∷ walks) each zero other inside = walk-of plan inputs are walk each.0.0
walks-each plan inputs are (walk ∷ walks) each (suc k) other inside = walks-each plan inputs are walks each.1 k other (omega (arith, inside))

-- the same, of what is answered
pub ends-answered : (plan : Topology) (inputs : List (Option InputId)) (answer : Result (List Ending) NoMemory) → IsWellFormed plan → AreTaken plan inputs
    → IfOk answer (λ endings. length endings ≡ length plan.elements)
    → IfOk answer (λ endings. (element : ℕ) (ending : Ending) → slice_get endings element ≡ Some ending → EndsSo plan (taken_in_list inputs) element ending)
    → IfOk answer (All (IsEndOf plan))
ends-answered plan inputs (Ok endings) well are count each = ends-of_plan plan inputs endings well are count each
ends-answered plan inputs (Err error) well are count each = tt
