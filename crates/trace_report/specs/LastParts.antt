-- The last parts of a report: whence each element has its timing, which loops stand, and whether the
-- last millisecond is settled. This project's own.
use Rattle.std.specs.Prelude.{◌≡◌, ◌↔◌, ℕ, Bool, true, false, IsTrue, List, [], ◌++◌, length, map, codes, slice_get}
use Rattle.std.specs.List.{range_with_len, concat}
use Rattle.std.specs.Option.{option_map_or}
use Rattle.std.specs.Fmt.{decimal}
use Rattle.sync_topo.specs.declared.event.Event.{Event}
use Rattle.sync_topo.specs.Topology.{Topology}
use Rattle.sync_topo.specs.Lines.{element_name, source_name}
use Rattle.net_rules.specs.Signals.{signals_by}
use Rattle.net_rules.specs.History.{out_at}
use Rattle.net_rules.specs.Safety.{taken_in}
use Rattle.net_rules.specs.Settled.{IsSettled}
use Rattle.closed_walks.specs.declared.traced.End.{End}
use Rattle.closed_walks.specs.declared.traced.End.TheVariants.{Source, OwnClock, Loop}
use Rattle.closed_walks.specs.declared.traced.Ending.{Ending}
use Rattle.closed_walks.specs.Traces.{AreEndings}
use Rattle.closed_walks.specs.Loops.{AreLoops}
use Rattle.closed_walks.specs.WalkText.{walk_rows}

-- where a trace ends: the kind, and the name of the source or element
abbrev pub end_word : End → List ℕ
end_word (Source source) = codes "source"
end_word (OwnClock element) = codes "own"
end_word (Loop element) = codes "loop"

abbrev pub end_name : Topology → End → List ℕ
end_name plan (Source source) = source_name plan source
end_name plan (OwnClock element) = element_name plan element
end_name plan (Loop element) = element_name plan element

-- the trace of an element: element,lines,kind,name
abbrev pub trace_row : Topology → ℕ → Ending → List ℕ
trace_row plan element ending =
    element_name plan element ++ codes "," ++ decimal ending.lines ++ codes "," ++ end_word ending.end ++ codes "," ++ end_name plan ending.end ++ codes "\n"

-- the row of an element by the list of all
abbrev pub trace_row_of : Topology → List Ending → ℕ → List ℕ
trace_row_of plan endings element = option_map_or (trace_row plan element) (slice_get endings element) []

abbrev pub traces_part : Topology → List Ending → List ℕ
traces_part plan endings = codes "traces\n" ++ concat (map (trace_row_of plan endings) (range_with_len 0 (length endings)))

-- the rows of the closed walks
abbrev pub loops_part : Topology → List (List ℕ) → List ℕ
loops_part plan walks = codes "loops\n" ++ walk_rows plan walks

-- whether the millisecond is settled
abbrev pub settled_part : Bool → List ℕ
settled_part true = codes "settled yes\n"
settled_part false = codes "settled no\n"

-- the last parts in a millisecond, by the plan and all events
pub record AreLastParts (plan : Topology) (events : List Event) (t : ℕ) (text : List ℕ) : Type 0 where
  pub endings : List Ending
  pub are_endings : AreEndings plan (taken_in plan (signals_by plan events) (out_at plan (signals_by plan events)) t) endings
  pub walks : List (List ℕ)
  pub are_loops : AreLoops plan (taken_in plan (signals_by plan events) (out_at plan (signals_by plan events)) t) walks
  pub settled : Bool
  pub is_settled : IsTrue settled ↔ IsSettled plan (signals_by plan events) (out_at plan (signals_by plan events)) t
  pub is : text ≡ traces_part plan endings ++ loops_part plan walks ++ settled_part settled
