-- The table of a study, as text. This project's own.
use Rattle.std.specs.Prelude.{ℕ, List, [], ◌∷◌, ◌++◌, slice_get, codes, Option, None, Some}
use Rattle.std.specs.Fmt.{decimal}
use Rattle.std.specs.Option.{option_map_or}
use Rattle.sync_topo.specs.declared.element.Element.{Element}
use Rattle.sync_topo.specs.Topology.{Topology}
use Rattle.sync_sweep.specs.declared.on_way.OnWay.{OnWay}
use Rattle.sync_sweep.specs.declared.studying.StudyRow.{StudyRow}
use Rattle.timings.specs.declared.counted.Timing.{Timing}
use Rattle.sync_sweep.specs.SweepText.{results_text}

-- the name of an element, or nothing
abbrev pub first_word : Topology → Option ℕ → List ℕ
first_word plan None = []
first_word plan (Some element) = option_map_or (λ (e : Element). e.name) (slice_get plan.elements element) []

-- whence the elements have their timing: lost,first,longest
abbrev pub timing_text : Topology → Timing → List ℕ
timing_text plan timing = decimal timing.lost ++ codes "," ++ first_word plan timing.first ++ codes "," ++ decimal timing.longest

-- what a case costs on the way: hurt,dark,darkest,still
abbrev pub way_text : Topology → OnWay → List ℕ
way_text plan way = decimal way.hurt ++ codes "," ++ decimal way.dark ++ codes "," ++ first_word plan way.darkest ++ codes "," ++ decimal way.still

-- both: lost,first,longest,hurt,dark,darkest,still
unfoldable pub timed_text : Topology → StudyRow → List ℕ
timed_text plan row = timing_text plan row.timing ++ codes "," ++ way_text plan row.way

-- a row: case,settled,locked,holdover,freerun,loops,worst,bound,lost,first,longest,hurt,dark,darkest,still
abbrev pub case_text : Topology → List ℕ → StudyRow → List ℕ
case_text plan name row = name ++ codes "," ++ results_text row.outcome ++ codes "," ++ timed_text plan row ++ codes "\n"

-- the rows of some cases, by their names
abbrev pub cases_text : Topology → List (List ℕ) → List StudyRow → List ℕ
cases_text plan [] rows = []
cases_text plan (name ∷ names) [] = []
cases_text plan (name ∷ names) (row ∷ rows) = case_text plan name row ++ cases_text plan names rows

abbrev pub study_head : List ℕ
study_head = codes "case,settled,locked,holdover,freerun,loops,worst,bound,lost,first,longest,hurt,dark,darkest,still\n"

abbrev pub study_text : Topology → List (List ℕ) → List StudyRow → List ℕ
study_text plan names rows = study_head ++ cases_text plan names rows
