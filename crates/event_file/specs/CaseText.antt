-- The cases that a text gives, or the first rule that it breaks. This project's own.
use Rattle.std.specs.Prelude.{ℕ, Bool, false, ◌&&◌, List, [], ◌∷◌, ◌++◌, length, map, codes, Result, Err, if◌then◌else◌}
use Rattle.std.specs.List.{flat_map}
use Rattle.std.specs.Str.{bytes_eq}
use Rattle.sync_text.specs.Chain.{unless}
use Rattle.csv_records.specs.Records.{records_of}
use Rattle.csv_records.specs.FirstRefusal.{first_refusal}
use Rattle.sync_topo.specs.declared.event.Case.{Case}
use Rattle.sync_topo.specs.declared.event.Event.{Event}
use Rattle.sync_topo.specs.Topology.{Topology}
use Rattle.event_file.specs.declared.error.EventErr.{EventErr}
use Rattle.event_file.specs.declared.error.EventErr.TheVariants.{Header}
use Rattle.event_file.specs.declared.case_file.Cases.{Cases}
use Rattle.event_file.specs.Rows.{Fields}
use Rattle.event_file.specs.EventText.{events_in, is_header}
use Rattle.event_file.specs.CaseRows.{case_in, rows_of, case_refusal_at}

-- the record is the header: `case`, and the header of an event file
abbrev pub is_case_header : Fields → Bool
is_case_header [] = false
is_case_header (first ∷ fields) = bytes_eq first (codes "case") && is_header fields

-- the names of the cases of some rows that come after a row of a case, in order: each that isn't that of the row before
abbrev pub names_after : List ℕ → List Fields → List (List ℕ)
names_after before [] = []
names_after before (row ∷ rows) =
    if bytes_eq (case_in row) before then names_after before rows else case_in row ∷ names_after (case_in row) rows

-- the names of the cases of some rows, of which the first are common to all cases
abbrev pub names_of : List Fields → List (List ℕ)
names_of rows = names_after [] rows

-- what happens in a case alone: the events of its rows
abbrev pub case_of : Topology → List Fields → List ℕ → Case
case_of plan rows name = record { events = events_in plan (rows_of rows name) }

-- the common events, and each case with its name
abbrev pub cases_in : Topology → List Fields → Cases
cases_in plan rows = record { common = events_in plan (rows_of rows []); names = names_of rows; cases = map (case_of plan rows) (names_of rows) }

-- the cases of some rows, or the first refusal
abbrev pub cases_of_rows : Topology → List Fields → Result Cases EventErr
cases_of_rows plan rows = unless (first_refusal (case_refusal_at plan rows) (length rows)) (cases_in plan rows)

-- the header first, and then a row for each event
abbrev pub cases_of_records : Topology → List Fields → Result Cases EventErr
cases_of_records plan [] = Err Header
cases_of_records plan (first ∷ rows) = if is_case_header first then cases_of_rows plan rows else Err Header

-- the cases of a text
abbrev pub cases_of : Topology → List ℕ → Result Cases EventErr
cases_of plan bytes = cases_of_records plan (records_of bytes)

-- all events, the common ones and those of each case
abbrev pub all_events : Cases → List Event
all_events cases = cases.common ++ flat_map (λ case. case.events) cases.cases
