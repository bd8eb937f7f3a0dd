-- The events that a text gives, or the first rule that it breaks. This project's own.
use Rattle.std.specs.Prelude.{ℕ, Bool, false, ◌&&◌, List, [], ◌∷◌, length, codes, Result, Err, if◌then◌else◌}
use Rattle.std.specs.List.{filter_map}
use Rattle.std.specs.Str.{bytes_eq}
use Rattle.sync_text.specs.Chain.{unless}
use Rattle.csv_records.specs.Records.{records_of}
use Rattle.csv_records.specs.FirstRefusal.{first_refusal}
use Rattle.sync_topo.specs.declared.event.Event.{Event}
use Rattle.sync_topo.specs.Topology.{Topology}
use Rattle.event_file.specs.declared.error.EventErr.{EventErr}
use Rattle.event_file.specs.declared.error.EventErr.TheVariants.{Header}
use Rattle.event_file.specs.Rows.{Fields, event_in, refusal_at}

-- the record is the header
abbrev pub is_header : Fields → Bool
is_header (at ∷ what ∷ target ∷ value ∷ []) =
    bytes_eq at (codes "at") && bytes_eq what (codes "what") && bytes_eq target (codes "target") && bytes_eq value (codes "value")
is_header _ = false

-- the events of some rows, in order
abbrev pub events_in : Topology → List Fields → List Event
events_in plan rows = filter_map (event_in plan) rows

-- the events of some rows, or the first refusal
abbrev pub events_of_rows : Topology → List Fields → Result (List Event) EventErr
events_of_rows plan rows = unless (first_refusal (refusal_at plan rows) (length rows)) (events_in plan rows)

-- the header first, and then a row for each event
abbrev pub events_of_records : Topology → List Fields → Result (List Event) EventErr
events_of_records plan [] = Err Header
events_of_records plan (first ∷ rows) = if is_header first then events_of_rows plan rows else Err Header

-- the events of a text
abbrev pub events_of : Topology → List ℕ → Result (List Event) EventErr
events_of plan bytes = events_of_records plan (records_of bytes)
