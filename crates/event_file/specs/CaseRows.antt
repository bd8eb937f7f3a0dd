-- What a row of a case file says. This project's own.
use Rattle.std.specs.Prelude.{ℕ, ◌+◌, Bool, not, ◌&&◌, ◌||◌, nat_lt, List, [], ◌∷◌, length, map, filter, take, is_none, Option, Some, None, option_and_then, slice_get, unwrap_or, if◌then◌else◌}
use Rattle.std.specs.List.{list_all, last_or}
use Rattle.std.specs.Str.{bytes_eq}
use Rattle.csv_records.specs.Fields.{five_of}
use Rattle.sync_topo.specs.Names.{is_name, is_named}
use Rattle.sync_topo.specs.Topology.{Topology}
use Rattle.sync_topo.specs.Sizes.{event_limit}
use Rattle.event_file.specs.declared.error.EventErr.{EventErr}
use Rattle.event_file.specs.declared.error.EventErr.TheVariants as refusal
use Rattle.event_file.specs.Rows.{Fields, time_before, row_refusal}

-- the name of the case that a row belongs to: its first field. Where it is empty, the row is common to all cases
abbrev pub case_in : Fields → List ℕ
case_in [] = []
case_in (name ∷ event) = name

-- its other fields, which are a row of an event file
abbrev pub event_fields : Fields → Fields
event_fields [] = []
event_fields (name ∷ event) = event

-- the row is common to all cases
abbrev pub is_common : Fields → Bool
is_common row = bytes_eq (case_in row) []

-- of some rows those that belong to a case, as rows of an event file; the common ones, where the name is empty
abbrev pub rows_of : List Fields → List ℕ → List Fields
rows_of rows name = map event_fields (filter (λ row. bytes_eq name (case_in row)) rows)

-- the time of the last of some rows; of none it is 0
abbrev pub time_after : List Fields → ℕ
time_after rows = time_before rows (length rows)

-- the case that the last of some rows belongs to
abbrev pub case_before : List Fields → List ℕ
case_before rows = unwrap_or (last_or None (map case_in rows)) []

-- a row after these may belong to the case: it has a name, or these rows and the next are all common
abbrev pub may_follow : List Fields → List ℕ → Bool
may_follow earlier name = is_name name || (bytes_eq name [] && list_all is_common earlier)

-- the case stood before, and the row before is of another
abbrev pub is_apart : List Fields → List ℕ → Bool
is_apart earlier name = is_named (map case_in earlier) name && not (bytes_eq name (case_before earlier))

-- the rule that row n breaks, if it breaks one, after these rows. Its event is one of its case: it may break a rule for
-- events as the next row of an event file with the rows of its case alone
unfoldable pub case_refusal : Topology → List Fields → ℕ → Fields → Option EventErr
case_refusal plan earlier n row =
    if nat_lt (event_limit plan) n then Some refusal.Limit
    else if is_none (five_of row) then Some (refusal.Fields n)
    else if not (may_follow earlier (case_in row)) then Some (refusal.Name n)
    else if is_apart earlier (case_in row) then Some (refusal.Apart n)
    else row_refusal plan n (time_after (rows_of earlier (case_in row))) (event_fields row)

-- the same of the row at a place, after the rows before it. Places count from 0, and the numbers of rows from 1
abbrev pub case_refusal_at : Topology → List Fields → ℕ → Option EventErr
case_refusal_at plan rows place = option_and_then (case_refusal plan (take place rows) (place + 1)) (slice_get rows place)
