-- What a row of an event file says. This project's own.
use Rattle.std.specs.Prelude.{ℕ, ◌+◌, zero, suc, nat_le, nat_lt, List, is_none, Option, Some, None, option_map, option_and_then, slice_get, unwrap_or, if◌then◌else◌}
use Rattle.csv_records.specs.Fields.{four_of}
use Rattle.sync_ql.specs.declared.limits.TheConstants.{LAST_MILLISECOND}
use Rattle.sync_text.specs.Number.{number_of}
use Rattle.sync_topo.specs.declared.event.Event.{Event}
use Rattle.sync_topo.specs.declared.event.What.{What}
use Rattle.sync_topo.specs.Topology.{Topology}
use Rattle.sync_topo.specs.Sizes.{event_limit}
use Rattle.event_file.specs.declared.error.EventErr.{EventErr}
use Rattle.event_file.specs.declared.error.EventErr.TheVariants as refusal
use Rattle.event_file.specs.declared.word.Word.{Word}
use Rattle.event_file.specs.declared.word.WordTarget.{WordTarget}
use Rattle.event_file.specs.Words.{word_of, said_of, what_of}

-- a row's fields
abbrev pub Fields : Type 0
Fields = List (List ℕ)

-- the last millisecond at which an event may stand
abbrev pub last_time : ℕ
last_time = LAST_MILLISECOND

-- a number, where it is a millisecond at which an event may stand
abbrev pub in_time : ℕ → Option ℕ
in_time at = if nat_le at last_time then Some at else None

-- the time of a row: its first field
abbrev pub time_in : Fields → Option ℕ
time_in row = option_and_then (λ fields. option_and_then in_time (number_of fields.0)) (four_of row)

-- its word: its second field
abbrev pub word_in : Fields → Option Word
word_in row = option_and_then (λ fields. word_of fields.1) (four_of row)

-- what its word says of its target, which its third field names
abbrev pub said_in : Topology → Fields → Option WordTarget
said_in plan row =
    option_and_then (λ fields. option_and_then (λ word. said_of plan word fields.2) (word_of fields.1)) (four_of row)

-- what happens, by its value, the fourth field
abbrev pub what_in : Topology → Fields → Option What
what_in plan row =
    option_and_then (λ fields. option_and_then (λ said. what_of plan.option said fields.3) (said_in plan row)) (four_of row)

-- the event of a row
abbrev pub event_in : Topology → Fields → Option Event
event_in plan row =
    option_and_then (λ at. option_map (λ happens. record { at = at; what = happens }) (what_in plan row)) (time_in row)

-- the time of the row before the one at a place; before the first row it is 0
abbrev pub time_before : List Fields → ℕ → ℕ
time_before rows zero = 0
time_before rows (suc place) = unwrap_or (option_and_then time_in (slice_get rows place)) 0

-- the rule that row n breaks, if it breaks one, where the row before it has this time
unfoldable pub row_refusal : Topology → ℕ → ℕ → Fields → Option EventErr
row_refusal plan n before row =
    if nat_lt (event_limit plan) n then Some refusal.Limit
    else if is_none (four_of row) then Some (refusal.Fields n)
    else if is_none (time_in row) then Some (refusal.Time n)
    else if nat_lt (unwrap_or (time_in row) 0) before then Some (refusal.Order n)
    else if is_none (word_in row) then Some (refusal.What n)
    else if is_none (said_in plan row) then Some (refusal.Target n)
    else if is_none (what_in plan row) then Some (refusal.Value n)
    else None

-- the same of the row at a place. Places count from 0, and the numbers of rows from 1
abbrev pub refusal_at : Topology → List Fields → ℕ → Option EventErr
refusal_at plan rows place = option_and_then (row_refusal plan (place + 1) (time_before rows place)) (slice_get rows place)
