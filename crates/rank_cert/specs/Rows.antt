-- What the rows of a certificate say. This project's own.
use Rattle.std.specs.Prelude.{ℕ, Bool, false, ◌==◌, List, [], ◌∷◌, map, Option, Some, None, if◌then◌else◌}
use Rattle.std.specs.Option.{option_and_then, option_map_or, option_or}
use Rattle.std.specs.List.{range_with_len}
use Rattle.csv_records.specs.Fields.{pair_of}
use Rattle.sync_text.specs.Number.{number_of}
use Rattle.sync_topo.specs.Topology.{Topology}
use Rattle.sync_topo.specs.Lines.{line_count, is_nominated, line_of_name}
use Rattle.rank_cert.specs.Ranks.{Ranks}

-- a row's fields
abbrev pub Fields : Type 0
Fields = List (List ℕ)

-- the rank of a row: its second field as a number, where it has two fields
abbrev pub rank_in_row : Fields → Option ℕ
rank_in_row row = option_and_then (λ fields. number_of fields.1) (pair_of row)

-- the line, where it is nominated
abbrev pub if_nominated : Topology → ℕ → Option ℕ
if_nominated plan line = if is_nominated plan line then Some line else None

-- the line of a row: the nominated line whose name is its first field
abbrev pub line_in_row : Topology → Fields → Option ℕ
line_in_row plan row = option_and_then (λ fields. option_and_then (if_nominated plan) (line_of_name plan fields.0)) (pair_of row)

-- the row is one of this line
abbrev pub is_row_of : Topology → ℕ → Fields → Bool
is_row_of plan line row = option_map_or (λ named. named == line) (line_in_row plan row) false

-- the rank that a row gives a line; none where it is a row of another line
abbrev pub rank_for : Topology → ℕ → Fields → Option ℕ
rank_for plan line row = if is_row_of plan line row then rank_in_row row else None

-- the rank that rows give a line: that of the first row of it
abbrev pub rank_by_rows : Topology → List Fields → ℕ → Option ℕ
rank_by_rows plan [] line = None
rank_by_rows plan (row ∷ rows) line = option_or (rank_for plan line row) (rank_by_rows plan rows line)

-- the ranks that rows give the lines of a plan
abbrev pub ranks_by_rows : Topology → List Fields → Ranks
ranks_by_rows plan rows = map (rank_by_rows plan rows) (range_with_len 0 (line_count plan))
