-- A file that may go on: its lines that have ended, and the one that has begun. This project's own.
use Rattle.std.specs.Prelude.{◌≡◌, ◌≤◌, ◌<◌, ℕ, ◌+◌, ◌++◌, nat_lt, if◌then◌else◌, List, [], ◌∷◌, length, Option, None, Some, Result, Ok, Err}
use Rattle.std.specs.List.{filter_map}
use Rattle.sync_topo.specs.Topology.{Topology}
use Rattle.node_file.specs.declared.error.NodeErr.{NodeErr}
use Rattle.node_file.specs.declared.error.NodeErr.TheVariants as refusal
use Rattle.node_file.specs.declared.row.NodeRow.{NodeRow}
use Rattle.node_file.specs.NodeFile.{line_limit, row_in, time_before, refusal_at, lines_of, rows_of_lines, rows_of}

-- all of some lines but the last, and the last
abbrev pub ended_in : List (List ℕ) → List (List ℕ)
ended_in [] = []
ended_in (line ∷ []) = []
ended_in (line ∷ next ∷ lines) = line ∷ ended_in (next ∷ lines)

abbrev pub begun_in : List (List ℕ) → List ℕ
begun_in [] = []
begun_in (line ∷ []) = line
begun_in (line ∷ next ∷ lines) = begun_in (next ∷ lines)

-- the lines that have ended, and the bytes of the one that has begun
abbrev pub lines_ended : List ℕ → List (List ℕ)
lines_ended bytes = ended_in (lines_of bytes)

abbrev pub line_begun : List ℕ → List ℕ
line_begun bytes = begun_in (lines_of bytes)

-- the rows that the bytes give so far, whatever follows, or the first refusal: a line that has begun is refused only where it
-- is too long
abbrev pub rows_so_far : Topology → ℕ → List ℕ → Result (List NodeRow) NodeErr
rows_so_far plan element bytes = by (rows_of_lines plan element (lines_ended bytes))
  where
    by : Result (List NodeRow) NodeErr → Result (List NodeRow) NodeErr
    by (Err error) = Err error
    by (Ok rows) = if nat_lt line_limit (length (line_begun bytes)) then Err (refusal.Fields (length (lines_ended bytes) + 1)) else Ok rows

-- what contracts see of lines that are read: over which plan and element, the bytes of the line that has begun, how many lines
-- have ended, and the time of the last that says something
pub record LinesRead : Type 0 where
  pub plan : Topology
  pub element : ℕ
  pub begun : List ℕ
  pub ended : ℕ
  pub before : ℕ

-- just these bytes were read, and they gave these rows: no line that has ended breaks a rule, and the one that has begun isn't
-- too long
pub record HaveRead (lines : LinesRead) (bytes : List ℕ) (rows : List NodeRow) : Type 0 where
  pub sound : (place : ℕ) → place < length (lines_ended bytes) → refusal_at lines.plan lines.element (lines_ended bytes) place ≡ None
  pub short : length (line_begun bytes) ≤ line_limit
  pub given : rows ≡ filter_map (row_in lines.plan lines.element) (lines_ended bytes)
  pub begun : lines.begun ≡ line_begun bytes
  pub ended : lines.ended ≡ length (lines_ended bytes)
  pub before : lines.before ≡ time_before (lines_ended bytes) (length (lines_ended bytes))

-- the bytes are refused, whatever follows them
pub record AreRefused (plan : Topology) (element : ℕ) (bytes : List ℕ) (error : NodeErr) : Type 0 where
  pub so_far : (more : List ℕ) → rows_so_far plan element (bytes ++ more) ≡ Err error
  pub whole : (more : List ℕ) → rows_of plan element (bytes ++ more) ≡ Err error

-- rows, and the one that a line gave, if it gave one
abbrev pub with_row : List NodeRow → Option NodeRow → List NodeRow
with_row rows None = rows
with_row rows (Some row) = rows ++ row ∷ []

-- the time of a row, or else that of the one before
abbrev pub time_after : ℕ → Option NodeRow → ℕ
time_after before None = before
time_after before (Some row) = row.at
