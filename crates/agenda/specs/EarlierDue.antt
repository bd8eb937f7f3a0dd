-- How the times of objects are kept, and by which numbers they stand in a
-- tournament.
use Rattle.std.specs.Prelude.{◌+◌, ℕ, Bool, true, false, List, length, map, slice_index_or, Option, None, Some}
use Rattle.std.specs.List.{range_with_len}

-- the time of an object, if it has the flag of one that is due
abbrev pub time_if : Bool → ℕ → Option ℕ
time_if true at = Some at
time_if false at = None

-- the time of the object at a place, by the flags and the second half of the rounds
abbrev pub time_at : List Bool → List ℕ → ℕ → Option ℕ
time_at flags rounds i = time_if (slice_index_or flags i false) (slice_index_or rounds (length flags + i) 0)

-- the times of all objects
abbrev pub times_by : List Bool → List ℕ → List (Option ℕ)
times_by flags rounds = map (time_at flags rounds) (range_with_len 0 (length flags))
