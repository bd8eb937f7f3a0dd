-- What a refusal of groups is printed with.
use Rattle.std.specs.Prelude.{ℕ, Option, Some, None}
use Rattle.group_file.specs.declared.error.GroupErr.{GroupErr}
use Rattle.group_file.specs.declared.error.GroupErr.TheVariants.{Header, Fields, Name, Apart, Kind, Part, Limit}

-- the numbers by which a refusal is printed: its own, and the row. This project's own
abbrev pub numbers_of : GroupErr → ℕ × Option ℕ
numbers_of Header = (26, None)
numbers_of (Fields n) = (27, Some n)
numbers_of (Part n) = (31, Some n)
numbers_of Limit = (33, None)
numbers_of (Name n) = (51, Some n)
numbers_of (Apart n) = (52, Some n)
numbers_of (Kind n) = (53, Some n)
