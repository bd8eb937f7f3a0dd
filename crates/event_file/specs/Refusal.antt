-- What a refusal of events or of cases is printed with.
use Rattle.std.specs.Prelude.{ℕ, Option, Some, None}
use Rattle.event_file.specs.declared.error.EventErr.{EventErr}
use Rattle.event_file.specs.declared.error.EventErr.TheVariants.{Header, Fields, Time, Order, What, Target, Value, Limit, Name, Apart}

-- the numbers by which a refusal is printed: its own, and the row. This project's own
abbrev pub numbers_of : EventErr → ℕ × Option ℕ
numbers_of Header = (26, None)
numbers_of (Fields n) = (27, Some n)
numbers_of (Time n) = (28, Some n)
numbers_of (Order n) = (29, Some n)
numbers_of (What n) = (30, Some n)
numbers_of (Target n) = (31, Some n)
numbers_of (Value n) = (32, Some n)
numbers_of Limit = (33, None)
numbers_of (Name n) = (51, Some n)
numbers_of (Apart n) = (52, Some n)
