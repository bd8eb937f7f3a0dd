-- What a refusal of a file of one element is printed with.
use Rattle.std.specs.Prelude.{ℕ, Option, Some, None}
use Rattle.esmc_frame.specs.Numbers.{number_of}
use Rattle.node_file.specs.declared.error.NodeErr.{NodeErr}
use Rattle.node_file.specs.declared.error.NodeErr.TheVariants.{Fields, Time, Order, What, Target, Value, Frame}

-- the numbers by which a refusal is printed: its own, the line, and that of what is wrong with a frame. This project's own
abbrev pub numbers_of : NodeErr → ℕ × ℕ × Option ℕ
numbers_of (Fields n) = (43, n, None)
numbers_of (Time n) = (44, n, None)
numbers_of (Order n) = (45, n, None)
numbers_of (What n) = (46, n, None)
numbers_of (Target n) = (47, n, None)
numbers_of (Value n) = (48, n, None)
numbers_of (Frame n error) = (49, n, Some (number_of error))
