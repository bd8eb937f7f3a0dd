-- The numbers by which refusals are printed.
use Rattle.std.specs.Prelude.{ℕ, Option, Some, None}
use Rattle.esmc_frame.specs.Numbers.{number_of}
use Rattle.capture_text.specs.declared.error.CaptureErr.{CaptureErr}
use Rattle.capture_text.specs.declared.error.CaptureErr.TheVariants.{Hex, Frame, Row}

-- the numbers of a refusal: its own, the line, and that of what is wrong with a frame. This project's own
abbrev pub numbers_of : CaptureErr → ℕ × ℕ × Option ℕ
numbers_of (Hex line) = (12, line, None)
numbers_of (Frame line error) = (13, line, Some (number_of error))
numbers_of (Row line) = (14, line, None)
