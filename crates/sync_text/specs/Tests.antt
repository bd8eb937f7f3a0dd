-- Answers of tests.
use Rattle.std.specs.Prelude.{Bool, true, false, not}

-- two answers differ
abbrev pub differs : Bool → Bool → Bool
differs true b = not b
differs false b = b
