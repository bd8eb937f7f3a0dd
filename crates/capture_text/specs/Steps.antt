-- Private: the steps of a text, which only clauses of private functions cite.
use Rattle.std.specs.Prelude.{ℕ, List, [], Option, None, Some}
use Rattle.std.specs.Borrow.{Bor}
use Rattle.capture_text.specs.Lines.{lines_of}

-- the lines of what is left
abbrev pub lines_left : Option (Bor (List ℕ)) → List (List ℕ)
lines_left None = []
lines_left (Some rest) = lines_of rest.now
