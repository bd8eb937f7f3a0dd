-- The lines of some bytes. This project's own.
use Rattle.std.specs.Prelude.{ℕ, ◌==◌, List, [], map, Option, None, Some}
use Rattle.std.specs.Borrow.{Bor}
use Rattle.std.specs.List.{slice_split}
use Rattle.std.specs.Str.Lines.{strip_carriage_return}

-- what stands between line feeds, each without the one carriage return at its end. std's `lines` keeps that of a last line without line feed
abbrev pub lines_of : List ℕ → List (List ℕ)
lines_of bytes = map strip_carriage_return (slice_split (λ byte. byte == 10) bytes)

-- lines that are taken off one by one: those that are left, and the number of the last that was taken
pub record LinesLeft : Type 0 where
  pub lines : List (List ℕ)
  pub number : ℕ

-- the parts of what is left, between bytes of this value
abbrev pub parts_left : ℕ → Option (Bor (List ℕ)) → List (List ℕ)
parts_left at None = []
parts_left at (Some rest) = slice_split (λ byte. byte == at) rest.now
