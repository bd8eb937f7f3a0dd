-- How a line is seen, and what is true of every one.
use Rattle.std.specs.Prelude.{ℕ, ◌+◌, ◌/◌}
use Rattle.link_model.specs.declared.line.Line.TheInside.{Inside}
use Rattle.link_model.specs.Kept.{Kept, words_kept, due_of}
use Rattle.link_model.specs.LineState.{LineState}

-- the first millisecond that no call has told of
abbrev pub next_of : ℕ → ℕ
next_of turn = (turn + 3) / 4

abbrev pub seen : ℕ → ℕ → Kept → LineState
seen delay turn kept = record {
  delay = delay;
  turn = turn;
  due = due_of delay (next_of turn) kept.words;
  kept = kept;
}

abbrev pub kept_in : Inside → Kept
kept_in line = record {
  now = record { up = line.up; esmc = line.esmc; level = line.level };
  words = words_kept line.words;
}

abbrev pub line_state : Inside → LineState
line_state line = seen line.delay line.turn (kept_in line)
