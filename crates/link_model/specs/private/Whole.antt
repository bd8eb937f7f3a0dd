-- Beside specs/Whole.antt, under no public clause: how a line is seen, and what is true of every one.
use Rattle.std.specs.Prelude.{◌≤◌, ℕ, ◌+◌, ◌*◌}
use Rattle.sync_text.specs.Each.{Each}
use Rattle.sync_ql.specs.declared.limits.TheConstants.{LEAST_DELAY, GREATEST_DELAY, LAST_MILLISECOND}
use Rattle.link_model.specs.declared.line.Line.TheInside.{Inside}
use Rattle.link_model.specs.Kept.{Kept, all_words}
use Rattle.link_model.specs.private.Kept.{IsOrdered}
use Rattle.link_model.specs.Whole.{next_of, kept_in}

pub record IsWhole (delay turn : ℕ) (kept : Kept) : Type 0 where
  pub delay_low : LEAST_DELAY ≤ delay
  pub delay_high : delay ≤ GREATEST_DELAY
  pub turn_high : turn ≤ 4 * LAST_MILLISECOND + 4
  pub ordered : IsOrdered delay (next_of turn) kept.words
  pub said : Each (λ w. 4 * w.sent + 4 ≤ turn) (all_words kept.words)

abbrev pub IsKept : Inside → Type 0
IsKept line = IsWhole line.delay line.turn (kept_in line)
