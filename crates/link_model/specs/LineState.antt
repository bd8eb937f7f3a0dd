-- What contracts see of a line.
use Rattle.std.specs.Prelude.{ℕ, Option}
use Rattle.link_model.specs.Kept.{Kept}

-- the delay; how many turns were taken, of which each millisecond has four, one for each call that tells
-- or takes; the first later millisecond in which a call has to be made, if nothing is told; and what
-- the line keeps, into which no clause looks: of that `StandsFor` speaks alone
pub record LineState : Type 0 where
  pub delay : ℕ
  pub turn : ℕ
  pub due : Option ℕ
  pub kept : Kept
