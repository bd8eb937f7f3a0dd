-- What contracts see of an element.
use Rattle.std.specs.Prelude.{◌≡◌, ◌≤◌, ℕ, length, Option, IfSome}
use Rattle.sync_ql.specs.Moment.{Settings}
use Rattle.sync_element.specs.Kept.{Kept}

-- what the element is set to; the first millisecond that no step has told of; the first later one in
-- which a step has to be made, if nothing is told; the number of steps after the first; and what it
-- keeps of its inputs, into which no clause looks: of that `StandsFor` speaks alone
pub record ElementState : Type 0 where
  pub settings : Settings
  pub next : ℕ
  pub due : Option ℕ
  pub later_steps : ℕ
  pub kept : Kept

-- the number of inputs
abbrev pub inputs_of : ElementState → ℕ
inputs_of e = length e.settings.priorities

-- a millisecond after the last step and not after `due`, or 0 where there was no step
pub record IsInTime (e : ElementState) (n : ℕ) : Type 0 where
  pub first : e.next ≡ 0 → n ≡ 0
  pub later : e.next ≤ n
  pub until_due : IfSome e.due (λ due. n ≤ due)
