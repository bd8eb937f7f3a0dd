-- What becomes of an element over a history: in the milliseconds of its steps, and in those between them, in
-- which nothing is told.
use Rattle.std.specs.Prelude.{◌≡◌, ◌<◌, ◌+◌, ℕ, List, ◌∷◌, IfSome, nat_eq, if◌then◌else◌}
use Rattle.sync_ql.specs.declared.rules.InputEvent.{InputEvent}
use Rattle.sync_ql.specs.Pasts.{past_of}
use Rattle.sync_ql.specs.Moment.{Moment, Settings}
use Rattle.sync_ql.specs.Told.{moment_after, moments_until}
use Rattle.sync_ql.specs.Quiet.{IsElementDue}
use Rattle.sync_element.specs.ElementState.{ElementState, IsInTime}
use Rattle.sync_element.specs.StandsFor.{StandsFor}

-- an element that is set so, after n milliseconds of a history: it stands for the first of them, up to its
-- last step, and in the others nothing is told
pub record StandsAfter (set : Settings) (moments : ℕ → Moment) (n : ℕ) (element : ElementState) : Type 0 where
  pub settings : element.settings ≡ set
  pub in_time : IsInTime element n
  pub stands : StandsFor element (past_of moments element.next)
  pub quiet : past_of moments n ≡ moments_until set n (past_of moments element.next)

-- an element makes a step in a millisecond, in which it is told some words
pub record IsStepped (now : ℕ) (words : List InputEvent) (before after : ElementState) : Type 0 where
  pub settings : after.settings ≡ before.settings
  pub next : after.next ≡ now + 1
  pub due_later : IfSome after.due (λ due. now < due)
  pub counts : after.later_steps ≡ (if nat_eq before.next 0 then 0 else before.later_steps + 1)
  pub stands : (past : List Moment) → StandsFor before past → StandsFor after
      (moment_after before.settings (moments_until before.settings now past) words
      ∷ moments_until before.settings now past)
  pub due : (past : List Moment) → StandsFor after past → IsElementDue after.settings past after.due
