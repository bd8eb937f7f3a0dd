-- What is true of the input that an element takes, and when two lists of candidates give one choice.
use Rattle.std.specs.Prelude.{◌≡◌, ◌<◌, ◌⊎◌, ℕ, false, List, [], ◌∷◌, length, Some, ⊤}
use Rattle.sync_ql.specs.declared.levels.Level.{Level}
use Rattle.sync_ql.specs.declared.rules.Candidate.{Candidate}
use Rattle.sync_ql.specs.Level.{do_not_use_of, IsBetter}
use Rattle.sync_ql.specs.Condition.{failed_at}
use Rattle.sync_ql.specs.Switches.{is_locked}
use Rattle.sync_ql.specs.Selection.{is_eligible, is_better}
use Rattle.sync_ql.specs.Moment.{Moment, Settings, signals_of, level_now, switches_at}

-- an input may be taken: it is one of the element's, neither locked out nor failed, and has a level
-- better than do-not-use, than which the floor is not better
pub record MayBeTaken (settings : Settings) (past : List Moment) (i : ℕ) : Type 0 where
  pub within : i < length settings.priorities
  pub not_locked : is_locked (switches_at settings past) i ≡ false
  pub not_failed : failed_at settings.timers (signals_of i past) ≡ false
  pub level : Level
  pub level_is : level_now i past ≡ Some level
  pub above_do_not_use : IsBetter level (do_not_use_of level.option)
  pub not_below : is_better settings.floor (Some level) ≡ false

-- two candidates that are the same, or neither of which is eligible
abbrev pub AreAlike : Candidate → Candidate → Type 0
AreAlike a b = (a ≡ b) ⊎ ((is_eligible a ≡ false) × (is_eligible b ≡ false))

-- candidates that are alike place by place
abbrev pub AllAlike : List Candidate → List Candidate → Type 0
AllAlike [] [] = ⊤
AllAlike (a ∷ inputs) (b ∷ others) = AreAlike a b × AllAlike inputs others
AllAlike inputs others = ⊥
