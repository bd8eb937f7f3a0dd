-- When a condition of an element's input ends, if nothing happens.
use Rattle.std.specs.Prelude.{◌≡◌, ◌≤◌, ◌<◌, ◌+◌, ℕ, List, length, Option, None, Some, IfSome}
use Rattle.sync_ql.specs.declared.rules.Cond.{Cond}
use Rattle.sync_ql.specs.declared.rules.Cond.TheVariants.{Good, HoldOff, Failed, Restoring}
use Rattle.sync_ql.specs.Condition.{condition_at}
use Rattle.sync_ql.specs.Moment.{Moment, Settings, signals_of}

-- the milliseconds that are left of a condition that ends
abbrev pub left_of : Cond → Option ℕ
left_of Good = None
left_of (HoldOff left) = Some left
left_of Failed = None
left_of (Restoring left) = Some left

-- what is left after a past of the condition of the input at a place
abbrev pub left_in : Settings → List Moment → ℕ → Option ℕ
left_in settings past i = left_of (condition_at settings.timers (signals_of i past))

-- the least that is left of any condition
pub record IsLeastLeft (settings : Settings) (past : List Moment) (left : ℕ) : Type 0 where
  pub some : (i : ℕ) × (i < length settings.priorities) × (left_in settings past i ≡ Some left)
  pub least : (i : ℕ) → i < length settings.priorities → IfSome (left_in settings past i) (λ other. left ≤ other)

-- the last millisecond of a past plus the least that is left then, which is a later one
pub record IsLastPlusLeast (settings : Settings) (past : List Moment) (due : ℕ) : Type 0 where
  pub left : ℕ
  pub least : IsLeastLeft settings past left
  pub due_is : due + 1 ≡ length past + left
  pub later : length past ≤ due

-- every condition is good or failed, of which none ends
abbrev pub NoneEnds : Settings → List Moment → Type 0
NoneEnds settings past = (i : ℕ) → i < length settings.priorities → left_in settings past i ≡ None
