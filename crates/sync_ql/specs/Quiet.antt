-- What stays in milliseconds in which nothing is told, and until when.
use Rattle.std.specs.Prelude.{◌≡◌, ◌<◌, ℕ, not, List, length, Option}
use Rattle.sync_ql.specs.Condition.{failed_at}
use Rattle.sync_ql.specs.Moment.{Moment, Settings, signals_of, selection_at}
use Rattle.sync_ql.specs.FirstChange.{IsNextChange}
use Rattle.sync_ql.specs.Told.{moments_until}
use Rattle.sync_ql.specs.Output.{clock_level_at, sent_back_at, mode_at, state_at}

-- an input is failed after one past exactly where it is after another
abbrev pub IsSameFailed : Settings → List Moment → List Moment → Type 0
IsSameFailed settings past past_then = (i : ℕ) → i < length settings.priorities →
    failed_at settings.timers (signals_of i past_then) ≡ failed_at settings.timers (signals_of i past)

-- the element gives the same after both
pub record IsSameOutput (settings : Settings) (past past_then : List Moment) : Type 0 where
  pub selection : selection_at settings past_then ≡ selection_at settings past
  pub level : clock_level_at settings past_then ≡ clock_level_at settings past
  pub sent_back : (i : ℕ) → sent_back_at settings past_then i ≡ sent_back_at settings past i
  pub mode : mode_at settings past_then ≡ mode_at settings past
  pub state : state_at settings past_then ≡ state_at settings past

-- there is an input that is failed after one past exactly where it isn't after another
abbrev pub SomeFailedChanges : Settings → List Moment → List Moment → Type 0
SomeFailedChanges settings past past_then = (i : ℕ) × (i < length settings.priorities) × (failed_at settings.timers (signals_of i past_then) ≡ not (failed_at settings.timers (signals_of i past)))

-- the first later millisecond in which an input's "failed" changes, if nothing is told, or None where
-- every input's "failed" stays for ever
abbrev pub IsElementDue : Settings → List Moment → Option ℕ → Type 0
IsElementDue settings past = IsNextChange
    (λ n. IsSameFailed settings past (moments_until settings n past))
    (λ n. SomeFailedChanges settings past (moments_until settings n past))
    (length past)
