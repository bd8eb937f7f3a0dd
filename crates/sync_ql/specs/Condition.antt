-- When an input is failed, and in what condition it is.
-- After G.781, hold-off time and wait-to-restore time.
-- A past is the list of an input's milliseconds from 0 on, the newest first; before 0 it is empty.
use Rattle.std.specs.Prelude.{◌≡◌, ℕ, zero, suc, ◌+◌, ◌-◌, Bool, true, false, not, ◌&&◌, ◌||◌, nat_lt, if◌then◌else◌, List, [], ◌∷◌, length, Option, ⊤}
use Rattle.sync_ql.specs.declared.rules.Cond.{Cond}
use Rattle.sync_ql.specs.declared.rules.Cond.TheVariants.{Good, HoldOff, Failed, Restoring}
use Rattle.sync_ql.specs.FirstChange.{IsNextChange}

-- one millisecond: whether the input is up at its end, and whether wait-to-restore is cleared in it
pub record Signal : Type 0 where
  pub up : Bool
  pub clear : Bool

-- the hold-off time and the wait-to-restore time of an input, in milliseconds
pub record Timers : Type 0 where
  pub holdoff : ℕ
  pub wtr : ℕ

-- whether the input is up; before 0 it is
abbrev pub is_up : List Signal → Bool
is_up [] = true
is_up (now ∷ before) = now.up

-- for how many milliseconds in a row, this one included, the input has been down
abbrev pub down_for : List Signal → ℕ
down_for [] = 0
down_for (now ∷ before) = if now.up then 0 else down_for before + 1

-- for how many milliseconds in a row, this one included, the input has been up
abbrev pub up_for : List Signal → ℕ
up_for [] = 0
up_for (now ∷ before) = if now.up then up_for before + 1 else 0

-- down for more than the hold-off time, an input is failed; up for more than the wait-to-restore
-- time, or cleared while up, it is not; else it is as before, and before 0 it is not.
-- After G.781; the exact millisecond is this project's own
unfoldable pub failed_at : Timers → List Signal → Bool
failed_at timers [] = false
failed_at timers (now ∷ before) =
    if nat_lt timers.holdoff (down_for (now ∷ before)) then true
    else if nat_lt timers.wtr (up_for (now ∷ before)) || (now.up && now.clear) then false
    else failed_at timers before

-- the number of milliseconds after which the running time ends, if nothing happens
unfoldable pub left_at : Timers → List Signal → ℕ
left_at timers past =
    if is_up past then timers.wtr + 1 - up_for past else timers.holdoff + 1 - down_for past

-- the condition of an input: up or down, failed or not, and what is left where a time runs
abbrev pub condition_of : Bool → Bool → ℕ → Cond
condition_of true false left = Good
condition_of false false left = HoldOff left
condition_of false true left = Failed
condition_of true true left = Restoring left

unfoldable pub condition_at : Timers → List Signal → Cond
condition_at timers past = condition_of (is_up past) (failed_at timers past) (left_at timers past)

-- one more millisecond in which nothing happens: the signal stays, and nothing is cleared
abbrev pub quiet : List Signal → Signal
quiet past = record { up = is_up past; clear = false }

-- k more milliseconds in which nothing happens
abbrev pub after_quiet : ℕ → List Signal → List Signal
after_quiet zero past = past
after_quiet (suc k) past = quiet past ∷ after_quiet k past

-- the past made n milliseconds long by milliseconds in which nothing happens
abbrev pub continued : ℕ → List Signal → List Signal
continued n past = after_quiet (n - length past) past

-- two conditions that differ at most in what is left
abbrev pub IsSameKind : Cond → Cond → Type 0
IsSameKind Good Good = ⊤
IsSameKind (HoldOff a) (HoldOff b) = ⊤
IsSameKind Failed Failed = ⊤
IsSameKind (Restoring a) (Restoring b) = ⊤
IsSameKind a b = ⊥

-- the first later millisecond in which "failed" is another, if nothing happens, or None where it
-- stays for ever
abbrev pub IsDue : Timers → List Signal → Option ℕ → Type 0
IsDue timers past = IsNextChange
    (λ n. failed_at timers (continued n past) ≡ failed_at timers past)
    (λ n. failed_at timers (continued n past) ≡ not (failed_at timers past))
    (length past)
