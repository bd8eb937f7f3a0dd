-- Counts of faults: a fault is answered only where a count says that there was one. This project's own.
use Rattle.std.specs.Prelude.{ℕ, ◌≡◌, ◌+◌, ◌-◌, ◌^◌, ◌≤◌, min, Result, OnOk, OnErr}

-- one more, until a count stands at its greatest value
abbrev pub one_more : ℕ → ℕ
one_more count = min (count + 1) (2 ^ 64 - 1)

-- a count rose in a call: it is one more than before, or it stands at its greatest value. So one call failed, and none
-- was made again after it that failed too
abbrev pub Rose : ℕ → ℕ → Type 0
Rose before now = now ≡ one_more before

-- a count never falls, it rose where the call failed, and it stands still where the call did not fail
pub record HasCause {T E : Type 0} (before now : ℕ) (result : Result T E) : Type 0 where
  pub later : before ≤ now
  pub failed : OnErr result (Rose before now)
  pub calm : OnOk result (now ≡ before)
