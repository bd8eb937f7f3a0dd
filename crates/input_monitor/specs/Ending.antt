-- When a condition ends, if nothing happens.
use Rattle.std.specs.Prelude.{◌≡◌, ◌≤◌, ◌+◌, ◌-◌, ℕ, Option, None, Some}
use Rattle.sync_ql.specs.declared.rules.Cond.{Cond}
use Rattle.sync_ql.specs.declared.rules.Cond.TheVariants.{Good, HoldOff, Failed, Restoring}

-- it ends in a millisecond that is the last step's plus what was left then, and so a later one
abbrev pub EndsWith : ℕ → ℕ → Option ℕ → Type 0
EndsWith next left None = ⊥
EndsWith next left (Some due) = (due + 1 ≡ next + left) × (next ≤ due)

-- so does a condition in which a time runs, and one that is good or failed never ends
abbrev pub IsEnd : ℕ → Cond → Option ℕ → Type 0
IsEnd next Good due = due ≡ None
IsEnd next (HoldOff left) due = EndsWith next left due
IsEnd next Failed due = due ≡ None
IsEnd next (Restoring left) due = EndsWith next left due

-- a condition k milliseconds later, before it ends: that much less is left of it
abbrev pub later_by : ℕ → Cond → Cond
later_by k Good = Good
later_by k (HoldOff left) = HoldOff (left - k)
later_by k Failed = Failed
later_by k (Restoring left) = Restoring (left - k)
