-- The first later millisecond at which a fact changes, if nothing is told: said once for an input,
-- an element and a line. This project's own.
use Rattle.std.specs.Prelude.{◌≤◌, ◌+◌, ℕ, Option, None, Some}

-- `stays n` and `changes n` say that the fact is as before, or another, after n milliseconds, of which
-- those from `next` on are quiet
pub record IsFirstChange (stays changes : ℕ → Type 0) (next due : ℕ) : Type 0 where
  pub later : next ≤ due
  pub changed : changes (due + 1)
  pub same_before : (n : ℕ) → next ≤ n → n ≤ due → stays n

-- that millisecond, or None where the fact stays for ever
abbrev pub IsNextChange : (ℕ → Type 0) → (ℕ → Type 0) → ℕ → Option ℕ → Type 0
IsNextChange stays changes next (Some due) = IsFirstChange stays changes next due
IsNextChange stays changes next None = (n : ℕ) → next ≤ n → stays n
