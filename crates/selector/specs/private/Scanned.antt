-- Private: what a scan of the inputs has found, which only clauses of private functions cite.
use Rattle.std.specs.Prelude.{◌≡◌, ◌<◌, ℕ, true, false, List, Option, None, Some}
use Rattle.sync_ql.specs.declared.rules.Candidate.{Candidate}
use Rattle.sync_ql.specs.Selection.{candidate, is_eligible, beats}

-- an input is the first of the best among the first n: none beats it, and it beats those before it
pub record IsFirstBestAt (inputs : List Candidate) (n i : ℕ) : Type 0 where
  pub within : i < n
  pub eligible : is_eligible (candidate inputs i) ≡ true
  pub unbeaten : (k : ℕ) → k < n → is_eligible (candidate inputs k) ≡ true → beats (candidate inputs k) (candidate inputs i) ≡ false
  pub beats_earlier : (k : ℕ) → k < i → is_eligible (candidate inputs k) ≡ true → beats (candidate inputs i) (candidate inputs k) ≡ true

-- the first of the best among the first n inputs, or None where none of them is eligible
abbrev pub IsFirstBest : List Candidate → ℕ → Option ℕ → Type 0
IsFirstBest inputs n None = (k : ℕ) → k < n → is_eligible (candidate inputs k) ≡ false
IsFirstBest inputs n (Some i) = IsFirstBestAt inputs n i
