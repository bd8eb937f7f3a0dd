-- The eligible inputs of a list are among it.
use Rattle.std.proofs.Common.{◌≡◌, ◌≤◌, ◌<◌, ℕ, true, false, List, length, None, ap, arith}
use Rattle.std.proofs.Math.Decide.{dec_lt}
use Rattle.std.proofs.lemmas.List.{get_or_past}
use Rattle.sync_ql.specs.declared.rules.Candidate.{Candidate}
use Rattle.sync_ql.specs.Selection.{candidate, is_eligible}

abbrev pub nobody : Candidate
nobody = record { level = None; priority = 0; usable = false }

-- beyond the list nothing is eligible
pub eligible_within : (inputs : List Candidate) (k : ℕ) → is_eligible (candidate inputs k) ≡ true → k < length inputs
eligible_within inputs k eligible =
    elim (dec_lt k (length inputs)) [
      | yes within ↦ within
      | no beyond ↦ absurd (let past : length inputs ≤ k = omega arith in let none = ap is_eligible (get_or_past inputs k nobody past) in cc)
    ]
