-- Which input is taken, by the definition and in facts.
use Rattle.std.specs.Prelude.{◌≡◌, ◌<◌, ◌↔◌, ℕ, false, List, length, Option, None, IsTrue, IsNone, IfSome, MatchOption}
use Rattle.sync_ql.specs.declared.rules.Candidate.{Candidate}
use Rattle.sync_ql.specs.Selection.{choice, standing_manual, manual_stands, IsEligible, IsBestChoice, ManualStands}
use Rattle.selector.specs.declared.choice.Choice.{Choice}

-- an input without a level, which can't be taken
abbrev pub unusable : Candidate
unusable = record { level = None; priority = 0; usable = false }

-- the input that is taken among these candidates, with a forced or manual switch, where one was taken
-- so far; and whether the manual switch stands
pub record IsChoice (inputs : List Candidate) (forced manual taken : Option ℕ) (chosen : Choice) : Type 0 where
  pub exact : chosen.input ≡ choice inputs forced (standing_manual inputs manual) taken
  pub exact_stands : chosen.manual_stands ≡ manual_stands inputs manual
  -- the same in facts
  pub place : IfSome chosen.input (λ i. i < length inputs)
  pub eligible : IfSome chosen.input (IsEligible inputs)
  pub forced_taken : IfSome forced (λ i. IsEligible inputs i → chosen.input ≡ forced)
  pub forced_fails : IfSome forced (λ i. ¬ IsEligible inputs i → chosen.input ≡ None)
  pub manual_taken : IsTrue chosen.manual_stands → chosen.input ≡ manual
  pub stands : MatchOption manual (chosen.manual_stands ≡ false)
      (λ i. IsTrue chosen.manual_stands ↔ ManualStands inputs i)
  pub best : IsNone forced → ¬ IsTrue chosen.manual_stands → IsBestChoice inputs taken chosen.input
