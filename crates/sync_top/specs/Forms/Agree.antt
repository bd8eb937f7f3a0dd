-- The answer to `agree`.
use Rattle.std.specs.Prelude.{◌≡◌, ℕ, List, codes}
use Rattle.sync_topo.specs.Topology.{Topology}
use Rattle.sync_topo.specs.WellFormed.{IsWellFormed}
use Rattle.sync_topo.specs.Hops.{bears_on}
use Rattle.sync_topo.specs.Ranks.{IsFirstCycle}
use Rattle.reach_rules.specs.Agreement.{IsAgreedBound}
use Rattle.reach_rules.specs.Failing.{IsFailureBound, is_planned}
use Rattle.plan_texts.specs.Lines.{lines_text}
use Rattle.plan_texts.specs.Bounds.{agreed_text}
use Rattle.sync_top.specs.declared.status.Status.{Status}
use Rattle.sync_top.specs.Status.{OnDoneOrRefuted}

-- the agreed bound of a plan that keeps the rules, and its bound after failures with the levels that its own sources have
pub record IsBoundText (plan : Topology) (text : List ℕ) : Type 0 where
  pub well_formed : IsWellFormed plan
  pub bound : ℕ
  pub agreed : IsAgreedBound plan bound
  pub failures : ℕ
  pub failed : IsFailureBound (is_planned plan) plan failures
  pub is : text ≡ agreed_text bound failures

-- the first circle of lines that bear on one another
abbrev pub IsClashText : Topology → List ℕ → Type 0
IsClashText plan text = (lines : List ℕ) × IsFirstCycle (bears_on plan) lines × (text ≡ lines_text (codes "clash") plan lines)

-- the bounds, or the circle
abbrev pub IsAgreedText : Topology → Status → List ℕ → Type 0
IsAgreedText plan status text = OnDoneOrRefuted status (IsBoundText plan text) (IsClashText plan text)
