-- The answer to `protected`.
use Rattle.std.specs.Prelude.{◌≡◌, ◌≢◌, ℕ, List, [], codes}
use Rattle.sync_topo.specs.Topology.{Topology}
use Rattle.reach_rules.specs.Protection.{IsProtected}
use Rattle.protection.specs.declared.gap.Gap.{Gap}
use Rattle.protection.specs.Gaps.{AreGaps}
use Rattle.plan_texts.specs.Lines.{text_line}
use Rattle.plan_texts.specs.Gaps.{gaps_text}
use Rattle.sync_top.specs.declared.status.Status.{Status}
use Rattle.sync_top.specs.Status.{OnDoneOrRefuted}

-- that a plan is protected
abbrev pub IsShieldText : Type 0 → List ℕ → Type 0
IsShieldText Protected text = Protected × (text ≡ text_line (codes "protected"))

-- the rows of the failures that cut somebody off who needn't be, where there are some
abbrev pub AreGapRows : Topology → (List Gap → Type 0) → List ℕ → Type 0
AreGapRows plan Are text = (gaps : List Gap) × Are gaps × (gaps ≢ []) × (text ≡ gaps_text plan gaps)

-- the one, or the other
abbrev pub IsProtectedText : Topology → Status → List ℕ → Type 0
IsProtectedText plan status text = OnDoneOrRefuted status (IsShieldText (IsProtected plan) text) (AreGapRows plan (AreGaps plan) text)
