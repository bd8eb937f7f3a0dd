-- The answer to `protect`.
use Rattle.std.specs.Prelude.{◌≡◌, ◌≤◌, ℕ, List, length}
use Rattle.sync_topo.specs.Topology.{Topology}
use Rattle.sync_topo.specs.Sizes.{size_of}
use Rattle.plan_file.specs.IsPlanText.{IsPlanText}
use Rattle.plan_file.specs.Spelling.{plan_text}
use Rattle.reach_rules.specs.Protection.{IsProtected}
use Rattle.protection.specs.declared.gap.Gap.{Gap}
use Rattle.protection.specs.Orderly.{IsFound}
use Rattle.protection.specs.Protected.{AreFoundGaps}
use Rattle.plan_texts.specs.Gaps.{gaps_text}
use Rattle.sync_top.specs.declared.status.Status.{Status}
use Rattle.sync_top.specs.Status.{OnDoneOrRefuted}
use Rattle.sync_top.specs.Reading.{file_limit}

-- the text of an orderly plan that is found for this one and is protected, which is read as that plan and is not too long for a
-- file
abbrev pub IsFoundText : Topology → List ℕ → Type 0
IsFoundText plan text =
    (found : Topology) × IsFound plan found × IsProtected found × (text ≡ plan_text found) × IsPlanText found text × (length text ≤ file_limit (size_of found))

-- so; or the rows of the failures that cut somebody off in the plan that is found
abbrev pub IsProtectingText : Topology → Status → List ℕ → Type 0
IsProtectingText plan status text =
    OnDoneOrRefuted status (IsFoundText plan text) ((gaps : List Gap) × AreFoundGaps plan gaps × (text ≡ gaps_text plan gaps))
