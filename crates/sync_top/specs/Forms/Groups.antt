-- The answer to `protected` with groups.
use Rattle.std.specs.Prelude.{ℕ, List, codes, None}
use Rattle.sync_topo.specs.Topology.{Topology}
use Rattle.reach_rules.specs.declared.group.Group.{Group}
use Rattle.reach_rules.specs.Protection.{IsProtectedWith}
use Rattle.group_file.specs.declared.error.GroupErr.{GroupErr}
use Rattle.group_file.specs.GroupText.{groups_of}
use Rattle.group_file.specs.Refusal.{numbers_of}
use Rattle.protection.specs.Gaps.{AreGapsWith}
use Rattle.sync_top.specs.declared.status.Status.{Status}
use Rattle.sync_top.specs.declared.status.Status.TheVariants.{BadEvents}
use Rattle.sync_top.specs.Status.{OnDoneOrRefuted}
use Rattle.sync_top.specs.Reading.{OrRefused, numbered_refusal}
use Rattle.sync_top.specs.Forms.Protected.{IsShieldText, AreGapRows}

-- the line on groups that are refused
abbrev pub group_refusal : GroupErr → List ℕ
group_refusal refused = numbered_refusal (codes "bad groups ") (numbers_of refused).0 (numbers_of refused).1 None

-- the plan is protected with the groups; or the rows of the failures, and then of the groups, that cut somebody off who needn't be
abbrev pub IsGroupsText : Topology → List Group → Status → List ℕ → Type 0
IsGroupsText plan groups status text =
    OnDoneOrRefuted status (IsShieldText (IsProtectedWith plan groups) text) (AreGapRows plan (AreGapsWith plan groups) text)

-- the answer to the bytes of a file: that to its groups, or the line on why they are refused
abbrev pub IsGroupsReply : Topology → List ℕ → Status → List ℕ → Type 0
IsGroupsReply plan bytes status text = OrRefused (IsGroupsText plan) BadEvents group_refusal (groups_of plan bytes) status text
