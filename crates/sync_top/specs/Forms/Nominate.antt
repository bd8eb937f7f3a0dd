-- The answer to `nominate`.
use Rattle.std.specs.Prelude.{◌≡◌, ◌≤◌, ℕ, List, length}
use Rattle.sync_topo.specs.Topology.{Topology}
use Rattle.sync_topo.specs.Sizes.{size_of}
use Rattle.plan_file.specs.IsPlanText.{IsPlanText}
use Rattle.plan_file.specs.Spelling.{plan_text}
use Rattle.nominate.specs.Nomination.{IsNominatedPlan}
use Rattle.sync_top.specs.declared.status.Status.{Status}
use Rattle.sync_top.specs.declared.status.Status.TheVariants.{Done}
use Rattle.sync_top.specs.Reading.{file_limit}

-- the text of the plan that is nominated by fewest hops, which is read as that plan, and which is not too long for a file
abbrev pub IsNominatedText : Topology → Status → List ℕ → Type 0
IsNominatedText plan status text =
    (status ≡ Done)
    × ((nominated : Topology) × IsNominatedPlan plan nominated × (text ≡ plan_text nominated) × IsPlanText nominated text × (length text ≤ file_limit (size_of nominated)))
