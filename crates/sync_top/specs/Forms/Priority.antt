-- The answers to `prio-check`, `prio-rank` and `prio-sim`: of networks whose elements choose by priority alone.
use Rattle.std.specs.Prelude.{◌≡◌, ℕ, ◌≤◌, List, length, Option, Some, Ok}
use Rattle.sync_edge.specs.Contents.{Contents}
use Rattle.sync_topo.specs.declared.event.Event.{Event}
use Rattle.sync_topo.specs.Topology.{Topology}
use Rattle.sync_topo.specs.Sizes.{size_of}
use Rattle.sync_topo.specs.Lines.{is_nominated}
use Rattle.sync_topo.specs.Ranks.{Rises, AreLeastRanks, IsFirstCycle}
use Rattle.rank_cert.specs.Ranks.{Ranks, rank_at, rank_of}
use Rattle.rank_cert.specs.CertificateText.{certificate_of, certificate_text}
use Rattle.sync_topo.specs.Hops.{hops_any}
use Rattle.prio_mode.specs.PriorityLoops.{NeverLoops}
use Rattle.prio_mode.specs.PriorityReport.{IsPriorityReport}
use Rattle.prio_mode.specs.ForcedLoop.{forced_on, IsForcedLoop}
use Rattle.prio_mode.specs.ForcedText.{forced_text}
use Rattle.event_file.specs.EventText.{events_of}
use Rattle.sync_top.specs.declared.status.Status.{Status}
use Rattle.sync_top.specs.Status.{OnDoneOrRefuted}
use Rattle.sync_top.specs.declared.form.FileForm.TheVariants as asks
use Rattle.sync_top.specs.declared.form.RanksForm.TheVariants.{PrioCheck}
use Rattle.sync_top.specs.Form.{Form, PlanName, on_file}
use Rattle.sync_top.specs.Reading.{file_limit, plan_in}
use Rattle.sync_top.specs.Forms.Check.{IsVerdictOver}

-- the verdict over hops that include returns
abbrev pub IsPriorityVerdict : Topology → Ranks → Status → List ℕ → Type 0
IsPriorityVerdict plan ranks status text = IsVerdictOver (hops_any plan) plan ranks status text

-- the certificate of the least ranks, which is read back as these ranks, and they rise, and which is not too long for a file
abbrev pub IsPriorityRanksText : Topology → List ℕ → Type 0
IsPriorityRanksText plan text =
    (ranks : Ranks) × AreLeastRanks (hops_any plan) (is_nominated plan) (rank_at ranks) × Rises (hops_any plan) (rank_of ranks)
    × (text ≡ certificate_text plan ranks) × (certificate_of plan text ≡ Ok ranks) × (length text ≤ file_limit (size_of plan))

-- the event file of the forced switches that make the first loop, which is read back as these switches, and is not too long
abbrev pub IsForcedText : Topology → List ℕ → Type 0
IsForcedText plan text =
    (lines : List ℕ) × IsFirstCycle (hops_any plan) lines × IsForcedLoop plan lines × (text ≡ forced_text plan lines)
    × (events_of plan text ≡ Ok (forced_on lines)) × (length text ≤ file_limit (size_of plan))

-- the one, or the other
abbrev pub IsPriorityPlanned : Topology → Status → List ℕ → Type 0
IsPriorityPlanned plan status text = OnDoneOrRefuted status (IsPriorityRanksText plan text) (IsForcedText plan text)

-- the report of a run, which is never refuted
abbrev pub IsPriorityRun : Topology → List Event → ℕ → Status → List ℕ → Type 0
IsPriorityRun plan events until status text = OnDoneOrRefuted status (IsPriorityReport plan events until text) ⊥

-- where the words ask to check a plan for elements that choose by priority alone, one is read, and no timing loop can
-- form in it
abbrev pub IsCheckedForPriority : Option Form → Contents → Type 0
IsCheckedForPriority form files =
    (plan_name : PlanName) (certificate_name : List ℕ) → form ≡ Some (on_file (asks.Ranks PrioCheck) plan_name certificate_name)
    → (plan : Topology) × (plan_in plan_name files ≡ Ok plan) × NeverLoops plan
