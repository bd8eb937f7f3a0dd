-- The answer to `rank`.
use Rattle.std.specs.Prelude.{◌≡◌, ℕ, ◌≤◌, List, length, Ok}
use Rattle.sync_topo.specs.Topology.{Topology}
use Rattle.sync_topo.specs.Sizes.{size_of}
use Rattle.sync_topo.specs.Lines.{is_nominated}
use Rattle.sync_topo.specs.Hops.{hops, IsRising}
use Rattle.sync_topo.specs.Ranks.{AreLeastRanks, IsFirstCycle}
use Rattle.plan_texts.specs.Lines.{cycle_text}
use Rattle.sync_top.specs.declared.status.Status.{Status}
use Rattle.sync_top.specs.Status.{OnDoneOrRefuted}
use Rattle.rank_cert.specs.Ranks.{Ranks, rank_at, rank_of}
use Rattle.rank_cert.specs.CertificateText.{certificate_of, certificate_text}
use Rattle.sync_top.specs.Reading.{file_limit}

-- the certificate of the least ranks, which is read back as these ranks, and they rise, and which is not too long for a
-- file
abbrev pub IsRanksText : Topology → List ℕ → Type 0
IsRanksText plan text =
    (ranks : Ranks) × AreLeastRanks (hops plan) (is_nominated plan) (rank_at ranks) × IsRising plan (rank_of ranks)
    × (text ≡ certificate_text plan ranks) × (certificate_of plan text ≡ Ok ranks) × (length text ≤ file_limit (size_of plan))

-- the line on the first cycle
abbrev pub IsCycleText : Topology → List ℕ → Type 0
IsCycleText plan text = (lines : List ℕ) × IsFirstCycle (hops plan) lines × (text ≡ cycle_text plan lines)

-- the certificate, or the cycle
abbrev pub IsPlanned : Topology → Status → List ℕ → Type 0
IsPlanned plan status text = OnDoneOrRefuted status (IsRanksText plan text) (IsCycleText plan text)
