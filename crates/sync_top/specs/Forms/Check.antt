-- The answer to `check`.
use Rattle.std.specs.Prelude.{◌≡◌, ℕ, List, [], ◌++◌, codes}
use Rattle.sync_topo.specs.Topology.{Topology}
use Rattle.sync_topo.specs.Lines.{line_name}
use Rattle.sync_topo.specs.Hops.{hops}
use Rattle.sync_topo.specs.Ranks.{HopTest, Rises}
use Rattle.plan_texts.specs.Lines.{text_line, falls_text}
use Rattle.sync_top.specs.declared.status.Status.{Status}
use Rattle.std.specs.Fmt.{decimal}
use Rattle.rank_cert.specs.Refusal.{refusal_number as certificate_number}
use Rattle.rank_cert.specs.declared.error.CertErr.{CertErr}
use Rattle.rank_cert.specs.declared.error.CertErr.TheVariants as broken
use Rattle.rank_cert.specs.Ranks.{Ranks, rank_of, IsFirstFallOver}
use Rattle.sync_top.specs.Status.{OnDoneOrRefuted}
use Rattle.sync_top.specs.Reading.{refusal_line}

-- where a certificate is refused: the row, or the line that has none
abbrev pub certificate_place : Topology → CertErr → List ℕ
certificate_place plan broken.Header = []
certificate_place plan (broken.Row n) = codes " " ++ decimal n
certificate_place plan (broken.Line n) = codes " " ++ decimal n
certificate_place plan (broken.Twice n) = codes " " ++ decimal n
certificate_place plan (broken.Missing line) = codes " " ++ line_name plan line.0

-- the line on a certificate that is refused
abbrev pub certificate_refusal : Topology → CertErr → List ℕ
certificate_refusal plan refused =
    refusal_line (codes "bad certificate ") (certificate_number refused) (certificate_place plan refused)

-- ranks rise over every hop by a test of hops
abbrev pub IsRiseText : HopTest → Ranks → List ℕ → Type 0
IsRiseText hop ranks text = Rises hop (rank_of ranks) × (text ≡ text_line (codes "accepted"))

-- the first hop over which they don't
abbrev pub IsFallText : HopTest → Topology → Ranks → List ℕ → Type 0
IsFallText hop plan ranks text = (from to : ℕ) × IsFirstFallOver hop ranks from to × (text ≡ falls_text plan from to)

-- accepted, or that hop
abbrev pub IsVerdictOver : HopTest → Topology → Ranks → Status → List ℕ → Type 0
IsVerdictOver hop plan ranks status text = OnDoneOrRefuted status (IsRiseText hop ranks text) (IsFallText hop plan ranks text)

-- over the hops of networks with quality levels
abbrev pub IsVerdict : Topology → Ranks → Status → List ℕ → Type 0
IsVerdict plan ranks status text = IsVerdictOver (hops plan) plan ranks status text
