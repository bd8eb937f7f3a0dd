-- The rules for certificates, and which of them a text breaks first. This project's own.
use Rattle.std.specs.Prelude.{◌≡◌, ℕ, ◌≤◌, ◌<◌, IsTrue, IsSome, ⊤, List, [], ◌∷◌, length, Some, None, unwrap_or, slice_get}
use Rattle.sync_topo.specs.Topology.{Topology}
use Rattle.sync_topo.specs.Lines.{line_count, IsNominated}
use Rattle.rank_cert.specs.declared.error.CertErr.{CertErr}
use Rattle.rank_cert.specs.declared.error.CertErr.TheVariants.{Header, Row, Line, Twice, Missing}
use Rattle.rank_cert.specs.Ranks.{Ranks, rank_at, RanksNoOther}
use Rattle.rank_cert.specs.Rows.{Fields, rank_in_row, line_in_row}
use Rattle.rank_cert.specs.CertificateText.{is_header}

-- the first record is the header
abbrev pub HasHeader : List Fields → Type 0
HasHeader [] = ⊥
HasHeader (first ∷ rows) = IsTrue (is_header first)

-- the fields of row n: the header is record 0, and rows count from 1
abbrev pub row_at : List Fields → ℕ → Fields
row_at records n = unwrap_or (slice_get records n) []

-- row n has this line
abbrev pub HasLine : Topology → List Fields → ℕ → ℕ → Type 0
HasLine plan records n line = (1 ≤ n) × (line_in_row plan (row_at records n) ≡ Some line)

-- row n keeps the rules: it has a rank, and a nominated line that no earlier row has
pub record IsSoundRow (plan : Topology) (records : List Fields) (n : ℕ) : Type 0 where
  pub has_rank : IsSome (rank_in_row (row_at records n))
  pub line : ℕ
  pub has_line : HasLine plan records n line
  pub is_new : (earlier : ℕ) → earlier < n → ¬ HasLine plan records earlier line

-- the header stands first, and every row before row n keeps the rules
pub record IsSoundBefore (plan : Topology) (records : List Fields) (n : ℕ) : Type 0 where
  pub has_header : HasHeader records
  pub sound : (row : ℕ) → 1 ≤ row → row < n → IsSoundRow plan records row

-- there is a row n, and every row before it keeps the rules
pub record IsReached (plan : Topology) (records : List Fields) (n : ℕ) : Type 0 where
  pub one : 1 ≤ n
  pub within : n < length records
  pub before : IsSoundBefore plan records n

-- some row has the line
abbrev pub HasRow : Topology → List Fields → ℕ → Type 0
HasRow plan records line = (n : ℕ) × HasLine plan records n line

-- the rule of a refusal is broken, in the row that it names, and no rule before it
abbrev pub IsFirstBroken : Topology → List Fields → CertErr → Type 0
IsFirstBroken plan records Header = ¬ HasHeader records
IsFirstBroken plan records (Row n) = IsReached plan records n × (rank_in_row (row_at records n) ≡ None)
IsFirstBroken plan records (Line n) =
    IsReached plan records n × IsSome (rank_in_row (row_at records n)) × (line_in_row plan (row_at records n) ≡ None)
IsFirstBroken plan records (Twice n) =
    IsReached plan records n × IsSome (rank_in_row (row_at records n))
    × (line earlier : ℕ) × HasLine plan records n line × HasLine plan records earlier line × (earlier < n)
IsFirstBroken plan records (Missing line) =
    IsSoundBefore plan records (length records) × IsNominated plan line.0 × (¬ HasRow plan records line.0)
    × ((lower : ℕ) → lower < line.0 → IsNominated plan lower → HasRow plan records lower)

-- the line that a refusal names is one of the plan
abbrev pub NamesLine : Topology → CertErr → Type 0
NamesLine plan (Missing line) = line.0 < line_count plan
NamesLine plan refused = ⊤

-- no rule is broken, each nominated line has the rank of its row, and no other line has one
pub record IsCertificateOf (plan : Topology) (records : List Fields) (ranks : Ranks) : Type 0 where
  pub sound : IsSoundBefore plan records (length records)
  pub counted : length ranks ≡ line_count plan
  pub ranked : (line : ℕ) → IsNominated plan line → (n : ℕ) × HasLine plan records n line × (rank_at ranks line ≡ rank_in_row (row_at records n))
  pub no_other : RanksNoOther plan ranks
