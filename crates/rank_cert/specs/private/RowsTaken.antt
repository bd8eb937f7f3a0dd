-- How the rows are gone through: what only private clauses cite.
use Rattle.std.specs.Prelude.{◌≡◌, ℕ, ◌<◌, List, length, take, Option, None, is_some}
use Rattle.std.specs.Option.{option_or}
use Rattle.sync_topo.specs.Topology.{Topology}
use Rattle.sync_topo.specs.Lines.{line_count}
use Rattle.rank_cert.specs.declared.error.CertErr.{CertErr}
use Rattle.rank_cert.specs.Ranks.{Ranks, rank_at}
use Rattle.rank_cert.specs.Rows.{Fields, rank_in_row, line_in_row, rank_for, rank_by_rows}
use Rattle.rank_cert.specs.CertificateText.{refusal_of, refusal_at}

-- the rule that row n breaks, where the rows before it give these ranks
unfoldable pub refusal_after : Topology → Ranks → ℕ → Fields → Option CertErr
refusal_after plan ranks n row = refusal_of n (λ line. is_some (rank_at ranks line)) (rank_in_row row) (line_in_row plan row)

-- the ranks after one more row: its line gets its rank, if it had none
pub record AreRanksAfter (plan : Topology) (before : Ranks) (row : Fields) (now : Ranks) : Type 0 where
  pub counted : length now ≡ length before
  pub each : (line : ℕ) → rank_at now line ≡ option_or (rank_at before line) (rank_for plan line row)

-- the ranks are those that rows give
pub record AreRanksBy (plan : Topology) (rows : List Fields) (ranks : Ranks) : Type 0 where
  pub counted : length ranks ≡ line_count plan
  pub each : (line : ℕ) → rank_at ranks line ≡ rank_by_rows plan rows line

-- the first rows, as many as n, break no rule, and these are the ranks that they give
pub record AreTaken (plan : Topology) (rows : List Fields) (n : ℕ) (ranks : Ranks) : Type 0 where
  pub sound : (place : ℕ) → place < n → refusal_at plan rows place ≡ None
  pub given : AreRanksBy plan (take n rows) ranks
