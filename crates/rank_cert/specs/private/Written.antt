-- How far the writing of a certificate has come: what only private clauses cite.
use Rattle.std.specs.Prelude.{◌≡◌, ℕ, ◌<◌, ◌^◌, List, [], ◌++◌, codes, map, filter, Some}
use Rattle.std.specs.Option.{option_map_or}
use Rattle.std.specs.List.{range_with_len, concat}
use Rattle.sync_topo.specs.Topology.{Topology}
use Rattle.sync_topo.specs.Lines.{is_nominated}
use Rattle.rank_cert.specs.Ranks.{Ranks, rank_at, rank_of}
use Rattle.rank_cert.specs.CertificateText.{row_text}

-- what is written for a line: its row, if it has a rank
abbrev pub line_text : Topology → Ranks → ℕ → List ℕ
line_text plan ranks line = option_map_or (row_text plan line) (rank_at ranks line) []

-- the rows of the lines below a number are written, and their ranks are numbers of 64 bits
pub record AreWritten (plan : Topology) (ranks : Ranks) (bound : ℕ) (text : List ℕ) : Type 0 where
  pub written : text ≡ codes "line,rank\n" ++ concat (map (λ line. row_text plan line (rank_of ranks line)) (filter (is_nominated plan) (range_with_len 0 bound)))
  pub fit : (line rank : ℕ) → line < bound → rank_at ranks line ≡ Some rank → rank < 2 ^ 64
