-- The certificate that a text gives, or the first rule that it breaks; and the text of a certificate. This project's own.
use Rattle.std.specs.Prelude.{ℕ, ◌+◌, ◌*◌, Bool, false, ◌&&◌, List, [], ◌∷◌, ◌++◌, length, take, codes, find, map, filter, slice_get, Option, Some, None, option_map, is_some, is_none, Result, Ok, Err, if◌then◌else◌}
use Rattle.std.specs.Option.{option_and_then}
use Rattle.std.specs.List.{range_with_len, concat}
use Rattle.std.specs.Str.{bytes_eq}
use Rattle.std.specs.Fmt.{decimal}
use Rattle.csv_records.specs.FirstRefusal.{first_refusal}
use Rattle.csv_records.specs.Records.{records_of}
use Rattle.sync_topo.specs.Topology.{Topology}
use Rattle.sync_topo.specs.Lines.{line_count, line_name, is_nominated}
use Rattle.rank_cert.specs.declared.error.CertErr.{CertErr}
use Rattle.rank_cert.specs.declared.error.CertErr.TheVariants.{Header, Row, Line, Twice, Missing}
use Rattle.rank_cert.specs.Ranks.{Ranks, rank_at, rank_of}
use Rattle.rank_cert.specs.Rows.{Fields, rank_in_row, line_in_row, rank_by_rows, ranks_by_rows}

-- the record is the header
abbrev pub is_header : Fields → Bool
is_header (line ∷ rank ∷ []) = bytes_eq line (codes "line") && bytes_eq rank (codes "rank")
is_header _ = false

-- the rule that row n breaks by its rank and its line, where the test says which lines earlier rows have
abbrev pub refusal_of : ℕ → (ℕ → Bool) → Option ℕ → Option ℕ → Option CertErr
refusal_of n is_taken None line = Some (Row n)
refusal_of n is_taken (Some rank) None = Some (Line n)
refusal_of n is_taken (Some rank) (Some line) = if is_taken line then Some (Twice n) else None

-- the rule that row n breaks, after the rows before it
abbrev pub row_refusal : Topology → List Fields → ℕ → Fields → Option CertErr
row_refusal plan earlier n row = refusal_of n (λ line. is_some (rank_by_rows plan earlier line)) (rank_in_row row) (line_in_row plan row)

-- the same of the row at a place. Places count from 0, and the numbers of rows from 1
abbrev pub refusal_at : Topology → List Fields → ℕ → Option CertErr
refusal_at plan rows place = option_and_then (row_refusal plan (take place rows) (place + 1)) (slice_get rows place)

-- the lowest-numbered nominated line without a rank
abbrev pub first_without : Topology → Ranks → Option ℕ
first_without plan ranks = find (λ line. is_nominated plan line && is_none (rank_at ranks line)) (range_with_len 0 (line_count plan))

-- the refusal of ranks that such a line lacks
abbrev pub missing_refusal : Topology → Ranks → Option CertErr
missing_refusal plan ranks = option_map (λ line. Missing (record { 0 = line })) (first_without plan ranks)

-- goes on with the value, and ends with a refusal
infixl 10 ◌>>=◌
abbrev pub ◌>>=◌ : {A B : Type 0} → Result A CertErr → (A → Result B CertErr) → Result B CertErr
Ok value >>= next = next value
Err refused >>= next = Err refused

-- goes on where there is no refusal
abbrev pub unless : Option CertErr → Result (Unit {0}) CertErr
unless None = Ok tt
unless (Some refused) = Err refused

-- the header first, then a row for each nominated line, in any order
unfoldable pub certificate_of_records : Topology → List Fields → Result Ranks CertErr
certificate_of_records plan [] = Err Header
certificate_of_records plan (first ∷ rows) = do
  header ← unless (if is_header first then None else Some Header)
  sound ← unless (first_refusal (refusal_at plan rows) (length rows))
  complete ← unless (missing_refusal plan (ranks_by_rows plan rows))
  Ok (ranks_by_rows plan rows)

-- the certificate of a text
abbrev pub certificate_of : Topology → List ℕ → Result Ranks CertErr
certificate_of plan bytes = certificate_of_records plan (records_of bytes)

-- the row of a line and its rank, as it is written
abbrev pub row_text : Topology → ℕ → ℕ → List ℕ
row_text plan line rank = line_name plan line ++ codes "," ++ decimal rank ++ codes "\n"

-- the nominated lines, in order of number
abbrev pub nominated_lines : Topology → List ℕ
nominated_lines plan = filter (is_nominated plan) (range_with_len 0 (line_count plan))

-- the written form: the header, and a row for each nominated line in order of number
abbrev pub certificate_text : Topology → Ranks → List ℕ
certificate_text plan ranks = codes "line,rank\n" ++ concat (map (λ line. row_text plan line (rank_of ranks line)) (nominated_lines plan))

-- the most bytes of a written row: a name has at most 32, so a line's has 65; a comma, 20 digits and the end of the line
abbrev pub row_size : ℕ
row_size = 87

-- the most bytes of a written certificate: the header has 10, and the plan has two lines for each link
abbrev pub certificate_size : Topology → ℕ
certificate_size plan = 10 + 2 * length plan.links * row_size
