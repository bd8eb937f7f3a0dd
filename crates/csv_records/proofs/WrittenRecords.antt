-- Lines of plain records are read back as these records.
use Rattle.std.proofs.Common.{◌≡◌, ℕ, ◌+◌, ◌<◌, ◌≤◌, zero, suc, Bool, true, false, ◌||◌, ◌&&◌, not, List, [], ◌∷◌, ◌++◌, length, map, refl, ap, sym, ◌∙◌, arith, append_assoc}
use Rattle.std.specs.Prelude.{◌==◌}
use Rattle.std.specs.List.{list_any, list_all}
use Rattle.std.proofs.lemmas.Bool.{true≢false, and_parts}
use Rattle.std.proofs.lemmas.List.{length-append, append-nil}
use Rattle.csv.specs.Machine.{next_record}
use Rattle.csv.specs.Reading.{default_config, records_from, strip_bom}
use Rattle.csv.specs.Writing.{default_writer, needs_byte, read_back, row_text, fields_text, is_blank}
use Rattle.csv.specs.declared.parser.State.TheVariants as st
use Rattle.csv.proofs.RoundTrip.{read-write, rows_text}
use Rattle.csv_records.specs.Records.{records_of}
use Rattle.csv_records.specs.private.Written.{is_plain_byte, IsPlain, ArePlain, pair_line, pair_lines, pair_records}

-- records are read back, however many turns are left
written : (rows : List (List (List ℕ))) (turns : ℕ) → length rows < turns → records_from default_config turns st.StartRecord (rows_text rows) ≡ map read_back rows
unfolding records_from rows_text next_record
written rows zero more = absurd (omega (arith, more))
written [] (suc turns) more = refl
written (row ∷ rows) (suc turns) more =
    rw (read-write row (rows_text rows)) (ap (λ (rest : List (List (List ℕ))). read_back row ∷ rest) (written rows turns (omega (arith, more))))

-- a plain byte calls for no quotes
plain_byte : (byte : ℕ) → is_plain_byte byte ≡ true → needs_byte default_writer byte ≡ false
plain_byte byte plain = four (byte == 44) (byte == 34) (byte == 13) (byte == 10) plain
  where
    four : (comma quote return feed : Bool) → not (comma || quote || return || feed) ≡ true → (comma || quote || (return || feed) || (not true && false) || false) ≡ false
    four true quote return feed plain = absurd (true≢false (sym plain))
    four false true return feed plain = absurd (true≢false (sym plain))
    four false false true feed plain = absurd (true≢false (sym plain))
    four false false false true plain = absurd (true≢false (sym plain))
    four false false false false plain = refl

-- a field of plain bytes calls for none
pub plain_field : (bytes : List ℕ) → IsPlain bytes → list_any (needs_byte default_writer) bytes ≡ false
plain_field [] plain = refl
plain_field (byte ∷ bytes) plain =
    let parts = and_parts (is_plain_byte byte) (list_all is_plain_byte bytes) plain in
    rw (plain_byte byte parts.0) (plain_field bytes parts.1)

-- the line of two plain fields is what `csv` writes for them
line_is : (first second : List ℕ) → IsPlain first → IsPlain second → pair_line first second ≡ row_text default_writer (first ∷ second ∷ [])
unfolding fields_text is_blank
line_is first second plain simple =
    rw (plain_field first plain, plain_field second simple, append-nil second) (ap (λ (line : List ℕ). line ++ 10 ∷ []) (append_assoc first (44 ∷ []) second))

lines_are : (pairs : List (List ℕ × List ℕ)) → ArePlain pairs → pair_lines pairs ≡ rows_text (pair_records pairs)
unfolding rows_text
lines_are [] plain = refl
lines_are (pair ∷ pairs) plain =
    let here = plain 0 pair refl in
    rw (line_is pair.0 pair.1 here.0 here.1, lines_are pairs (λ i other at. plain (suc i) other at)) refl

-- each line takes a byte
as_long : (pairs : List (List ℕ × List ℕ)) → length (pair_records pairs) ≤ length (pair_lines pairs)
as_long [] = omega arith
as_long (pair ∷ pairs) =
    let rest = as_long pairs in
    let front : List ℕ = pair.0 ++ (44 ∷ []) ++ pair.1 in
    rw (length-append (front ++ 10 ∷ []) (pair_lines pairs), length-append front (10 ∷ [])) (omega (arith, rest))

-- a record of two fields is read back as it is
as_they_are : (pairs : List (List ℕ × List ℕ)) → map read_back (pair_records pairs) ≡ pair_records pairs
as_they_are [] = refl
as_they_are (pair ∷ pairs) = rw (as_they_are pairs) refl

-- a text whose first byte begins no byte order mark
no_mark : (byte : ℕ) (rest : List ℕ) → (byte == 239) ≡ false → strip_bom (byte ∷ rest) ≡ byte ∷ rest
unfolding strip_bom
no_mark byte [] none = refl
no_mark byte (second ∷ []) none = refl
no_mark byte (second ∷ third ∷ rest) none = rw none refl

-- the records of a text that `csv` writes for some records, and that begins with no byte order mark
pub records-of-text : (rows : List (List (List ℕ))) (byte : ℕ) (rest : List ℕ) → rows_text rows ≡ byte ∷ rest → (byte == 239) ≡ false → length rows ≤ length (byte ∷ rest)
    → records_of (byte ∷ rest) ≡ map read_back rows
unfolding records_of
records-of-text rows byte rest text none long =
    let read : records_from default_config (length (byte ∷ rest) + 1) st.StartRecord (rows_text rows) ≡ map read_back rows
    = written rows (length (byte ∷ rest) + 1) (omega (arith, long)) in
    rw (no_mark byte rest none) (rw text at read)

-- the records of lines of plain fields, the first of which begins with no byte order mark
pub records-of-lines : (byte : ℕ) (front second : List ℕ) (pairs : List (List ℕ × List ℕ)) → (byte == 239) ≡ false → ArePlain ((byte ∷ front, second) ∷ pairs)
    → records_of (pair_lines ((byte ∷ front, second) ∷ pairs)) ≡ pair_records ((byte ∷ front, second) ∷ pairs)
records-of-lines byte front second pairs none plain =
    let all : List (List ℕ × List ℕ) = (byte ∷ front, second) ∷ pairs in
    let text : pair_lines all ≡ rows_text (pair_records all) = lines_are all plain in
    records-of-text (pair_records all) byte _ (sym text) none (as_long all) ∙ as_they_are all
