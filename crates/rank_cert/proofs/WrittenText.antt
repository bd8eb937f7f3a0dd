-- The text of a certificate is read back as the same certificate.
use Rattle.std.proofs.Common.{◌≡◌, ℕ, ◌+◌, ◌<◌, ◌≤◌, ◌^◌, zero, suc, Bool, true, false, ◌&&◌, ◌||◌, List, [], ◌∷◌, ◌++◌, length, map, filter, take, Option, Some, None, Ok, slice_get, refl, ap, sym, ◌∙◌, inl, inr, arith}
use Rattle.std.specs.Prelude.{◌==◌, is_none, is_some, IfSome, codes, unwrap_or, if◌then◌else◌}
use Rattle.std.specs.List.{range_with_len, concat, list_any, list_all}
use Rattle.std.specs.Option.{option_map, option_map_or}
use Rattle.std.specs.Char.{is_ascii_digit}
use Rattle.std.specs.Str.{all_ascii_digits}
use Rattle.std.specs.Fmt.{decimal}
use Rattle.std.proofs.lemmas.Bool.{true≢false, and_parts}
use Rattle.std.proofs.lemmas.Bool.Decides.{eqb_tells}
use Rattle.std.proofs.lemmas.List.{map-append, append-nil, take-map, length-map}
use Rattle.std.proofs.lemmas.List.Folds.{concat-append}
use Rattle.std.proofs.lemmas.Option.{none-some, same_Some, slice_get-map}
use Rattle.sync_text.proofs.Ranges.{find_range-none}
use Rattle.csv_records.proofs.FirstRefusals.{first_refusal-none}
use Rattle.csv_records.specs.Records.{records_of}
use Rattle.csv_records.specs.private.Written.{is_plain_byte, IsPlain, ArePlain, pair_line, pair_lines, pair_records}
use Rattle.csv_records.proofs.WrittenRecords.{records-of-lines}
use Rattle.sync_text.proofs.Decimals.{number_of_decimal, number_of_some}
use Rattle.sync_topo.specs.Topology.{Topology}
use Rattle.sync_topo.specs.Lines.{line_count, is_nominated, line_name}
use Rattle.sync_topo.specs.Names.{is_name_byte}
use Rattle.sync_topo.specs.WellFormed.{IsWellFormed}
use Rattle.sync_topo.proofs.Lists.{filter_range_more, item_at}
use Rattle.sync_topo.proofs.LineLaws.{IsNominated-within}
use Rattle.rank_cert.specs.Ranks.{Ranks, rank_at, rank_of, IsRanked, RanksNoOther}
use Rattle.rank_cert.specs.Rows.{Fields, rank_in_row, line_in_row, rank_by_rows}
use Rattle.rank_cert.specs.CertificateText.{row_text, nominated_lines, certificate_text, certificate_of, refusal_at, first_without}
use Rattle.rank_cert.specs.private.RowsTaken.{AreRanksBy}
use Rattle.rank_cert.specs.private.Written.{line_text, AreWritten}
use Rattle.rank_cert.proofs.Certificates.{certificate-of}
use Rattle.rank_cert.proofs.OwnNames.{own-name, line_name-all, all-weaker}
use Rattle.rank_cert.proofs.RuleLaws.{from_take}

-- one line more
pub AreWritten-more : (plan : Topology) (ranks : Ranks) (bound : ℕ) (before now : List ℕ) → IsRanked plan ranks → RanksNoOther plan ranks → AreWritten plan ranks bound before
    → now ≡ before ++ line_text plan ranks bound → IfSome (rank_at ranks bound) (λ rank. rank < 2 ^ 64) → AreWritten plan ranks (bound + 1) now
AreWritten-more plan ranks bound before now ranked no_other so_far put fits = record {
  written = put ∙ ap (λ (front : List ℕ). front ++ line_text plan ranks bound) so_far.written ∙ sym (ap (λ (rows : List ℕ). codes "line,rank\n" ++ rows) rows_more);
  fit = λ line rank below given. elim (eqb_tells line bound) [
    | inl here ↦ small (rank_at ranks bound) rank (rw here.1 at given) fits
    | inr other ↦ so_far.fit line rank (omega (arith, below, other.1)) given
  ];
}
  where
    small : (o : Option ℕ) (rank : ℕ) → o ≡ Some rank → IfSome o (λ r. r < 2 ^ 64) → rank < 2 ^ 64
    small None rank given fits = absurd (none-some rank given)
    small (Some r) rank given fits = rw (← same_Some r rank given) fits

    f : ℕ → List ℕ
    f = λ line. row_text plan line (rank_of ranks line)

    last : (b : Bool) → is_nominated plan bound ≡ b → (o : Option ℕ) → rank_at ranks bound ≡ o → concat (map f (if b then bound ∷ [] else [])) ≡ option_map_or (row_text plan bound) o []
    last true e (Some rank) given = rw given (append-nil (row_text plan bound rank))
    last true e None given = let never : is_some (rank_at ranks bound) ≡ true = ranked.ranked bound e in absurd (true≢false (sym never ∙ ap is_some given))
    last false e None given = refl
    last false e (Some rank) given = absurd (none-some rank (sym (no_other bound (λ nominated. true≢false (sym nominated ∙ e))) ∙ given))

    rows_more : concat (map f (filter (is_nominated plan) (range_with_len 0 (bound + 1)))) ≡ concat (map f (filter (is_nominated plan) (range_with_len 0 bound))) ++ line_text plan ranks bound
    rows_more =
        let front : List ℕ = filter (is_nominated plan) (range_with_len 0 bound) in
        let back : List ℕ = if is_nominated plan bound then bound ∷ [] else [] in
        ap (λ (lines : List ℕ). concat (map f lines)) (filter_range_more (is_nominated plan) bound)
        ∙ ap concat (map-append f front back)
        ∙ concat-append (map f front) (map f back)
        ∙ ap (λ (row : List ℕ). concat (map f front) ++ row) (last (is_nominated plan bound) refl (rank_at ranks bound) refl)

-- the row that is written for a line
fields_of : Topology → Ranks → ℕ → Fields
fields_of plan ranks line = line_name plan line ∷ decimal (rank_of ranks line) ∷ []

-- all of these lines are nominated
abbrev AreNominated : Topology → List ℕ → Type 0
AreNominated plan lines = (i line : ℕ) → slice_get lines i ≡ Some line → is_nominated plan line ≡ true

-- each rank is a number of 64 bits
abbrev AreNumbers : Topology → Ranks → Type 0
AreNumbers plan ranks = (line : ℕ) → is_nominated plan line ≡ true → rank_of ranks line < 2 ^ 64

line-of : (plan : Topology) (ranks : Ranks) (line : ℕ) → IsWellFormed plan → is_nominated plan line ≡ true → line_in_row plan (fields_of plan ranks line) ≡ Some line
unfolding fields_of
line-of plan ranks line well nominated = rw (own-name plan line well (IsNominated-within plan line nominated), nominated) refl

rank-of : (plan : Topology) (ranks : Ranks) (line : ℕ) → AreNumbers plan ranks → is_nominated plan line ≡ true → rank_in_row (fields_of plan ranks line) ≡ Some (rank_of ranks line)
unfolding fields_of
rank-of plan ranks line numbers nominated = number_of_decimal (decimal (rank_of ranks line)) (rank_of ranks line) (numbers line nominated) refl

-- the rank that written rows give a line
given-by-written : (plan : Topology) (ranks : Ranks) (lines : List ℕ) (line : ℕ) → IsWellFormed plan → AreNumbers plan ranks → AreNominated plan lines
    → rank_by_rows plan (map (fields_of plan ranks) lines) line ≡ (if list_any (λ l. l == line) lines then Some (rank_of ranks line) else None)
given-by-written plan ranks [] line well numbers nominated = refl
given-by-written plan ranks (first ∷ lines) line well numbers nominated =
    cases (given-by-written plan ranks lines line well numbers (λ i l at. nominated (suc i) l at))
  where
    here : is_nominated plan first ≡ true
    here = nominated 0 first refl

    cases : rank_by_rows plan (map (fields_of plan ranks) lines) line ≡ (if list_any (λ l. l == line) lines then Some (rank_of ranks line) else None)
        → rank_by_rows plan (map (fields_of plan ranks) (first ∷ lines)) line ≡ (if list_any (λ l. l == line) (first ∷ lines) then Some (rank_of ranks line) else None)
    cases rest = elim (eqb_tells first line) [
      | inl same ↦ rw (line-of plan ranks first well here, same.0, rank-of plan ranks first numbers here) (ap (λ (l : ℕ). Some (rank_of ranks l)) same.1)
      | inr other ↦ rw (line-of plan ranks first well here, other.0) rest
    ]

-- the lines of a filtered range rise
rises : (p : ℕ → Bool) (a n place line : ℕ) → slice_get (filter p (range_with_len a n)) place ≡ Some line
    → (list_any (λ l. l == line) (take place (filter p (range_with_len a n))) ≡ false) × (a ≤ line)
rises p a zero place line at = absurd (none-some line at)
rises p a (suc n) place line at = cases (p a) refl place at (λ i here. rises p (a + 1) n i line here)
  where
    cases : (b : Bool) → p a ≡ b → (i : ℕ) → slice_get (filter p (range_with_len a (suc n))) i ≡ Some line
        → ((i : ℕ) → slice_get (filter p (range_with_len (a + 1) n)) i ≡ Some line → (list_any (λ l. l == line) (take i (filter p (range_with_len (a + 1) n))) ≡ false) × (a + 1 ≤ line))
        → (list_any (λ l. l == line) (take i (filter p (range_with_len a (suc n)))) ≡ false) × (a ≤ line)
    cases true e zero here more =
        let same : Some a ≡ Some line = rw e at here in
        (refl, omega (arith, same_Some a line same))
    cases true e (suc i) here more =
        let later = more i (rw e at here) in
        elim (eqb_tells a line) [
          | inl same ↦ absurd (omega (arith, same.1, later.1))
          | inr other ↦ (rw (e, other.0) later.0, omega (arith, later.1))
        ]
    cases false e i here more = let later = more i (rw e at here) in (rw e later.0, omega (arith, later.1))

-- a number that passes stands in the filtered range
stands : (p : ℕ → Bool) (a n k : ℕ) → p k ≡ true → a ≤ k → k < a + n → list_any (λ l. l == k) (filter p (range_with_len a n)) ≡ true
stands p a zero k passes low high = absurd (omega arith)
stands p a (suc n) k passes low high = elim (eqb_tells a k) [
  | inl same ↦ let here : p a ≡ true = rw same.1 passes in rw (here, same.0) refl
  | inr other ↦ cases (p a) refl (stands p (a + 1) n k passes (omega (arith, other.1)) (omega arith))
]
  where
    cases : (b : Bool) → p a ≡ b → list_any (λ l. l == k) (filter p (range_with_len (a + 1) n)) ≡ true → list_any (λ l. l == k) (filter p (range_with_len a (suc n))) ≡ true
    cases true e rest = rw e (or-true-right (a == k) rest)
      where
        or-true-right : (b : Bool) → list_any (λ l. l == k) (filter p (range_with_len (a + 1) n)) ≡ true → (b || list_any (λ l. l == k) (filter p (range_with_len (a + 1) n))) ≡ true
        or-true-right true rest = refl
        or-true-right false rest = rest
    cases false e rest = rw e rest

-- and one that doesn't pass stands not
stands-not : (p : ℕ → Bool) (xs : List ℕ) (k : ℕ) → p k ≡ false → list_any (λ l. l == k) (filter p xs) ≡ false
stands-not p [] k fails = refl
stands-not p (x ∷ xs) k fails = cases (p x) refl (stands-not p xs k fails)
  where
    cases : (b : Bool) → p x ≡ b → list_any (λ l. l == k) (filter p xs) ≡ false → list_any (λ l. l == k) (filter p (x ∷ xs)) ≡ false
    cases false e rest = rw e rest
    cases true e rest = elim (eqb_tells x k) [
      | inl same ↦ absurd (true≢false (sym e ∙ ap p same.1 ∙ fails))
      | inr other ↦ rw (e, other.0) rest
    ]

-- the lines whose rows are written
nominated-all : (plan : Topology) → AreNominated plan (nominated_lines plan)
nominated-all plan = λ i line at. passes (range_with_len 0 (line_count plan)) i line at
  where
    passes : (xs : List ℕ) (i line : ℕ) → slice_get (filter (is_nominated plan) xs) i ≡ Some line → is_nominated plan line ≡ true
    passes [] i line at = absurd (none-some line at)
    passes (x ∷ xs) i line at = cases (is_nominated plan x) refl i at (λ j here. passes xs j line here)
      where
        cases : (b : Bool) → is_nominated plan x ≡ b → (j : ℕ) → slice_get (filter (is_nominated plan) (x ∷ xs)) j ≡ Some line
            → ((j : ℕ) → slice_get (filter (is_nominated plan) xs) j ≡ Some line → is_nominated plan line ≡ true) → is_nominated plan line ≡ true
        cases true e zero here more = let same : Some x ≡ Some line = rw e at here in rw (← same_Some x line same) e
        cases true e (suc j) here more = more j (rw e at here)
        cases false e j here more = more j (rw e at here)

-- no written row is refused
sound-rows : (plan : Topology) (ranks : Ranks) → IsWellFormed plan → AreNumbers plan ranks → (place : ℕ) → place < length (map (fields_of plan ranks) (nominated_lines plan))
    → refusal_at plan (map (fields_of plan ranks) (nominated_lines plan)) place ≡ None
sound-rows plan ranks well numbers place within =
    let lines : List ℕ = nominated_lines plan in
    let as_many : length (map (fields_of plan ranks) lines) ≡ length lines = length-map lines (fields_of plan ranks) in
    let there = item_at lines place (omega (arith, within, as_many)) in
    let line : ℕ = there.0 in
    let here : is_nominated plan line ≡ true = nominated-all plan place line there.1 in
    let row : slice_get (map (fields_of plan ranks) lines) place ≡ Some (fields_of plan ranks line) = slice_get-map (fields_of plan ranks) lines place ∙ ap (option_map (fields_of plan ranks)) there.1 in
    let before : AreNominated plan (take place lines) = λ i l at. nominated-all plan i l (from_take lines place i l at).1 in
    let free : rank_by_rows plan (take place (map (fields_of plan ranks) lines)) line ≡ None
    = rw (take-map (fields_of plan ranks) place lines)
    (given-by-written plan ranks (take place lines) line well numbers before ∙ rw (rises (is_nominated plan) 0 (line_count plan) place line there.1).0 refl) in
    rw (row, rank-of plan ranks line numbers here, line-of plan ranks line well here, free) refl

-- the written rows give the ranks
given-ranks : (plan : Topology) (ranks : Ranks) → IsWellFormed plan → AreNumbers plan ranks → IsRanked plan ranks → RanksNoOther plan ranks
    → AreRanksBy plan (map (fields_of plan ranks) (nominated_lines plan)) ranks
given-ranks plan ranks well numbers ranked no_other = record {
  counted = ranked.counted;
  each = λ line.
      by_nomination line (is_nominated plan line) refl ∙ sym (given-by-written plan ranks (nominated_lines plan) line well numbers (nominated-all plan));
}
  where
    known : (o : Option ℕ) → is_some o ≡ true → o ≡ Some (unwrap_or o 0)
    known None some = absurd (true≢false (sym some))
    known (Some rank) some = refl

    by_nomination : (line : ℕ) (b : Bool) → is_nominated plan line ≡ b → rank_at ranks line ≡ (if list_any (λ l. l == line) (nominated_lines plan) then Some (rank_of ranks line) else None)
    by_nomination line true e =
        let there = stands (is_nominated plan) 0 (line_count plan) line e (omega arith) (omega (arith, IsNominated-within plan line e)) in
        rw there (known (rank_at ranks line) (ranked.ranked line e))
    by_nomination line false e =
        rw (stands-not (is_nominated plan) (range_with_len 0 (line_count plan)) line e) (no_other line (λ nominated. true≢false (sym nominated ∙ e)))

-- no nominated line is missing
none-missing : (plan : Topology) (ranks : Ranks) → IsRanked plan ranks → first_without plan ranks ≡ None
none-missing plan ranks ranked =
    find_range-none (λ line. is_nominated plan line && is_none (rank_at ranks line)) 0 (line_count plan) (λ line low high. by_nomination line (is_nominated plan line) refl)
  where
    has_one : (o : Option ℕ) → is_some o ≡ true → is_none o ≡ false
    has_one None some = absurd (true≢false (sym some))
    has_one (Some rank) some = refl

    by_nomination : (line : ℕ) (b : Bool) → is_nominated plan line ≡ b → (is_nominated plan line && is_none (rank_at ranks line)) ≡ false
    by_nomination line true e = rw e (has_one (rank_at ranks line) (ranked.ranked line e))
    by_nomination line false e = rw e refl

-- the two fields of a line's row
pair_for : Topology → Ranks → ℕ → List ℕ × List ℕ
pair_for plan ranks line = (line_name plan line, decimal (rank_of ranks line))

header_pair : List ℕ × List ℕ
header_pair = (codes "line", codes "rank")

-- the written text is the lines of these pairs
text-is-lines : (plan : Topology) (ranks : Ranks) → certificate_text plan ranks ≡ pair_lines (header_pair ∷ map (pair_for plan ranks) (nominated_lines plan))
unfolding header_pair pair_for
text-is-lines plan ranks = ap (λ (rows : List ℕ). codes "line,rank\n" ++ rows) (ap concat (rows_are (nominated_lines plan)))
  where
    rows_are : (lines : List ℕ) → map (λ line. row_text plan line (rank_of ranks line)) lines ≡ map (λ pair. pair_line pair.0 pair.1) (map (pair_for plan ranks) lines)
    rows_are [] = refl
    rows_are (line ∷ lines) = rw (rows_are lines) refl

-- a byte of a name, a sign and a digit are plain
plain_unless : (byte : ℕ) → ((byte ≡ 44) → ⊥) → ((byte ≡ 34) → ⊥) → ((byte ≡ 13) → ⊥) → ((byte ≡ 10) → ⊥) → is_plain_byte byte ≡ true
plain_unless byte comma quote return feed = rw (other byte 44 comma, other byte 34 quote, other byte 13 return, other byte 10 feed) refl
  where
    other : (x y : ℕ) → ((x ≡ y) → ⊥) → (x == y) ≡ false
    other x y apart = elim (eqb_tells x y) [
      | inl same ↦ absurd (apart same.1)
      | inr differs ↦ differs.0
    ]

plain_by : (test : ℕ → Bool) → test 44 ≡ false → test 34 ≡ false → test 13 ≡ false → test 10 ≡ false → (byte : ℕ) → test byte ≡ true → is_plain_byte byte ≡ true
plain_by test comma quote return feed byte passes = plain_unless byte (apart 44 comma) (apart 34 quote) (apart 13 return) (apart 10 feed)
  where
    apart : (mark : ℕ) → test mark ≡ false → (byte ≡ mark) → ⊥
    apart mark fails same = true≢false (sym passes ∙ ap test same ∙ fails)

-- so a line's name is
pub name-plain : (plan : Topology) (line : ℕ) → IsWellFormed plan → line < line_count plan → IsPlain (line_name plan line)
name-plain plan line well within = line_name-all plan line is_plain_byte well within (plain_by is_name_byte refl refl refl refl) refl

digits-all : (bytes : List ℕ) → all_ascii_digits bytes ≡ true → list_all is_ascii_digit bytes ≡ true
digits-all [] all = refl
digits-all (byte ∷ bytes) all =
    let parts = and_parts (is_ascii_digit byte) (all_ascii_digits bytes) all in
    rw parts.0 (digits-all bytes parts.1)

-- every field is plain
plain-pairs : (plan : Topology) (ranks : Ranks) → IsWellFormed plan → AreNumbers plan ranks → ArePlain (header_pair ∷ map (pair_for plan ranks) (nominated_lines plan))
unfolding header_pair pair_for
plain-pairs plan ranks well numbers zero pair at = rw (← same_Some _ pair at) (refl, refl)
plain-pairs plan ranks well numbers (suc i) pair at =
    by_line (slice_get (nominated_lines plan) i) refl (sym (slice_get-map (pair_for plan ranks) (nominated_lines plan) i) ∙ at)
  where
    by_line : (o : Option ℕ) → slice_get (nominated_lines plan) i ≡ o → option_map (pair_for plan ranks) o ≡ Some pair → IsPlain pair.0 × IsPlain pair.1
    by_line None e is = absurd (none-some pair is)
    by_line (Some line) e is =
        let here = nominated-all plan i line e in
        let within = IsNominated-within plan line here in
        let name = name-plain plan line well within in
        let digits = digits-all (decimal (rank_of ranks line)) (number_of_some (decimal (rank_of ranks line)) (rank_of ranks line) (number_of_decimal (decimal (rank_of ranks line)) (rank_of ranks line) (numbers line here) refl)).0.digits in
        let rank : IsPlain (decimal (rank_of ranks line)) = all-weaker is_ascii_digit is_plain_byte (plain_by is_ascii_digit refl refl refl refl) (decimal (rank_of ranks line)) digits in
        rw (← same_Some _ pair is) (name, rank)

-- the records of the written text
written-records : (plan : Topology) (ranks : Ranks) → IsWellFormed plan → AreNumbers plan ranks
    → records_of (certificate_text plan ranks) ≡ (codes "line" ∷ codes "rank" ∷ []) ∷ map (fields_of plan ranks) (nominated_lines plan)
unfolding header_pair pair_for fields_of
written-records plan ranks well numbers =
    ap records_of (text-is-lines plan ranks)
    ∙ records-of-lines 108 (105 ∷ 110 ∷ 101 ∷ []) (codes "rank") (map (pair_for plan ranks) (nominated_lines plan)) refl (plain-pairs plan ranks well numbers)
    ∙ ap (λ (rows : List Fields). (codes "line" ∷ codes "rank" ∷ []) ∷ rows) (rows_are (nominated_lines plan))
  where
    rows_are : (lines : List ℕ) → pair_records (map (pair_for plan ranks) lines) ≡ map (fields_of plan ranks) lines
    rows_are [] = refl
    rows_are (line ∷ lines) = rw (rows_are lines) refl

-- what is written is read back
pub read-back : (plan : Topology) (ranks : Ranks) → IsWellFormed plan → AreNumbers plan ranks → IsRanked plan ranks → RanksNoOther plan ranks
    → certificate_of plan (certificate_text plan ranks) ≡ Ok ranks
read-back plan ranks well numbers ranked no_other =
    let rows : List Fields = map (fields_of plan ranks) (nominated_lines plan) in
    rw (written-records plan ranks well numbers)
    (certificate-of plan (codes "line" ∷ codes "rank" ∷ []) rows ranks refl (first_refusal-none (refusal_at plan rows) (length rows) (sound-rows plan ranks well numbers))
    (given-ranks plan ranks well numbers ranked no_other) (none-missing plan ranks ranked))

-- the same once all lines are written
pub read-back-written : (plan : Topology) (ranks : Ranks) (bound : ℕ) (text : List ℕ) → IsWellFormed plan → IsRanked plan ranks → RanksNoOther plan ranks → line_count plan ≤ bound → bound ≤ line_count plan
    → AreWritten plan ranks bound text → certificate_of plan text ≡ Ok ranks
read-back-written plan ranks bound text well ranked no_other all within written =
    let same : bound ≡ line_count plan = omega (arith, all, within) in
    let whole : text ≡ certificate_text plan ranks = rw same at written.written in
    rw whole (read-back plan ranks well (λ line nominated.
    written.fit line (rank_of ranks line) (omega (arith, all, IsNominated-within plan line nominated)) (known (rank_at ranks line) (ranked.ranked line nominated))) ranked no_other)
  where
    known : (o : Option ℕ) → is_some o ≡ true → o ≡ Some (unwrap_or o 0)
    known None some = absurd (true≢false (sym some))
    known (Some rank) some = refl
