-- The event file of forced switches is read back as these switches, and isn't too long.
use Rattle.std.proofs.Common.{◌≡◌, ℕ, ◌+◌, ◌*◌, ◌<◌, ◌≤◌, zero, suc, false, List, [], ◌∷◌, ◌++◌, length, map, Option, Some, None, Ok, slice_get, refl, ap, sym, ◌∙◌, arith, append_assoc}
use Rattle.std.specs.Prelude.{nat_lt, codes, option_and_then, unwrap_or}
use Rattle.std.specs.List.{concat}
use Rattle.std.proofs.lemmas.Bool.Decides.{nat_tests}
use Rattle.std.proofs.lemmas.List.{length-append, length-map}
use Rattle.std.proofs.lemmas.Option.{slice_get-map}
use Rattle.sync_text.proofs.Each.{Each-made, Each-map}
use Rattle.sync_text.specs.Each.{Each}
use Rattle.csv.specs.Writing.{default_writer, row_text, fields_text, is_blank, read_back}
use Rattle.csv.proofs.RoundTrip.{rows_text}
use Rattle.csv_records.specs.Records.{records_of}
use Rattle.csv_records.specs.private.Written.{IsPlain}
use Rattle.csv_records.proofs.FirstRefusals.{first_refusal-none}
use Rattle.csv_records.proofs.WrittenRecords.{plain_field, records-of-text}
use Rattle.sync_text.specs.Number.{number_of}
use Rattle.sync_topo.specs.declared.event.What.TheVariants.{Forced}
use Rattle.sync_topo.specs.Topology.{Topology}
use Rattle.sync_topo.specs.Sizes.{event_limit}
use Rattle.sync_topo.proofs.SizedPlans.{elements-few}
use Rattle.sync_topo.specs.Lines.{line_count, line_name, line_input, receiver_of}
use Rattle.sync_topo.specs.WellFormed.{IsWellFormed}
use Rattle.net_rules.specs.Walks.{AreApart}
use Rattle.net_rules.proofs.PlanLaws.{receiver-within}
use Rattle.net_rules.proofs.TraceLaws.{at_most}
use Rattle.rank_cert.proofs.OwnNames.{own-name}
use Rattle.rank_cert.proofs.WrittenText.{name-plain}
use Rattle.rank_cert.proofs.WrittenLength.{line-short}
use Rattle.event_file.specs.EventText.{events_of, events_in}
use Rattle.event_file.specs.Rows.{Fields, event_in, time_in, time_before, row_refusal, refusal_at}
use Rattle.prio_mode.specs.ForcedLoop.{forced_on}
use Rattle.prio_mode.specs.ForcedText.{forced_row, forced_text, forced_row_size, forced_size}

-- every one of some lines is a line of the plan
abbrev pub AreWithin : Topology → List ℕ → Type 0
AreWithin plan lines = Each (λ line. line < line_count plan) lines

-- the record of a row, and of the header
abbrev forced_record : Topology → ℕ → Fields
forced_record plan line = codes "0" ∷ codes "forced" ∷ line_name plan line ∷ [] ∷ []

abbrev header_record : Fields
header_record = codes "at" ∷ codes "what" ∷ codes "target" ∷ codes "value" ∷ []

-- a row is what `csv` writes for its record
row-is : (plan : Topology) (line : ℕ) → IsPlain (line_name plan line) → forced_row plan line ≡ row_text default_writer (forced_record plan line)
unfolding fields_text is_blank
row-is plan line plain =
    rw (plain_field (line_name plan line) plain) (ap (λ (rest : List ℕ). codes "0,forced," ++ rest) (sym (append_assoc (line_name plan line) (44 ∷ []) (10 ∷ []))))

rows-are : (plan : Topology) (lines : List ℕ) → IsWellFormed plan → AreWithin plan lines → concat (map (forced_row plan) lines) ≡ rows_text (map (forced_record plan) lines)
unfolding rows_text
rows-are plan [] well within = refl
rows-are plan (line ∷ lines) well within =
    ap (λ (row : List ℕ). row ++ concat (map (forced_row plan) lines)) (row-is plan line (name-plain plan line well within.0))
    ∙ ap (λ (rest : List ℕ). row_text default_writer (forced_record plan line) ++ rest) (rows-are plan lines well within.1)

text-is : (plan : Topology) (lines : List ℕ) → IsWellFormed plan → AreWithin plan lines → forced_text plan lines ≡ rows_text (header_record ∷ map (forced_record plan) lines)
unfolding rows_text fields_text is_blank
text-is plan lines well within = ap (λ (rest : List ℕ). codes "at,what,target,value\n" ++ rest) (rows-are plan lines well within)

-- each row takes a byte
as-long : (plan : Topology) (lines : List ℕ) → length (map (forced_record plan) lines) ≤ length (concat (map (forced_row plan) lines))
as-long plan [] = omega arith
as-long plan (line ∷ lines) =
    let rest = as-long plan lines in
    rw (length-append (forced_row plan line) (concat (map (forced_row plan) lines))) (omega (arith, rest))

as-they-are : (plan : Topology) (lines : List ℕ) → map read_back (map (forced_record plan) lines) ≡ map (forced_record plan) lines
as-they-are plan [] = refl
as-they-are plan (line ∷ lines) = rw (as-they-are plan lines) refl

-- the records of the text
records-are : (plan : Topology) (lines : List ℕ) → IsWellFormed plan → AreWithin plan lines → records_of (forced_text plan lines) ≡ header_record ∷ map (forced_record plan) lines
records-are plan lines well within =
    records-of-text (header_record ∷ map (forced_record plan) lines) 97 _ (sym (text-is plan lines well within)) refl long
    ∙ ap (λ (rows : List Fields). header_record ∷ rows) (as-they-are plan lines)
  where
    long : length (header_record ∷ map (forced_record plan) lines) ≤ length (forced_text plan lines)
    long = let rows = as-long plan lines in rw (length-append (codes "at,what,target,value\n") (concat (map (forced_row plan) lines))) (omega (arith, rows))

-- a row is the event of its line
event-is : (plan : Topology) (line : ℕ) → IsWellFormed plan → line < line_count plan → event_in plan (forced_record plan line) ≡ Some (record { at = 0; what = Forced (line_input line) })
unfolding number_of
event-is plan line well within = rw (own-name plan line well within) refl

events-are : (plan : Topology) (lines : List ℕ) → IsWellFormed plan → AreWithin plan lines → events_in plan (map (forced_record plan) lines) ≡ forced_on lines
events-are plan [] well within = refl
events-are plan (line ∷ lines) well within = rw (event-is plan line well within.0, events-are plan lines well within.1) refl

-- and breaks no rule
row-stands : (plan : Topology) (n line : ℕ) → IsWellFormed plan → line < line_count plan → n ≤ event_limit plan → row_refusal plan n 0 (forced_record plan line) ≡ None
unfolding row_refusal number_of
row-stands plan n line well within few = rw (own-name plan line well within, early) refl
  where
    early : nat_lt (event_limit plan) n ≡ false
    early = grind (arith, nat_tests, few)

time-is : (plan : Topology) (line : ℕ) → time_in (forced_record plan line) ≡ Some 0
unfolding number_of
time-is plan line = refl

time-before : (plan : Topology) (lines : List ℕ) (i : ℕ) → time_before (map (forced_record plan) lines) i ≡ 0
time-before plan lines zero = refl
time-before plan lines (suc i) = of (slice_get lines i) refl
  where
    of : (o : Option ℕ) → slice_get lines i ≡ o → unwrap_or (option_and_then time_in (slice_get (map (forced_record plan) lines) i)) 0 ≡ 0
    of None is = rw (slice_get-map (forced_record plan) lines i, is) refl
    of (Some line) is = rw (slice_get-map (forced_record plan) lines i, is, time-is plan line) refl

line-at : (plan : Topology) (lines : List ℕ) (i : ℕ) → AreWithin plan lines → i < length lines → (line : ℕ) × (slice_get lines i ≡ Some line) × (line < line_count plan)
line-at plan [] i within inside = absurd (omega (arith, inside))
line-at plan (line ∷ lines) zero within inside = (line, refl, within.0)
line-at plan (line ∷ lines) (suc i) within inside = line-at plan lines i within.1 (omega (arith, inside))

none-refused : (plan : Topology) (lines : List ℕ) → IsWellFormed plan → AreWithin plan lines → length lines ≤ event_limit plan
    → (i : ℕ) → i < length (map (forced_record plan) lines) → refusal_at plan (map (forced_record plan) lines) i ≡ None
none-refused plan lines well within few i inside =
    let within_lines : i < length lines = omega (arith, inside, length-map lines (forced_record plan)) in
    let here = line-at plan lines i within within_lines in
    rw (slice_get-map (forced_record plan) lines i, here.1, time-before plan lines i) (row-stands plan (i + 1) here.0 well here.2 (omega (arith, within_lines, few)))

-- lines of different receivers are no more than there are elements
few-lines : (plan : Topology) (lines : List ℕ) → IsWellFormed plan → AreWithin plan lines
    → AreApart (map (receiver_of plan) lines) → length lines ≤ length plan.elements
few-lines plan lines well within apart =
    let few = at_most (length plan.elements) (map (receiver_of plan) lines) apart
    (Each-made (λ k. k < length plan.elements) (receiver_of plan) lines
    (Each-map (λ line. line < line_count plan)
    (λ line. receiver_of plan line < length plan.elements)
    (λ line inside. receiver-within plan well line inside) lines within)) in
    omega (arith, few, length-map lines (receiver_of plan))

-- what is written is read back
pub read-back : (plan : Topology) (lines : List ℕ) → IsWellFormed plan → AreWithin plan lines → AreApart (map (receiver_of plan) lines)
    → events_of plan (forced_text plan lines) ≡ Ok (forced_on lines)
read-back plan lines well within apart =
    let rows : List Fields = map (forced_record plan) lines in
    rw (
      records-are plan lines well within,
      first_refusal-none (refusal_at plan rows) (length rows) (none-refused plan lines well within (omega (arith, few-lines plan lines well within apart, elements-few plan well))),
      events-are plan lines well within,
    ) refl

-- a row has at most 76 bytes
row-short : (plan : Topology) (line : ℕ) → IsWellFormed plan → line < line_count plan → length (forced_row plan line) ≤ forced_row_size
row-short plan line well within =
    let name = line-short plan line well within in
    rw (length-append (codes "0,forced,") (line_name plan line ++ codes ",\n"), length-append (line_name plan line) (codes ",\n")) (omega (arith, name))

rows-short : (plan : Topology) (lines : List ℕ) → IsWellFormed plan → AreWithin plan lines → length (concat (map (forced_row plan) lines)) ≤ length lines * forced_row_size
rows-short plan [] well within = omega arith
rows-short plan (line ∷ lines) well within =
    let here = row-short plan line well within.0 in
    let rest = rows-short plan lines well within.1 in
    rw (length-append (forced_row plan line) (concat (map (forced_row plan) lines))) (omega (arith, here, rest))

-- and the whole text no more than its size
pub text-short : (plan : Topology) (lines : List ℕ) → IsWellFormed plan → AreWithin plan lines → AreApart (map (receiver_of plan) lines) → length (forced_text plan lines) ≤ forced_size plan
text-short plan lines well within apart =
    let rows = rows-short plan lines well within in
    let few = few-lines plan lines well within apart in
    rw (length-append (codes "at,what,target,value\n") (concat (map (forced_row plan) lines))) (omega (arith, rows, few))
