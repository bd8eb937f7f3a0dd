-- A row is read by its first twelve bytes, the kind between commas, and the fields behind it.
use Rattle.std.proofs.Common.{◌≡◌, ℕ, ◌<◌, ◌==◌, Bool, true, false, cond, List, [], ◌∷◌, ◌++◌, length, take, drop, codes, refl, Option, None, Some, Ok, inl, inr, sym, ap, ◌∙◌, arith}
use Rattle.std.specs.List.{join_with_byte}
use Rattle.std.specs.Result.{result_ok}
use Rattle.std.specs.Str.{bytes_eq}
use Rattle.std.proofs.lemmas.Bool.{cases_Bool, cond-true, cond-false}
use Rattle.std.proofs.lemmas.List.{take-append-drop, length-take}
use Rattle.std.proofs.lemmas.List.Splits.{slice_split_at, join_with_byte-slice_split}
use Rattle.std.proofs.lemmas.Slice.Eq.{bytes_eq-Decides}
use Rattle.std.proofs.Math.Seq.{take-append_seam, drop-append_seam}
use Rattle.hex.specs.Hex.{decode_sized}
use Rattle.hex.proofs.HexLemmas.{decode_sized-ok}
use Rattle.sync_ql.specs.declared.levels.NetOption.{NetOption}
use Rattle.esmc_frame.specs.declared.frame.Pdu.{Pdu}
use Rattle.capture_text.specs.Row.{kind_text}
use Rattle.capture_text.specs.Reading.{SayRow, fields_of, ◌>>=◌, codes_of_text, behind_of, said_by, pdu_of}
use Rattle.capture_text.specs.private.Steps.{kind_and_rest}
use Rattle.capture_text.proofs.ReadingLemmas.{same_ok, event_of_kind, kind_is_field, digits_are_a_field, row_of_pdu}

-- the value that a source, a kind and the fields behind them say
abbrev pub said_behind : NetOption → List ℕ → Bool → List (List ℕ) → Option Pdu
said_behind option source event [] = None
said_behind option source event (level ∷ behind) = do
  both ← codes_of_text option level
  extended ← behind_of both.enhanced behind
  Some (record { source = source; event = event; code = both.code; extended = extended })

abbrev pub by_steps : NetOption → List ℕ → Option Pdu
by_steps option line = do
  source ← result_ok (decode_sized (take 12 line) 6)
  kind ← kind_and_rest (drop 12 line)
  said_behind option source kind.0 (fields_of kind.1)

-- the kind of a row, and what stands behind it
kind_and_rest-row : (event : Bool) (rest : List ℕ) → kind_and_rest (44 ∷ (kind_text event ++ 44 ∷ rest)) ≡ Some (event, rest)
kind_and_rest-row true rest = refl
kind_and_rest-row false rest = refl

begins_with : (n : ℕ) (text front : List ℕ) → bytes_eq (take n text) front ≡ true → text ≡ front ++ drop n text
begins_with n text front same = let e = (bytes_eq-Decides (take n text) front).0 same in sym (take-append-drop n text) ∙ ap (λ xs. xs ++ drop n text) e

-- the kind and the rest that were found, if any were
abbrev event_in : Option (Bool × List ℕ) → Bool
event_in None = false
event_in (Some kind) = kind.0

abbrev rest_in : Option (Bool × List ℕ) → List ℕ
rest_in None = []
rest_in (Some kind) = kind.1

same_pair : (found : Option (Bool × List ℕ)) (a b : Bool) (x y : List ℕ) → found ≡ Some (a, x) → found ≡ Some (b, y) → (a ≡ b) × (x ≡ y)
same_pair found a b x y first second = (ap event_in (sym first ∙ second), ap rest_in (sym first ∙ second))

kind_is : (text : List ℕ) (event : Bool) (rest : List ℕ) → kind_and_rest text ≡ Some (event, rest) → text ≡ 44 ∷ (kind_text event ++ 44 ∷ rest)
kind_is text event rest is =
    elim (cases_Bool (bytes_eq (take 6 text) (codes ",info,"))) [
      | inl information ↦
          let here : kind_and_rest text ≡ Some (false, drop 6 text) = cond-true _ _ _ information in
          let parts = same_pair (kind_and_rest text) false event (drop 6 text) rest here is in
          rw (← parts.0, ← parts.1) (begins_with 6 text (codes ",info,") information)
      | inr other ↦
          let past : kind_and_rest text ≡ cond (bytes_eq (take 7 text) (codes ",event,")) (Some (true, drop 7 text)) None = cond-false _ _ _ other in
          elim (cases_Bool (bytes_eq (take 7 text) (codes ",event,"))) [
            | inl event_message ↦
                let here : kind_and_rest text ≡ Some (true, drop 7 text) = past ∙ cond-true _ _ _ event_message in
                let parts = same_pair (kind_and_rest text) true event (drop 7 text) rest here is in
                rw (← parts.0, ← parts.1) (begins_with 7 text (codes ",event,") event_message)
            | inr neither ↦ let none : kind_and_rest text ≡ None = past ∙ cond-false _ _ _ neither in absurd (cc)
          ]
    ]

-- what the steps find in a line that is a row
record Found (line source : List ℕ) (event : Bool) : Type 0 where
  source_is : result_ok (decode_sized (take 12 line) 6) ≡ Some source
  rest : List ℕ
  kind_is : kind_and_rest (drop 12 line) ≡ Some (event, rest)

fields_found : (option : NetOption) (fields : List (List ℕ)) (pdu : Pdu) → SayRow option fields pdu → (line : List ℕ) → line ≡ join_with_byte 44 fields → Found line pdu.source pdu.event
fields_found option (source ∷ kind ∷ level ∷ behind) pdu says line is =
    let rest = join_with_byte 44 (level ∷ behind) in
    let twelve : length source ≡ 12 = decode_sized-ok source 6 pdu.source says.0.sends in
    let front : take 12 line ≡ source = rw (is, ← twelve) (take-append_seam source (44 ∷ (kind ++ 44 ∷ rest))) in
    let back : drop 12 line ≡ 44 ∷ (kind ++ 44 ∷ rest) = rw (is, ← twelve) (drop-append_seam source (44 ∷ (kind ++ 44 ∷ rest))) in
    record {
      source_is = ap (λ text. result_ok (decode_sized text 6)) front ∙ ap result_ok says.0.sends;
      rest = rest;
      kind_is = ap kind_and_rest (back ∙ ap (λ k. 44 ∷ (k ++ 44 ∷ rest)) says.0.event) ∙ kind_and_rest-row pdu.event rest;
    }
fields_found option fields pdu says line is = absurd says

row_found : (option : NetOption) (line : List ℕ) (pdu : Pdu) → pdu_of option line ≡ Some pdu → Found line pdu.source pdu.event
row_found option line pdu is = fields_found option (fields_of line) pdu (row_of_pdu option line pdu is) line (sym (join_with_byte-slice_split 44 line))

-- the fields of a line in which the steps find a source and a kind
fields_by_steps : (line source : List ℕ) (event : Bool) (rest : List ℕ) → decode_sized (take 12 line) 6 ≡ Ok source → kind_and_rest (drop 12 line) ≡ Some (event, rest) → fields_of line ≡ take 12 line ∷ kind_text event ∷ fields_of rest
fields_by_steps line source event rest sends kind =
    let text = kind_is (drop 12 line) event rest kind in
    let whole : line ≡ take 12 line ++ 44 ∷ (kind_text event ++ 44 ∷ rest) = sym (take-append-drop 12 line) ∙ ap (λ back. take 12 line ++ back) text in
    ap fields_of whole
    ∙ slice_split_at (λ byte. byte == 44) (take 12 line) 44 (kind_text event ++ 44 ∷ rest) (digits_are_a_field (take 12 line) 6 source sends) refl
    ∙ ap (λ fields. take 12 line ∷ fields) (slice_split_at (λ byte. byte == 44) (kind_text event) 44 rest (kind_is_field event) refl)

said_by_fields : (option : NetOption) (text source : List ℕ) (event : Bool) (fields : List (List ℕ)) → decode_sized text 6 ≡ Ok source → said_by option (text ∷ kind_text event ∷ fields) ≡ said_behind option source event fields
unfolding said_by
said_by_fields option text source event [] sends = refl
said_by_fields option text source event (level ∷ behind) sends = rw (sends, event_of_kind event) refl

-- where a step finds nothing, the line is no row
none_found : (option : NetOption) (line : List ℕ) → ((pdu : Pdu) → Found line pdu.source pdu.event → ⊥) → (read : Option Pdu) → pdu_of option line ≡ read → read ≡ None
none_found option line never None is = refl
none_found option line never (Some pdu) is = absurd (never pdu (row_found option line pdu is))

steps : (option : NetOption) (line : List ℕ) (source : Option (List ℕ)) (kind : Option (Bool × List ℕ)) → result_ok (decode_sized (take 12 line) 6) ≡ source → kind_and_rest (drop 12 line) ≡ kind → pdu_of option line ≡ by_steps option line
steps option line (Some source) (Some kind) sends is =
    ap (said_by option) (fields_by_steps line source kind.0 kind.1 (same_ok _ _ sends) is)
    ∙ said_by_fields option (take 12 line) source kind.0 (fields_of kind.1) (same_ok _ _ sends)
    ∙ rw (sends, is) refl
steps option line None kind sends is =
    none_found option line (λ pdu found. let h = found.source_is in cc) _ refl ∙ rw sends refl
steps option line (Some source) None sends is =
    none_found option line (λ pdu found. let h = found.kind_is in cc) _ refl ∙ rw (sends, is) refl

-- so a line is read step by step
pub pdu_by_steps : (option : NetOption) (line : List ℕ) → pdu_of option line ≡ by_steps option line
pdu_by_steps option line = steps option line _ _ refl refl

-- and a line of fewer bytes than a source's digits is no row
pub too_short : (option : NetOption) (line : List ℕ) → length line < 12 → None ≡ pdu_of option line
too_short option line short =
    sym (none_found option line (λ pdu found. let twelve = decode_sized-ok (take 12 line) 6 pdu.source (same_ok _ _ found.source_is) in absurd (omega (arith, twelve, length-take 12 line, short))) _ refl)
