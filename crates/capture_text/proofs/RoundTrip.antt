-- What is encoded is decoded to the rows, in the form in which rows are written.
use Rattle.std.proofs.Common.{◌≡◌, ◌<◌, ◌+◌, ℕ, ◌==◌, List, [], ◌∷◌, ◌++◌, length, map, Option, None, Some, Result, Ok, Err, refl, sym, ap, ◌∙◌, append_assoc, arith}
use Rattle.std.specs.Str.Lines.{strip_carriage_return}
use Rattle.std.proofs.lemmas.Bool.{cond-false}
use Rattle.std.proofs.lemmas.List.Splits.{slice_split_at}
use Rattle.hex.specs.Hex.{decode_of, encode_lower}
use Rattle.sync_ql.specs.declared.levels.NetOption.{NetOption}
use Rattle.esmc_frame.specs.declared.frame.Pdu.{Pdu}
use Rattle.esmc_frame.specs.Frame.{written_frame}
use Rattle.capture_text.specs.declared.error.CaptureErr.{CaptureErr}
use Rattle.capture_text.specs.Lines.{lines_of}
use Rattle.capture_text.specs.Row.{row_of}
use Rattle.capture_text.specs.Reading.{pdu_of}
use Rattle.sync_text.specs.Chain.{◌>>=◌}
use Rattle.capture_text.specs.Capture.{carried_at, said_at, as_line, row_of_line, frame_of_line, row_in_form, text_of_lines}
use Rattle.capture_text.proofs.ReadingLemmas.{row_of_pdu}
use Rattle.capture_text.proofs.FrameLemmas.{IsSendable, sendable, decode_of-digits, reading_of-written, some_digits, no_line_feeds, no_last_return}

-- what a step gave, where the steps give a text
bind_ok : {A B : Type 0} (given : Result A CaptureErr) (next : A → Result B CaptureErr) (value : B) → (given >>= next) ≡ Ok value → (first : A) × (given ≡ Ok first) × (next first ≡ Ok value)
bind_ok (Ok first) next value gives = (first, refl, gives)
bind_ok (Err error) next value gives = cc

said : (n : ℕ) (read : Option Pdu) (pdu : Pdu) → said_at n read ≡ Ok pdu → read ≡ Some pdu
said n (Some first) pdu is = cc
said n None pdu is = cc

same_text : (a b : List ℕ) → (let first : Result (List ℕ) CaptureErr = Ok a in first ≡ Ok b) → a ≡ b
same_text a b is = cc

-- a line in front of others, where its text has neither line feed nor carriage return
line_in_front : (text octets more : List ℕ) → decode_of text ≡ Ok octets → 0 < length text → lines_of (as_line text ++ more) ≡ text ∷ lines_of more
line_in_front text octets more is some =
    let whole : as_line text ++ more ≡ text ++ 10 ∷ more = append_assoc text (10 ∷ []) more in
    let parts = slice_split_at (λ byte. byte == 10) text 10 more (no_line_feeds text octets is) refl in
    let stripped : strip_carriage_return text ≡ text = cond-false _ _ _ (no_last_return text octets is some) in
    ap lines_of whole ∙ ap (map strip_carriage_return) parts ∙ ap (λ line. line ∷ lines_of more) stripped

row_of_some : (option : NetOption) (n : ℕ) (line : List ℕ) → 0 < length line → row_of_line option n line ≡ (carried_at n line >>= (λ pdu. Ok (as_line (row_of option pdu))))
row_of_some option n [] some = absurd (omega (arith, some))
row_of_some option n (first ∷ digits) some = refl

pub carried : (n : ℕ) (pdu : Pdu) → IsSendable pdu → carried_at n (encode_lower (written_frame pdu)) ≡ Ok pdu
unfolding carried_at
carried n pdu can = rw (decode_of-digits pdu can, reading_of-written pdu can) refl

-- the line of a frame is decoded to its row
frame_decoded : (option : NetOption) (n : ℕ) (pdu : Pdu) (more : List ℕ) → IsSendable pdu → text_of_lines (row_of_line option) n (lines_of (as_line (encode_lower (written_frame pdu)) ++ more)) ≡ (text_of_lines (row_of_line option) (n + 1) (lines_of more) >>= (λ rest. Ok (as_line (row_of option pdu) ++ rest)))
frame_decoded option n pdu more can =
    let digits = encode_lower (written_frame pdu) in
    let lines = line_in_front digits (written_frame pdu) more (decode_of-digits pdu can) (some_digits pdu) in
    let row : row_of_line option n digits ≡ Ok (as_line (row_of option pdu)) =
    row_of_some option n digits (some_digits pdu) ∙ ap (λ carried. carried >>= (λ p. Ok (as_line (row_of option p)))) (carried n pdu can) in
    ap (text_of_lines (row_of_line option) n) lines
    ∙ ap (λ (line : Result (List ℕ) CaptureErr). line >>= (λ text. text_of_lines (row_of_line option) (n + 1) (lines_of more) >>= (λ rest. Ok (text ++ rest)))) row

nothing_in_front : (rest : Result (List ℕ) CaptureErr) → rest ≡ (rest >>= (λ more. Ok ([] ++ more)))
nothing_in_front (Ok more) = refl
nothing_in_front (Err error) = refl

line_decoded : (option : NetOption) (n m : ℕ) (line text more : List ℕ) (rest : Result (List ℕ) CaptureErr) → frame_of_line option n line ≡ Ok text → ((k : ℕ) → text_of_lines (row_of_line option) k (lines_of more) ≡ rest) → text_of_lines (row_of_line option) m (lines_of (text ++ more)) ≡ (row_in_form option n line >>= (λ row. rest >>= (λ rows. Ok (row ++ rows))))
line_decoded option n m [] text more rest is decoded =
    let none = same_text [] text is in
    rw (← none) (decoded m ∙ nothing_in_front rest)
line_decoded option n m (first ∷ row) text more rest is decoded =
    let pdu = bind_ok (said_at n (pdu_of option (first ∷ row))) _ text is in
    let can = sendable option (first ∷ row) pdu.0 (row_of_pdu option (first ∷ row) pdu.0 (said n _ pdu.0 pdu.1)) in
    let frame = same_text (as_line (encode_lower (written_frame pdu.0))) text pdu.2 in
    ap (λ front. text_of_lines (row_of_line option) m (lines_of (front ++ more))) (sym frame)
    ∙ frame_decoded option m pdu.0 more can
    ∙ ap (λ (others : Result (List ℕ) CaptureErr). others >>= (λ rows. Ok (as_line (row_of option pdu.0) ++ rows))) (decoded (m + 1))
    ∙ ap (λ (read : Result Pdu CaptureErr). (read >>= (λ p. Ok (as_line (row_of option p)))) >>= (λ front. rest >>= (λ rows. Ok (front ++ rows)))) (sym pdu.1)

-- the text of the frames is decoded to the rows
frames_decoded : (option : NetOption) (lines : List (List ℕ)) (n m : ℕ) (text : List ℕ) → text_of_lines (frame_of_line option) n lines ≡ Ok text → text_of_lines (row_of_line option) m (lines_of text) ≡ text_of_lines (row_in_form option) n lines
frames_decoded option [] n m text is = let none = same_text [] text is in rw (← none) refl
frames_decoded option (line ∷ lines) n m text is =
    let first = bind_ok (frame_of_line option n line) _ text is in
    let others = bind_ok (text_of_lines (frame_of_line option) (n + 1) lines) _ text first.2 in
    let whole = same_text (first.0 ++ others.0) text others.2 in
    ap (λ all. text_of_lines (row_of_line option) m (lines_of all)) (sym whole)
    ∙ line_decoded option n m line first.0 others.0 (text_of_lines (row_in_form option) (n + 1) lines) first.1 (λ k. frames_decoded option lines (n + 1) k others.0 others.1)

-- the same of whole texts
pub encoded_is_decoded : (option : NetOption) (lines : List (List ℕ)) (text : List ℕ) → text_of_lines (frame_of_line option) 1 lines ≡ Ok text → text_of_lines (row_of_line option) 1 (lines_of text) ≡ text_of_lines (row_in_form option) 1 lines
encoded_is_decoded option lines text is = frames_decoded option lines 1 1 text is
