-- Captured frames as rows, and rows as frames: one line for each, or the first line that is refused. This project's own.
use Rattle.std.specs.Prelude.{ℕ, ◌+◌, List, [], ◌∷◌, ◌++◌, Option, None, Some, Result, Ok, Err}
use Rattle.hex.specs.Hex.{decode_of, encode_lower}
use Rattle.hex.specs.declared.error.FromHexError.{FromHexError}
use Rattle.sync_ql.specs.declared.levels.NetOption.{NetOption}
use Rattle.esmc_frame.specs.declared.frame.Pdu.{Pdu}
use Rattle.esmc_frame.specs.declared.error.FrameErr.{FrameErr}
use Rattle.esmc_frame.specs.Frame.{written_frame}
use Rattle.esmc_frame.specs.Reading.{reading_of}
use Rattle.capture_text.specs.declared.error.CaptureErr.{CaptureErr}
use Rattle.capture_text.specs.declared.error.CaptureErr.TheVariants as refusal
use Rattle.sync_text.specs.Chain.{◌>>=◌}
use Rattle.capture_text.specs.Lines.{lines_of}
use Rattle.capture_text.specs.Row.{row_of}
use Rattle.capture_text.specs.Reading.{pdu_of}

-- the octets that line n gives as hexadecimal digits
abbrev pub octets_at : ℕ → Result (List ℕ) FromHexError → Result (List ℕ) CaptureErr
octets_at n (Ok octets) = Ok octets
octets_at n (Err error) = Err (refusal.Hex n)

-- what the frame on line n carries
abbrev pub value_at : ℕ → Result Pdu FrameErr → Result Pdu CaptureErr
value_at n (Ok pdu) = Ok pdu
value_at n (Err error) = Err (refusal.Frame n error)

-- what the row on line n says
abbrev pub said_at : ℕ → Option Pdu → Result Pdu CaptureErr
said_at n (Some pdu) = Ok pdu
said_at n None = Err (refusal.Row n)

-- what the frame carries that line n gives as digits
unfoldable pub carried_at : ℕ → List ℕ → Result Pdu CaptureErr
carried_at n digits = do
  octets ← octets_at n (decode_of digits)
  value_at n (reading_of octets)

-- a text as a line
abbrev pub as_line : List ℕ → List ℕ
as_line text = text ++ 10 ∷ []

-- what line n gives: for a frame its row, for a row its frame, and nothing for an empty line
abbrev pub row_of_line : NetOption → ℕ → List ℕ → Result (List ℕ) CaptureErr
row_of_line option n [] = Ok []
row_of_line option n (first ∷ digits) = do
  pdu ← carried_at n (first ∷ digits)
  Ok (as_line (row_of option pdu))

abbrev pub frame_of_line : NetOption → ℕ → List ℕ → Result (List ℕ) CaptureErr
frame_of_line option n [] = Ok []
frame_of_line option n (first ∷ row) = do
  pdu ← said_at n (pdu_of option (first ∷ row))
  Ok (as_line (encode_lower (written_frame pdu)))

-- for a row itself, in the form in which rows are written
abbrev pub row_in_form : NetOption → ℕ → List ℕ → Result (List ℕ) CaptureErr
row_in_form option n [] = Ok []
row_in_form option n (first ∷ row) = do
  pdu ← said_at n (pdu_of option (first ∷ row))
  Ok (as_line (row_of option pdu))

-- what lines give one after the other, the first of them line n, or the first refusal
abbrev pub text_of_lines : (ℕ → List ℕ → Result (List ℕ) CaptureErr) → ℕ → List (List ℕ) → Result (List ℕ) CaptureErr
text_of_lines text_of_line n [] = Ok []
text_of_lines text_of_line n (line ∷ lines) = do
  text ← text_of_line n line
  rest ← text_of_lines text_of_line (n + 1) lines
  Ok (text ++ rest)

-- the rows of captured frames
abbrev pub decoded_text : NetOption → List ℕ → Result (List ℕ) CaptureErr
decoded_text option bytes = text_of_lines (row_of_line option) 1 (lines_of bytes)

-- the frames of rows
abbrev pub encoded_text : NetOption → List ℕ → Result (List ℕ) CaptureErr
encoded_text option bytes = text_of_lines (frame_of_line option) 1 (lines_of bytes)

-- rows in the form in which they are written
abbrev pub rows_in_form : NetOption → List ℕ → Result (List ℕ) CaptureErr
rows_in_form option bytes = text_of_lines (row_in_form option) 1 (lines_of bytes)
