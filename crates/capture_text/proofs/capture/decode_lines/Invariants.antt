use Rattle.std.proofs.Common.{◌≡◌, ◌+◌, length}
use Rattle.capture_text.specs.Capture.{row_of_line, text_of_lines, decoded_text}
use Rattle.capture_text.specs.private.Steps.{with_front}
use Rattle.capture_text.proofs.capture.decode_lines.Given as goal

-- the text so far with that of the lines left is the whole text
abbrev pub invariant-loop-number : goal.invariant-loop-number
invariant-loop-number l =
    with_front l.text (text_of_lines (row_of_line l.option) (l.lines.number + 1) l.lines.lines) ≡ decoded_text l.option l.fn.bytes

abbrev pub decreases-loop-number : goal.decreases-loop-number
decreases-loop-number l = length l.lines.lines
