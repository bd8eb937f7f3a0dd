-- A line's frame goes to the text before it. Where no line is left, the text is that of all lines, and so it is decoded
-- to the rows.
use Rattle.std.proofs.Common.{◌≡◌, ◌+◌, ◌∙◌, sym, subst}
use Rattle.capture_text.specs.Lines.{lines_of}
use Rattle.capture_text.specs.Capture.{frame_of_line, text_of_lines, encoded_text}
use Rattle.capture_text.specs.private.Steps.{with_front}
use Rattle.capture_text.proofs.TextLemmas.{with_line, all_lines}
use Rattle.capture_text.proofs.RoundTrip.{encoded_is_decoded}
use Rattle.capture_text.proofs.capture.encode_rows.Goals as goal

pub returns-clause-decoded : goal.returns-clause-decoded
returns-clause-decoded c =
    let whole = rw c.in_default.ensures.none at c.loop-number.invariant in
    encoded_is_decoded c.args.option (lines_of c.args.bytes.now) c.loop-number.text (all_lines c.loop-number.text (encoded_text c.args.option c.args.bytes.now) whole)

pub loop-number-preserved : goal.loop-number-preserved
loop-number-preserved c =
    let before = rw (c.in-Some.ensures.line, ← c.in-Some.ensures.number) at c.loop-number.invariant in
    let put = with_line (frame_of_line c.args.option) c.in-Some.number c.in-Some.line.now c.next_line.new.self.lines c.loop-number.text c.put_frame_of.new.text c.in_ok-put_frame_of.ensures in
    subst (λ n. with_front c.put_frame_of.new.text (text_of_lines (frame_of_line c.args.option) (n + 1) c.next_line.new.self.lines) ≡ encoded_text c.args.option c.args.bytes.now)
    c.in-Some.ensures.counts (sym put ∙ before)
