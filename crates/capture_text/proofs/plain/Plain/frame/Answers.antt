-- The parts are the digits of the frame, which is read as what it carries.
use Rattle.std.proofs.Common.{ap, subst, ◌≡◌, Ok, ◌∙◌}
use Rattle.hex.specs.Hex.{encode_lower}
use Rattle.esmc_frame.specs.Frame.{written_frame}
use Rattle.capture_text.specs.Capture.{carried_at}
use Rattle.capture_text.proofs.PlainLemmas.{frame_by_parts, plain_carried}
use Rattle.capture_text.proofs.plain.Plain.frame.Goals as goal

pub returns-clause-digits : goal.returns-clause-digits
returns-clause-digits c =
    let whole = frame_by_parts c.self.inside.source.now c.self.inside.event c.self.inside.code c.self.invariant.0 c.self.invariant.1 in
    rw (c.put-7.ensures.put, c.put-6.ensures.put, c.put-5.ensures.put, c.put-4.ensures.put, c.flag_digits.ensures, c.put-3.ensures.put, c.put-2.ensures.put, c.put.ensures.put, c.new-line.ensures)
    (whole ∙ ap (λ pdu. encode_lower (written_frame pdu)) c.self.view_is)

pub returns-clause-carried : goal.returns-clause-carried
returns-clause-carried c n =
    let reads = plain_carried c.self.inside.source.now c.self.inside.event c.self.inside.code c.self.invariant.0 c.self.invariant.1 n in
    ap (carried_at n) (returns-clause-digits c) ∙ subst (λ pdu. carried_at n (encode_lower (written_frame pdu)) ≡ Ok pdu) c.self.view_is reads
