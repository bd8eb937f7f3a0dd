-- A line that is the frame's is read as the frame is.
use Rattle.std.proofs.Common.{ap, sym, ◌∙◌}
use Rattle.std.proofs.lemmas.Slice.Eq.{bytes_eq-Decides}
use Rattle.capture_text.specs.Capture.{carried_at}
use Rattle.capture_text.proofs.plain.Plain.of_frame.Goals as goal

pub returns-then-eq : goal.returns-then-eq
returns-then-eq c n =
    let same = (bytes_eq-Decides c.bytes.result.now c.args.line.now).0 (sym c.if-eq.ensures) in
    ap (carried_at n) (sym same ∙ c.bytes.ensures) ∙ c.frame.ensures.carried n
