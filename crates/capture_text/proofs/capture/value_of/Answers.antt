-- A line is refused that gives no octets; of others the frame is read.
use Rattle.std.proofs.Common.{ap, sym, ◌∙◌}
use Rattle.capture_text.specs.Capture.{value_at}
use Rattle.capture_text.proofs.CarriedLemmas.{octets_carried, no_octets}
use Rattle.capture_text.proofs.capture.value_of.Goals as goal

pub returns-in_default-clause-value : goal.returns-in_default-clause-value
returns-in_default-clause-value c =
    no_octets c.args.number c.args.line.now (rw c.in_default.is at c.in_ok-octets.ensures)

pub returns-in-Ok-clause-value : goal.returns-in-Ok-clause-value
returns-in-Ok-clause-value c =
    octets_carried c.args.number c.args.line.now c.in-Some.octets.items (rw c.in-Some.is at c.in_ok-octets.ensures)
    ∙ ap (value_at c.args.number) (sym (rw c.as_slice.ensures.value at c.in-Ok.ensures.exact))

pub returns-clause-value : goal.returns-clause-value
returns-clause-value c =
    octets_carried c.args.number c.args.line.now c.in-Some.octets.items (rw c.in-Some.is at c.in_ok-octets.ensures)
    ∙ ap (value_at c.args.number) (sym (rw c.as_slice.ensures.value at c.in-Err.ensures.exact))
