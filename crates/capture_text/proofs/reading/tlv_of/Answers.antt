-- Where a fifth field stands, the fields are those of no extended QL TLV.
use Rattle.capture_text.proofs.ReadingLemmas.{cut_off, more_than_four}
use Rattle.capture_text.proofs.reading.tlv_of.Goals as goal

pub returns-in-Some : goal.returns-in-Some
returns-in-Some c =
    let text = c.args.fields.now in
    let one = c.in_ok-rest.field-0 in
    let two = c.in_ok-rest-2.field-0 in
    let three = c.in_ok-rest-3.field-0 in
    let four = c.in-Some.field-0 in
    more_than_four c.args.enhanced text c.cut_at.result.0.now c.cut_at-2.result.0.now c.cut_at-3.result.0.now c.cut_at-4.result.0.now one.now two.now three.now four.now
    (cut_off text _ _ one c.cut_at.ensures.parts c.in_ok-rest.was)
    (cut_off one.now _ _ two c.cut_at-2.ensures.parts c.in_ok-rest-2.was)
    (cut_off two.now _ _ three c.cut_at-3.ensures.parts c.in_ok-rest-3.was)
    (cut_off three.now _ _ four c.cut_at-4.ensures.parts c.in-Some.is)
