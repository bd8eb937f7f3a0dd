use Rattle.capture_text.proofs.ReadingLemmas.{row_is_read}
use Rattle.capture_text.proofs.row.row_for.Goals as goal

pub returns-clause-read_back : goal.returns-clause-read_back
returns-clause-read_back c =
    row_is_read c.args.option c.args.pdu.now c.put_digits.ensures.size c.put_digits.ensures.octets c.requires c.put_behind.ensures.octets
