use Rattle.capture_text.proofs.ReadingLemmas.{named_is}
use Rattle.capture_text.proofs.row.put_row.Goals as goal

pub returns-clause-same : goal.returns-clause-same
returns-clause-same c = named_is c.args.option c.args.pdu.now
