use Rattle.std.proofs.Common.{sym}
use Rattle.node_file.proofs.TopicLemmas.{happens_there}
use Rattle.node_file.proofs.reading.event_said.Goals as goal

pub returns-in-Some-clause-fits : goal.returns-in-Some-clause-fits
returns-in-Some-clause-fits c plan element option topic = (
  happens_there plan element c.args.option c.args.said c.args.value.now c.in-Some.what topic.0 (sym c.in-Some.ensures.what),
  c.in-Some.ensures.fits plan option topic.1,
)
