use Rattle.csv_records.specs.Records.{records_of}
use Rattle.rank_cert.proofs.RuleLaws.{refused-from, refuses-from, named-from, accepted-from, accepts-from}
use Rattle.rank_cert.proofs.reading.read_cert.Goals as goal

pub returns-clause-refused : goal.returns-clause-refused
returns-clause-refused c = refused-from c.args.plan.now (records_of c.args.bytes.now) c.cert_of.result (rw c.of-records.ensures.left at c.cert_of.ensures.exact)

pub returns-clause-refuses : goal.returns-clause-refuses
returns-clause-refuses c = refuses-from c.args.plan.now (records_of c.args.bytes.now) c.cert_of.result (rw c.of-records.ensures.left at c.cert_of.ensures.exact)

pub returns-clause-named : goal.returns-clause-named
returns-clause-named c = named-from c.args.plan.now (records_of c.args.bytes.now) c.cert_of.result (rw c.of-records.ensures.left at c.cert_of.ensures.exact)

pub returns-clause-accepted : goal.returns-clause-accepted
returns-clause-accepted c = accepted-from c.args.plan.now (records_of c.args.bytes.now) c.cert_of.result (rw c.of-records.ensures.left at c.cert_of.ensures.exact)

pub returns-clause-accepts : goal.returns-clause-accepts
returns-clause-accepts c = accepts-from c.args.plan.now (records_of c.args.bytes.now) c.cert_of.result (rw c.of-records.ensures.left at c.cert_of.ensures.exact)
