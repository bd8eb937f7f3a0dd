use Rattle.nominate.proofs.CertLaws.{AreRankedTo}
use Rattle.nominate.proofs.certificate.order_cert.Given as goal

abbrev pub invariant-loop-number : goal.invariant-loop-number
invariant-loop-number l = AreRankedTo l.plan l.priorities.items l.places.items l.number l.cert
