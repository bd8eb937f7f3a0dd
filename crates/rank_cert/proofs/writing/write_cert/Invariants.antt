use Rattle.rank_cert.specs.private.Written.{AreWritten}
use Rattle.rank_cert.proofs.writing.write_cert.Given as goal

abbrev pub invariant-loop-number : goal.invariant-loop-number
invariant-loop-number l = AreWritten l.plan l.cert l.number l.text
