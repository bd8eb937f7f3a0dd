use Rattle.rank_cert.specs.private.FirstFall.{IsFirstBelow}
use Rattle.rank_cert.proofs.rising.check_with.Given as goal

abbrev pub invariant-loop-number : goal.invariant-loop-number
invariant-loop-number l = IsFirstBelow l.returns l.plan l.cert l.number l.first
