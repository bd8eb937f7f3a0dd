use Rattle.std.proofs.Common.{◌≡◌, drop}
use Rattle.rank_cert.specs.private.FirstFall.{first_among}
use Rattle.rank_cert.proofs.rising.first_to.Given as goal

abbrev pub invariant-loop-input : goal.invariant-loop-input
invariant-loop-input l =
    first_among l.returns l.plan l.cert l.next.0 (drop l.input-index l.inputs) ≡ first_among l.returns l.plan l.cert l.next.0 l.inputs
