use Rattle.std.proofs.Common.{◌≡◌, drop}
use Rattle.plan_texts.specs.private.HopRows.{first_source}
use Rattle.plan_texts.proofs.hops.first_source.Given as goal

abbrev pub invariant-loop-input : goal.invariant-loop-input
invariant-loop-input l = first_source (drop l.input-index l.inputs) ≡ first_source l.inputs
