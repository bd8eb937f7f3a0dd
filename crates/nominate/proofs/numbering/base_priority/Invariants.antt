use Rattle.std.proofs.Common.{◌≡◌, map, drop}
use Rattle.std.specs.Prelude.{max}
use Rattle.nominate.specs.Nomination.{greatest_of}
use Rattle.nominate.specs.private.Numbering.{own_priority}
use Rattle.nominate.proofs.numbering.base_priority.Given as goal

abbrev pub invariant-loop-input : goal.invariant-loop-input
invariant-loop-input l = max l.greatest (greatest_of (map (own_priority l.plan) (drop l.input-index l.input-items))) ≡ greatest_of (map (own_priority l.plan) l.input-items)
