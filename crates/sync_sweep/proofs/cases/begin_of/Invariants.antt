use Rattle.std.proofs.Common.{◌≤◌, take}
use Rattle.sync_sweep.specs.private.Cases.{NoneBefore}
use Rattle.sync_sweep.proofs.cases.begin_of.Given as goal

-- nothing happens before it in the cases behind
abbrev pub invariant-loop-case : goal.invariant-loop-case
invariant-loop-case l = record {
  up_to : l.begin ≤ l.until;
  none : NoneBefore l.begin (take l.case-index l.cases);
}
