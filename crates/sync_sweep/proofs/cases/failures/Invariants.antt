use Rattle.std.proofs.Common.{◌≡◌, length}
use Rattle.std.specs.List.{AllZip, range_with_len}
use Rattle.sync_sweep.specs.Sweep.{failure}
use Rattle.sync_sweep.proofs.cases.failures.Given as goal

abbrev pub invariant-loop-link : goal.invariant-loop-link
invariant-loop-link l = record {
  cases : AllZip (λ link case. case.events ≡ failure l.at link) (range_with_len 0 l.link) l.cases;
  count : length l.cases ≡ l.link;
}
