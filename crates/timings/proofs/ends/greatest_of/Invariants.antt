use Rattle.std.proofs.Common.{◌≡◌, ◌<◌, ◌≤◌, ◌⊎◌, ℕ}
use Rattle.std.specs.Prelude.{Some, slice_get}
use Rattle.timings.specs.private.Ends.{IsNumberIn}
use Rattle.timings.proofs.ends.greatest_of.Given as goal

-- none behind is greater
abbrev pub invariant-loop-number : goal.invariant-loop-number
invariant-loop-number l = record {
  most : (k n : ℕ) → k < l.number-index → slice_get l.numbers k ≡ Some n → n ≤ l.greatest;
  reached : (l.greatest ≡ 0) ⊎ IsNumberIn l.numbers l.greatest;
}
