use Rattle.std.proofs.Common.{◌≡◌, ◌≤◌, Bool, take}
use Rattle.std.specs.List.{count_by}
use Rattle.timings.proofs.ends.count_of.Given as goal

-- those behind are counted
abbrev pub invariant-loop-one : goal.invariant-loop-one
invariant-loop-one l = record {
  counted : l.count ≡ count_by (λ (one : Bool). one) (take l.one-index l.set);
  few : l.count ≤ l.one-index;
}
