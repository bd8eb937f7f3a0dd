-- What is counted of endings that were found.
use Rattle.std.proofs.Common.{◌≡◌, ◌<◌, ℕ, List, length, map, Option, Some, ap, sym, subst, ◌∙◌, arith}
use Rattle.std.proofs.lemmas.List.{length-map}
use Rattle.sync_topo.specs.Topology.{Topology}
use Rattle.sync_topo.specs.WellFormed.{IsWellFormed}
use Rattle.net_rules.specs.Walks.{Taken}
use Rattle.closed_walks.specs.declared.traced.Ending.{Ending}
use Rattle.closed_walks.specs.Traces.{end_of, EndsSo, AreFound}
use Rattle.closed_walks.specs.private.Known.{IsKnown}
use Rattle.closed_walks.proofs.KnownLaws.{found-known}
use Rattle.closed_walks.proofs.FollowLaws.{same-trace}
use Rattle.timings.specs.declared.counted.Timing.{Timing}
use Rattle.timings.specs.Timing.{IsCounted, IsTiming}

-- where the same is taken, the timing is the same
pub timing-same : (plan : Topology) (taken others : Taken) (timing : Timing) → ((k : ℕ) → taken k ≡ others k) → IsTiming plan taken timing → IsTiming plan others timing
timing-same plan taken others timing same is = record {
  endings = is.endings;
  are_endings = record {
    count = is.are_endings.count;
    each = λ element ending at.
        let ends : EndsSo plan taken element ending = is.are_endings.each element ending at in
        (ends.0, ends.1, same-trace plan taken others element ends.0 (end_of ending.end) same ends.2);
  };
  counted = is.counted;
}

-- as many endings are found as there are elements
pub found-length : (plan : Topology) (taken : Taken) (known : List (Option Ending)) → AreFound plan taken known → length known ≡ length plan.elements
found-length plan taken known found = sym (ap length found.is) ∙ length-map found.endings Some ∙ found.are.count

-- and so they are counted
pub found-timing : (plan : Topology) (taken : Taken) (known : List (Option Ending)) (timing : Timing) → AreFound plan taken known
    → ((endings : List Ending) → map Some endings ≡ known → IsCounted endings timing) → IsTiming plan taken timing
found-timing plan taken known timing found counted = record {
  endings = found.endings;
  are_endings = found.are;
  counted = counted found.endings found.is;
}

-- there are few of them, and all are known
pub found-few : (plan : Topology) (taken : Taken) (known list : List (Option Ending)) → AreFound plan taken known → IsWellFormed plan → list ≡ known → length list < 4294967296
found-few plan taken known list found well same =
    let few = well.few_elements in
    omega (arith, ap length same, found-length plan taken known found, few)

pub found-all : (plan : Topology) (taken : Taken) (known list : List (Option Ending)) → AreFound plan taken known → list ≡ known → (element : ℕ) → element < length list → IsKnown list element
found-all plan taken known list found same = subst (λ xs. (element : ℕ) → element < length xs → IsKnown xs element) (sym same) (found-known plan taken known found)
