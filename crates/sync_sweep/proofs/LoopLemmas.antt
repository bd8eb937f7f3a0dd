-- There are no more closed walks than lines.
use Rattle.std.proofs.Common.{ℕ, suc, ◌-◌, ◌<◌, ◌≤◌, List, [], ◌∷◌, length, subst, arith}
use Rattle.std.specs.Prelude.{IfSome}
use Rattle.sync_text.proofs.Each.{Each-map}
use Rattle.sync_text.specs.Each.{Each}
use Rattle.sync_topo.specs.Topology.{Topology}
use Rattle.sync_topo.specs.Lines.{line_count, line_input, receiver_of}
use Rattle.net_rules.specs.Inputs.{IsInputOf}
use Rattle.net_rules.specs.Walks.{Taken, IsClosedWalk}
use Rattle.closed_walks.specs.Loops.{first_line, IsLoop, AreInOrder, AreLoops}

-- first lines that rise, from one number up to but not at another
rising-few : (n from : ℕ) (walks : List (List ℕ)) → Each (λ walk. from ≤ first_line walk) walks → Each (λ walk. first_line walk < n) walks → AreInOrder walks
    → length walks ≤ n - from
rising-few n from [] low high order = omega arith
rising-few n from (walk ∷ walks) low high order =
    let rest : length walks ≤ n - suc (first_line walk) =
    rising-few n (suc (first_line walk)) walks
    (Each-map (λ other. first_line walk < first_line other) (λ other. suc (first_line walk) ≤ first_line other) (λ other later. omega (arith, later)) walks order.0)
    high.1 order.1 in
    omega (arith, rest, low.0, high.0)

-- the first line of a closed walk is one of the plan
first-within : (plan : Topology) (taken : Taken) → ((element : ℕ) → IfSome (taken element) (IsInputOf plan element)) → (walk : List ℕ) → IsClosedWalk plan taken walk
    → first_line walk < line_count plan
first-within plan taken own [] walk = absurd walk
first-within plan taken own (first ∷ rest) walk =
    let input : IsInputOf plan (receiver_of plan first) (line_input first) =
    subst (λ o. IfSome o (IsInputOf plan (receiver_of plan first))) walk.each_taken.0 (own (receiver_of plan first)) in
    input.has

pub loops-few : (plan : Topology) (taken : Taken) (walks : List (List ℕ)) → ((element : ℕ) → IfSome (taken element) (IsInputOf plan element)) → AreLoops plan taken walks
    → length walks ≤ line_count plan
loops-few plan taken walks own loops =
    let few : length walks ≤ line_count plan - 0 =
    rising-few (line_count plan) 0 walks
    (Each-map (IsLoop plan taken) (λ walk. 0 ≤ first_line walk) (λ walk loop. omega arith) walks loops.each)
    (Each-map (IsLoop plan taken) (λ walk. first_line walk < line_count plan) (λ walk loop. first-within plan taken own walk loop.0) walks loops.each)
    loops.in_order in
    omega (arith, few)
