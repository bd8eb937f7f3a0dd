-- The agreed bound: high levels, element by element, and no bound where lines bear on one another in a circle.
use Rattle.std.proofs.Common.{◌≡◌, ◌<◌, ◌≤◌, ◌+◌, ◌⊎◌, ℕ, min, length, Some, slice_get, refl, sym, ap, ◌∙◌, inl, inr, arith}
use Rattle.std.specs.Prelude.{IsTrue}
use Rattle.std.proofs.lemmas.Bool.{cases_lt}
use Rattle.sync_ql.specs.Level.{place_of}
use Rattle.sync_ql.specs.Table.{levels_of}
use Rattle.sync_topo.specs.declared.element.Element.{Element}
use Rattle.sync_topo.specs.declared.returns.ReturnRule.TheVariants.{BarredFromLast}
use Rattle.sync_topo.specs.Topology.{Topology}
use Rattle.sync_topo.specs.Lines.{IsNominated}
use Rattle.sync_topo.specs.Hops.{bears_on}
use Rattle.sync_topo.proofs.HopLaws.{hop-meets}
use Rattle.net_rules.specs.Settings.{own_level}
use Rattle.reach_rules.specs.Agreement.{IsHighCount}
use Rattle.cycle_plan.specs.private.Agreed.{IsHighBelow}

-- one element more
pub high-more : (plan : Topology) (n high : ℕ) (element : Element) → slice_get plan.elements n ≡ Some element → place_of element.own < length (levels_of plan.option)
    → IsHighBelow plan n high → IsHighBelow plan (n + 1) (min high (place_of element.own))
high-more plan n high element here row before = record {
  most = λ other low. elim (cases_lt other n) [
    | inl less ↦ let m = before.most other less in omega (arith, m)
    | inr not_less ↦
        let same : n ≡ other = omega (arith, low, not_less) in
        let own_other : place_of (own_level plan other) ≡ place_of element.own = ap (λ e. place_of (own_level plan e)) (sym same) ∙ own in
        omega (arith, own_other)
  ];
  reached = lesser (cases_lt (place_of element.own) high);
  within = let w = before.within in omega (arith, w);
}
  where
    own : place_of (own_level plan n) ≡ place_of element.own
    own = rw here refl

    lesser : (place_of element.own < high) ⊎ (high ≤ place_of element.own)
        → (min high (place_of element.own) ≡ length (levels_of plan.option)) ⊎ ((other : ℕ) × (other < n + 1) × (min high (place_of element.own) ≡ place_of (own_level plan other)))
    lesser (inl less) = let e : min high (place_of element.own) ≡ place_of element.own = omega (arith, less) in
        inr (n, omega arith, e ∙ sym own)
    lesser (inr more) = let e : min high (place_of element.own) ≡ high = omega (arith, more) in
        elim before.reached [
          | inl all ↦ inl (e ∙ all)
          | inr one ↦ inr (one.0, omega (arith, one.1), e ∙ one.2)
        ]

-- over all elements
pub high-all : (plan : Topology) (high : ℕ) → IsHighBelow plan (length plan.elements) high → IsHighCount plan high
high-all plan high all = record {
  high = λ place less element within. let m = all.most element within in omega (arith, less, m);
  all = λ place row is_high. elim all.reached [
    | inl every ↦ omega (arith, row, every)
    | inr one ↦ let h = is_high one.0 one.1 in omega (arith, h, one.2)
  ];
  within = all.within;
}

-- what bears on another line is nominated, and so is that one
pub bears-nominates : (plan : Topology) (line next : ℕ) → IsTrue (bears_on plan line next) → IsNominated plan next
bears-nominates plan line next bears = (hop-meets BarredFromLast plan line next bears).to
