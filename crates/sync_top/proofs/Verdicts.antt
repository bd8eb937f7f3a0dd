-- That a test of ranks has one verdict over any test of hops.
use Rattle.std.proofs.Common.{◌≡◌, ℕ, List, sym, ◌∙◌, ap, inl, inr, arith}
use Rattle.sync_topo.specs.declared.returns.ReturnRule.{ReturnRule}
use Rattle.sync_topo.specs.Topology.{Topology}
use Rattle.sync_topo.specs.Hops.{hops_by}
use Rattle.sync_topo.specs.Ranks.{HopTest, IsFirstCycle, Rises as HopsRise}
use Rattle.net_rules.proofs.WalkLaws.{no_cycle}
use Rattle.rank_cert.specs.Ranks.{Ranks, rank_of, IsFirstFallOver}
use Rattle.cycle_plan.proofs.CycleLaws.{IsCycle-first}
use Rattle.plan_texts.specs.Lines.{falls_text}
use Rattle.sync_top.specs.Forms.Check.{IsRiseText, IsFallText, IsVerdictOver}
use Rattle.sync_top.proofs.OneEnd.{IsOne, one-refuted}

-- there is one first fall
one_fall : (hop : HopTest) (ranks : Ranks) (from to other after : ℕ) → IsFirstFallOver hop ranks from to → IsFirstFallOver hop ranks other after
    → (from ≡ other) × (to ≡ after)
one_fall hop ranks from to other after one two =
    elim (one.first other after two.hops_on two.falls) [
      | inl before ↦ elim (two.first from to one.hops_on one.falls) [
        | inl behind ↦ absurd (omega (arith, before, behind))
        | inr behind ↦ absurd (omega (arith, before, behind.0))
      ]
      | inr before ↦ elim (two.first from to one.hops_on one.falls) [
        | inl behind ↦ absurd (omega (arith, before.0, behind))
        | inr behind ↦ (before.0, omega (arith, before.1, behind.1))
      ]
    ]

-- ranks that rise fall nowhere
no_fall : (hop : HopTest) (ranks : Ranks) (from to : ℕ) → HopsRise hop (rank_of ranks) → IsFirstFallOver hop ranks from to → ⊥
no_fall hop ranks from to rising fall =
    let less = rising from to fall.hops_on in omega (arith, less, fall.falls)

-- there is one verdict
pub one_verdict : (hop : HopTest) (plan : Topology) (ranks : Ranks) → IsOne (IsVerdictOver hop plan ranks)
one_verdict hop plan ranks =
    one-refuted (IsRiseText hop ranks) (IsFallText hop plan ranks)
    (λ text another one two. one.1 ∙ sym two.1)
    (λ text another one two.
    let same = one_fall hop ranks _ _ _ _ one.2 two.2 in
    one.3 ∙ ap (λ l. falls_text plan l one.1) same.0 ∙ ap (λ l. falls_text plan two.0 l) same.1 ∙ sym two.3)
    (λ text another rises falls. no_fall hop ranks _ _ rises.0 falls.2)

-- where ranks rise there is no first cycle
pub no_first_cycle : (returns : ReturnRule) (plan : Topology) (ranks : Ranks) (lines : List ℕ) → HopsRise (hops_by returns plan) (rank_of ranks)
    → IsFirstCycle (hops_by returns plan) lines → ⊥
no_first_cycle returns plan ranks lines rising cycle =
    no_cycle (hops_by returns plan) (rank_of ranks) rising lines (IsCycle-first returns plan lines cycle)
