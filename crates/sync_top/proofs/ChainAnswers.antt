-- That `chains` has one answer.
use Rattle.std.proofs.Common.{sym, ◌∙◌, ap}
use Rattle.sync_topo.specs.declared.returns.ReturnRule.TheVariants.{Barred}
use Rattle.sync_topo.specs.Topology.{Topology}
use Rattle.sync_topo.specs.Hops.{hops}
use Rattle.reach_rules.proofs.ChainLaws.{one-list}
use Rattle.cycle_plan.proofs.CycleLaws.{IsCycle-first}
use Rattle.cycle_plan.proofs.OneCycle.{one_cycle}
use Rattle.plan_texts.specs.Lines.{cycle_text}
use Rattle.plan_texts.specs.Chains.{chains_text}
use Rattle.sync_top.specs.Forms.Rank.{IsCycleText}
use Rattle.sync_top.specs.Forms.Chains.{IsChainsText, IsChained}
use Rattle.sync_top.proofs.OneEnd.{IsOne, one-refuted}

-- one thing is found
pub one_chained : (plan : Topology) → IsOne (IsChained plan)
one_chained plan =
    one-refuted (IsChainsText plan) (IsCycleText plan)
    (λ text another one two. one.1.2 ∙ ap (chains_text plan) (one-list plan one.1.0 two.1.0 one.1.1 two.1.1) ∙ sym two.1.2)
    (λ text another one two. one.2 ∙ ap (cycle_text plan) (one_cycle (hops plan) one.0 two.0 one.1 two.1) ∙ sym two.2)
    (λ text another chains cycle. chains.0 cycle.0 (IsCycle-first Barred plan cycle.0 cycle.1))
