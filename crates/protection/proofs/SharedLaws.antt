-- What a plan and one with other priorities of its lines have alike: the lines out of elements, and hop counts.
use Rattle.std.proofs.Common.{ℕ, zero, suc, ◌<◌, List, Option, None, Some, sym, subst, ◌∙◌}
use Rattle.std.specs.Prelude.{Vec}
use Rattle.std.specs.List.{All, Contains}
use Rattle.std.specs.declared.alloc.Global.{Global}
use Rattle.std.proofs.lemmas.List.Elements.{All-weaker}
use Rattle.sync_topo.specs.declared.input.LineId.{LineId}
use Rattle.sync_topo.specs.Topology.{Topology}
use Rattle.sync_topo.specs.Held.{held}
use Rattle.sync_topo.specs.Lines.{line_count, sender_of}
use Rattle.sync_topo.specs.Outputs.{IsOutput, AreOutputs}
use Rattle.nominate.specs.HopCount.{Counts, count_at, IsReachedIn, IsCountOf, AreHopCounts}
use Rattle.nominate.specs.Nomination.{plan_with}
use Rattle.nominate.proofs.PlanFacts.{lines-same, sender-same, receiver-same}
use Rattle.protection.specs.Orderly.{IsRenumbered}

outputs-same : (plan : Topology) (f : ℕ → ℕ) (outputs : List (Vec LineId Global)) → AreOutputs plan (line_count plan) outputs
    → AreOutputs (plan_with plan f) (line_count (plan_with plan f)) outputs
outputs-same plan f outputs are = record {
  counted = are.counted;
  only = λ element. All-weaker (IsOutput plan element) (IsOutput (plan_with plan f) element)
      (λ line is. record { within = subst (λ n. line.0 < n) (sym (lines-same plan f)) is.within; sent = sender-same plan f line.0 ∙ is.sent })
      (held outputs element) (are.only element);
  each = λ line low.
      subst (λ e. Contains (held outputs e) line) (sym (sender-same plan f line.0)) (are.each line (subst (λ n. line.0 < n) (lines-same plan f) low));
  below = λ element. subst (λ n. All (λ (line : LineId). line.0 < n) (held outputs element)) (sym (lines-same plan f)) (are.below element);
  rising = are.rising;
}

pub outputs-found : (plan found : Topology) (outputs : List (Vec LineId Global)) → IsRenumbered plan found → AreOutputs plan (line_count plan) outputs
    → AreOutputs found (line_count found) outputs
outputs-found plan found outputs is are = subst (λ p. AreOutputs p (line_count p) outputs) (sym is.1) (outputs-same plan is.0 outputs are)

-- walks are the plan's
pub walks-same : (plan : Topology) (f : ℕ → ℕ) (n element : ℕ) → IsReachedIn (plan_with plan f) n element → IsReachedIn plan n element
walks-same plan f zero element root = root
walks-same plan f (suc n) element (line, within, into, before) = (
  line,
  subst (λ k. line < k) (lines-same plan f) within,
  sym (receiver-same plan f line) ∙ into,
  subst (IsReachedIn plan n) (sender-same plan f line) (walks-same plan f n (sender_of (plan_with plan f) line) before),
)

pub walks-back : (plan : Topology) (f : ℕ → ℕ) (n element : ℕ) → IsReachedIn plan n element → IsReachedIn (plan_with plan f) n element
walks-back plan f zero element root = root
walks-back plan f (suc n) element (line, within, into, before) = (
  line,
  subst (λ k. line < k) (sym (lines-same plan f)) within,
  receiver-same plan f line ∙ into,
  subst (IsReachedIn (plan_with plan f) n) (sym (sender-same plan f line)) (walks-back plan f n (sender_of plan line) before),
)

-- and so are hop counts
counts-same : (plan : Topology) (f : ℕ → ℕ) (counts : Counts) → AreHopCounts plan counts → AreHopCounts (plan_with plan f) counts
counts-same plan f counts are = record {
  counted = are.counted;
  each = λ element inside. there element (count_at counts element) (are.each element inside);
}
  where
    there : (element : ℕ) (o : Option ℕ) → IsCountOf plan element o → IsCountOf (plan_with plan f) element o
    there element None none = λ links reached. none links (walks-same plan f links element reached)
    there element (Some hops) is = record {
      reached = walks-back plan f hops element is.reached;
      least = λ links reached. is.least links (walks-same plan f links element reached);
    }

pub counts-found : (plan found : Topology) (counts : Counts) → IsRenumbered plan found → AreHopCounts plan counts → AreHopCounts found counts
counts-found plan found counts is are = subst (λ p. AreHopCounts p counts) (sym is.1) (counts-same plan is.0 counts are)
