-- That `agree` has one answer.
use Rattle.std.proofs.Common.{◌≡◌, ◌≤◌, ℕ, List, sym, subst, ◌∙◌, ap, inl, inr, arith}
use Rattle.std.specs.Prelude.{codes}
use Rattle.std.proofs.lemmas.Bool.{cases_lt}
use Rattle.sync_topo.specs.Topology.{Topology}
use Rattle.sync_topo.specs.Hops.{bears_on}
use Rattle.sync_topo.specs.Ranks.{IsFirstCycle}
use Rattle.net_rules.specs.Settling.{IsGreatest, IsDelay, IsRankOver, IsWait}
use Rattle.reach_rules.specs.Agreement.{IsHighCount, IsAgreedBound, agreed_in}
use Rattle.reach_rules.specs.Failing.{is_planned}
use Rattle.reach_rules.proofs.FailingLaws.{only-one}
use Rattle.cycle_plan.proofs.AgreedLemmas.{bears-nominates}
use Rattle.cycle_plan.proofs.BoundLemmas.{cyclic-none}
use Rattle.cycle_plan.proofs.OneCycle.{one_cycle}
use Rattle.sync_sweep.proofs.OneOutcome.{one-greatest}
use Rattle.plan_texts.specs.Lines.{lines_text}
use Rattle.plan_texts.specs.Bounds.{agreed_text}
use Rattle.sync_top.specs.Forms.Agree.{IsBoundText, IsClashText, IsAgreedText}
use Rattle.sync_top.proofs.OneEnd.{IsOne, one-refuted}

-- so many levels are high
not-more : (plan : Topology) (one other : ℕ) → IsHighCount plan one → IsHighCount plan other → one ≤ other
not-more plan one other first second = elim (cases_lt other one) [
  | inr fits ↦ fits
  | inl less ↦
      let within = first.within in
      let again = second.all other (omega (arith, less, within)) (first.high other less) in
      absurd (omega (arith, again))
]

-- a plan has one agreed bound
one-bound : (plan : Topology) (one other : ℕ) → IsAgreedBound plan one → IsAgreedBound plan other → one ≡ other
one-bound plan one other first second =
    let delay = one-greatest (IsDelay plan) first.delay second.delay first.greatest_delay second.greatest_delay in
    let rank = one-greatest (IsRankOver (bears_on plan) plan) first.rank second.rank first.greatest_rank second.greatest_rank in
    let longest = subst (λ d. IsGreatest (IsWait plan d) first.wait) delay first.greatest_wait in
    let wait = one-greatest (IsWait plan second.delay) first.wait second.wait longest second.greatest_wait in
    let high : first.high ≡ second.high =
    omega (arith, not-more plan first.high second.high first.are_high second.are_high, not-more plan second.high first.high second.are_high first.are_high) in
    first.is
    ∙ ap (λ w. agreed_in w first.high first.rank first.delay) wait
    ∙ ap (λ h. agreed_in second.wait h first.rank first.delay) high
    ∙ ap (λ r. agreed_in second.wait second.high r first.delay) rank
    ∙ ap (λ d. agreed_in second.wait second.high second.rank d) delay
    ∙ sym second.is

-- both bounds are fixed, so the text is
one-text : (plan : Topology) (text another : List ℕ) → IsBoundText plan text → IsBoundText plan another → text ≡ another
one-text plan text another first second =
    first.is
    ∙ ap (λ bound. agreed_text bound first.failures) (one-bound plan first.bound second.bound first.agreed second.agreed)
    ∙ ap (agreed_text second.bound) (only-one (is_planned plan) plan first.failures second.failures first.well_formed first.failed second.failed)
    ∙ sym second.is

not-both : (plan : Topology) (bound : ℕ) (lines : List ℕ) → IsAgreedBound plan bound → IsFirstCycle (bears_on plan) lines → ⊥
not-both plan bound lines agreed first = cyclic-none (bears_on plan) plan lines (bears-nominates plan) first agreed.ranked

-- one thing is found
pub one_agreed : (plan : Topology) → IsOne (IsAgreedText plan)
one_agreed plan =
    one-refuted (IsBoundText plan) (IsClashText plan) (one-text plan)
    (λ text another one two. one.2 ∙ ap (lines_text (codes "clash") plan) (one_cycle (bears_on plan) one.0 two.0 one.1 two.1) ∙ sym two.2)
    (λ text another agrees clash. not-both plan agrees.bound clash.0 agrees.agreed clash.1)
