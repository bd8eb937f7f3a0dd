-- A trial of a plan has one text.
use Rattle.std.proofs.Common.{◌≡◌, ℕ, suc, Bool, true, false, List, refl, sym, ap, ◌∙◌, inl, inr, arith}
use Rattle.std.specs.Prelude.{◌↔◌, IsTrue}
use Rattle.sync_topo.specs.declared.event.Event.{Event}
use Rattle.sync_topo.specs.Topology.{Topology}
use Rattle.net_rules.specs.Settling.{IsRank}
use Rattle.event_sim.specs.declared.change.Change.{Change}
use Rattle.event_sim.specs.Rows.{rows_until}
use Rattle.sync_top.specs.declared.trial.TheConstants.{TRIAL_END}
use Rattle.sync_top.specs.Forms.Trial.{AreReportRows, IsTrialText, IsSettledAt, trial_events, trial_text}
use Rattle.sync_sweep.proofs.OneOutcome.{one-greatest}
use Rattle.sync_top.proofs.LastFits.{one_last}

-- a run has one list of rows that its report has
one_rows : (plan : Topology) (events : List Event) (until : ℕ) (rows others : List Change) → AreReportRows plan events until rows
    → AreReportRows plan events until others → rows ≡ others
one_rows plan events until rows others first second = elim first [
  | inl all ↦ elim second [
    | inl also ↦ all.1 ∙ sym also.1
    | inr some ↦ absurd (omega (arith, all.0, some.1.all))
  ]
  | inr some ↦ elim second [
    | inl all ↦ absurd (omega (arith, all.0, some.1.all))
    | inr also ↦ some.2 ∙ ap (λ t. rows_until plan events (suc t)) (one_last plan events until some.0 also.0 some.1 also.1) ∙ sym also.2
  ]
]

-- two tests of one fact are alike
one_test : (P : Type 0) (test other : Bool) → IsTrue test ↔ P → IsTrue other ↔ P → test ≡ other
one_test P true true first second = refl
one_test P false false first second = refl
one_test P true false first second = sym (second.1 (first.0 refl))
one_test P false true first second = first.1 (second.0 refl)

pub one_trial_text : (n : ℕ) (plan : Topology) (text another : List ℕ) → IsTrialText n plan text → IsTrialText n plan another → text ≡ another
one_trial_text n plan text another first second =
    let top = one-greatest (IsRank plan) first.top second.top first.greatest second.greatest in
    let rows = one_rows plan trial_events TRIAL_END first.rows second.rows first.are_rows second.are_rows in
    let settled = one_test (IsSettledAt plan trial_events TRIAL_END) first.settled second.settled first.is_settled second.is_settled in
    first.is
    ∙ ap (λ t. trial_text n plan t first.rows first.settled) top
    ∙ ap (λ r. trial_text n plan second.top r first.settled) rows
    ∙ ap (λ s. trial_text n plan second.top second.rows s) settled
    ∙ sym second.is
