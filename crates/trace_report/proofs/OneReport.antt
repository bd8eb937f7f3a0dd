-- A plan, its events and a last millisecond have one report.
use Rattle.std.proofs.Common.{◌≡◌, ℕ, suc, Bool, true, false, IsTrue, List, ◌++◌, refl, sym, ap, ◌∙◌}
use Rattle.sync_topo.specs.declared.event.Event.{Event}
use Rattle.sync_topo.specs.Topology.{Topology}
use Rattle.net_rules.specs.Signals.{signals_by}
use Rattle.net_rules.specs.History.{out_at}
use Rattle.net_rules.specs.Safety.{taken_in}
use Rattle.net_rules.specs.Walks.{Taken, TraceEnd, IsTrace}
use Rattle.closed_walks.proofs.OneList.{one-loops}
use Rattle.closed_walks.proofs.OneEndings.{one-endings}
use Rattle.event_sim.specs.Rows.{rows_until}
use Rattle.trace_report.specs.LastParts.{AreLastParts, traces_part, loops_part, settled_part}
use Rattle.trace_report.specs.Report.{IsWholeReport, changes_part, inputs_part, conditions_at}

module _ (one_trace : (plan : Topology) (taken : Taken) (element : ℕ) (lines others : List ℕ) (end other : TraceEnd)
    → IsTrace plan taken element lines end → IsTrace plan taken element others other → (lines ≡ others) × (end ≡ other)) where
  same-truth : (P : Type 0) (one other : Bool) → (IsTrue one → P) × (P → IsTrue one) → (IsTrue other → P) × (P → IsTrue other) → one ≡ other
  same-truth P true true first second = refl
  same-truth P false false first second = refl
  same-truth P true false first second = sym (second.1 (first.0 refl))
  same-truth P false true first second = first.1 (second.0 refl)

  one-last : (plan : Topology) (events : List Event) (t : ℕ) (text another : List ℕ) → AreLastParts plan events t text → AreLastParts plan events t another → text ≡ another
  one-last plan events t text another first second =
      let taken = taken_in plan (signals_by plan events) (out_at plan (signals_by plan events)) t in
      let endings = one-endings one_trace plan taken first.endings second.endings first.are_endings second.are_endings in
      let walks = one-loops plan taken first.walks second.walks first.are_loops second.are_loops in
      let settled = same-truth _ first.settled second.settled first.is_settled second.is_settled in
      first.is
      ∙ ap (λ e. traces_part plan e ++ loops_part plan first.walks ++ settled_part first.settled) endings
      ∙ ap (λ w. traces_part plan second.endings ++ loops_part plan w ++ settled_part first.settled) walks
      ∙ ap (λ s. traces_part plan second.endings ++ loops_part plan second.walks ++ settled_part s) settled
      ∙ sym second.is

  pub one-report : (plan : Topology) (events : List Event) (until : ℕ) (text another : List ℕ) → IsWholeReport plan events until text → IsWholeReport plan events until another → text ≡ another
  one-report plan events until text another first second =
      first.2 ∙ ap (λ last. changes_part plan (rows_until plan events (suc until)) ++ inputs_part plan (conditions_at plan events until) ++ last) (one-last plan events until first.0 second.0 first.1 second.1) ∙ sym second.2
