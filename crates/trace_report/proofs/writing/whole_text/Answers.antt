use Rattle.std.proofs.Common.{◌≡◌, ◌+◌, ◌-◌, ◌++◌, ℕ, suc, ap, subst, sym, ◌∙◌, arith}
use Rattle.sync_net.specs.NetState.{NetState}
use Rattle.sync_net.specs.Standing as net
use Rattle.event_sim.specs.declared.change.Watch.{Watch}
use Rattle.event_sim.specs.Rows.{rows_until}
use Rattle.event_sim.specs.SimState.{first_after}
use Rattle.event_sim.specs.Standing.{watched_rows}
use Rattle.settle_trace.specs.Now.{now_of}
use Rattle.trace_report.specs.LastParts.{AreLastParts}
use Rattle.trace_report.specs.Report.{changes_part, inputs_part, conditions_at}
use Rattle.trace_report.proofs.writing.whole_text.Goals as goal

pub returns : goal.returns
returns c = record {
  text = λ events stands.
      let sim = c.args.sim.now in
      let plan = sim.net.plan in
      let until = c.args.until in
      let next : sim.net.next ≡ until + 1 =
      c.reached-reached.ensures.next c.requires.live c.requires.going ∙ ap first_after (c.reached-reached.ensures.reached ∙ c.requires.reached) ∙ suc-is until in
      let rows : c.changes.result.now ≡ rows_until plan events (suc until) =
      c.changes.ensures.changes ∙ stands.rows ∙ ap (λ (w : Watch). watched_rows w plan events (first_after sim.reached)) c.requires.watching
      ∙ ap (λ r. rows_until plan events (first_after r)) c.requires.reached in
      let head : c.put_changes.new.text ≡ changes_part plan (rows_until plan events (suc until)) =
      c.in_ok-put_changes.ensures.put
      ∙ ap (λ t. t ++ changes_part c.plan.result.now c.changes.result.now) c.new-text.ensures
      ∙ ap (λ p. changes_part p c.changes.result.now) (c.plan.ensures ∙ ap (λ (n : NetState). n.plan) c.net.ensures.net)
      ∙ ap (changes_part plan) rows in
      let inputs = c.in_ok-put_inputs.ensures.put events
      (subst (λ n. net.StandsFor n events (until + 1)) (sym c.net-2.ensures.net) (subst (net.StandsFor sim.net events) next stands.net)) in
      let end = c.in_ok-put_last_parts.ensures.put events
      (subst (λ n. net.StandsFor n events n.next) (sym c.net-3.ensures.net) stands.net) in (
        end.0,
        subst (λ t. AreLastParts plan events t end.0) (ap (λ t. t - 1) next ∙ less-is until)
            (subst (λ (n : NetState). AreLastParts n.plan events (now_of n) end.0) c.net-3.ensures.net end.1),
        end.2
            ∙ ap (λ t. t ++ end.0)
            (inputs
            ∙ ap (λ (n : NetState). c.put_changes.new.text ++ inputs_part n.plan (conditions_at n.plan events until)) c.net-2.ensures.net
            ∙ ap (λ t. t ++ inputs_part plan (conditions_at plan events until)) head),
      );
}
  where
    suc-is : (n : ℕ) → suc n ≡ n + 1
    suc-is n = omega arith

    less-is : (n : ℕ) → n + 1 - 1 ≡ n
    less-is n = omega arith
