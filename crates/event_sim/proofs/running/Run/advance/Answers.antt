use Rattle.std.proofs.Common.{◌≡◌, ◌<◌, suc, List, sym, subst, ◌∙◌, arith}
use Rattle.std.specs.List.{All}
use Rattle.sync_topo.specs.declared.event.Event.{Event}
use Rattle.sync_topo.specs.Events.{Fits}
use Rattle.event_times.specs.EventTimes.{AreTold, AreNext}
use Rattle.event_times.proofs.EventTimes.{told-itself}
use Rattle.event_sim.specs.private.Running.{RunStands, IsCut, IsAfterTurn, IsBound}
use Rattle.event_sim.proofs.RunLaws.{the-turn, turned, kept-more}
use Rattle.event_sim.proofs.running.Run.advance.Given.{Over}
use Rattle.event_sim.proofs.running.Run.advance.Goals as goal
use Rattle.event_sim.proofs.running.Run.advance.Goals.{In-Some, In_ok-take_turn}

-- the events that come next, of those that are given
next : (g : Over) (c : In-Some g) → AreNext c.args.self.now.net.plan c.args.events.now c.loop-now.moments.next c.in-Some.now c.in-Some.here.now
next g c =
    let net = c.args.self.now.net in
    c.in-Some.ensures.here net.plan c.args.events.now
    (c.loop-now.invariant.ahead c.args.events.now (told-itself net.plan net.next c.args.until c.args.events.now c.requires.within))

pub take_turn-requires-clause-fit : goal.take_turn-requires-clause-fit
take_turn-requires-clause-fit g c = subst (λ p. All (Fits p) c.in-Some.here.now) (sym c.loop-now.invariant.kept.plan) (next g (goal.at.take_turn-requires-clause-fit g c).In-Some).fit

pub take_turn-requires-clause-here : goal.take_turn-requires-clause-here
take_turn-requires-clause-here g c = (next g (goal.at.take_turn-requires-clause-here g c).In-Some).at

-- what the step makes of the run, and what all was done costs
after : (g : Over) (c : In_ok-take_turn g) → (all : List Event) → AreTold c.args.self.now.net.plan all c.args.self.now.net.next c.args.until c.args.events.now
    → RunStands c.args.self.now.watch c.args.self.now.net c.args.self.now.changes.items all c.args.self.now.net.next
    → IsAfterTurn c.in_ok-take_turn.field-0 c.take_turn.new.self.watch c.take_turn.new.self.net c.take_turn.new.self.changes.items all c.in-Some.now
    × IsBound all c.args.until c.args.self.now.net c.take_turn.new.self.net c.args.steps.now c.take_turn.new.steps
after g c all told stood =
    let inv = c.loop-now.invariant in
    let step = c.in_ok-take_turn.ensures in
    let first = c.args.self.now in
    let run = c.loop-now.self in
    let run_then = c.take_turn.new.self in
    let ahead = inv.ahead all told in
    let turn = the-turn run.net first.net.plan c.loop-now.moments c.due.result c.in-Some.now c.in-Some.here.now all inv.kept.plan inv.next
    c.in-Some.ensures.now ahead (c.in-Some.ensures.here first.net.plan all ahead) c.due.ensures.gap c.due.ensures.busy in
    subst (λ until. IsAfterTurn c.in_ok-take_turn.field-0 run_then.watch run_then.net run_then.changes.items all c.in-Some.now
    × IsBound all until first.net run_then.net c.args.steps.now c.take_turn.new.steps) inv.until
    (turned (record { stands = c.elements_law.ensures.stands }) run c.loop-now.moments c.due.result c.in-Some.now c.in-Some.here.now all turn
    first run_then c.in_ok-take_turn.field-0 c.args.steps.now c.loop-now.steps c.take_turn.new.steps inv.open_still inv.kept inv.from (inv.stands all told stood)
    (subst (λ until. IsBound all until first.net run.net c.args.steps.now c.loop-now.steps) (sym inv.until) (inv.bound all told stood))
    step.next step.later_steps step.noted step.cost)

pub returns-then-not-branch-clause-cut : goal.returns-then-not-branch-clause-cut
returns-then-not-branch-clause-cut g c = λ all told stood.
    let run = c.take_turn.new.self in
    let cut : IsCut run.watch run.net run.changes.items all c.in-Some.now =
    subst (λ fits. IsAfterTurn fits run.watch run.net run.changes.items all c.in-Some.now) c.if-not-branch.true (after g (goal.at.returns-then-not-branch-clause-cut g c).In_ok-take_turn all told stood).0 in
    let late : 0 < c.in-Some.now = c.in_ok-take_turn.ensures.late c.if-not-branch.true in
    let same : c.in-Some.now ≡ suc c.saturating_sub.result = omega (arith, late, c.saturating_sub.ensures) in
    subst (IsCut run.watch run.net run.changes.items all) same cut

pub returns-then-not-branch-clause-cost : goal.returns-then-not-branch-clause-cost
returns-then-not-branch-clause-cost g c = λ all told stood. (after g (goal.at.returns-then-not-branch-clause-cost g c).In_ok-take_turn all told stood).1

pub loop-now-preserved : goal.loop-now-preserved
loop-now-preserved g c =
    let inv = c.loop-now.invariant in
    let step = c.in_ok-take_turn.ensures in
    let first = c.args.self.now in
    let run_then = c.take_turn.new.self in
    let made = after g (goal.at.loop-now-preserved g c).In_ok-take_turn in
    record {
      open_still = step.going c.if-not-branch.false;
      of_plan = step.of_plan;
      kept = kept-more first c.loop-now.self run_then inv.kept step.kept;
      next = c.in-Some.ensures.next ∙ sym step.next;
      until = c.next_moment.ensures.until ∙ inv.until;
      from = (let later = c.in-Some.ensures.now.later in omega (arith, inv.from, inv.next, later, step.next));
      ahead = λ all told. c.in-Some.ensures.ahead first.net.plan all (inv.ahead all told);
      stands = λ all told stood.
          let noted : RunStands run_then.watch run_then.net run_then.changes.items all (suc c.in-Some.now) =
          subst (λ fits. IsAfterTurn fits run_then.watch run_then.net run_then.changes.items all c.in-Some.now) c.if-not-branch.false (made all told stood).0 in
          let next_then : suc c.in-Some.now ≡ run_then.net.next = omega (arith, step.next) in
          subst (RunStands run_then.watch run_then.net run_then.changes.items all) next_then noted;
      bound = λ all told stood. (made all told stood).1;
    }
