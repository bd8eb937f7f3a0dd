use Rattle.std.proofs.Common.{◌≡◌, suc, subst, arith}
use Rattle.event_times.proofs.EventTimes.{told-itself}
use Rattle.prio_mode.specs.private.Running.{HasRun}
use Rattle.prio_mode.proofs.Advancing.{run-later, dues-from, on-way}
use Rattle.prio_mode.proofs.running.PriorityRun.advance.Goals as goal

pub next_moment-requires : goal.next_moment-requires
next_moment-requires c =
    record {
      due = c.first_due.ensures.from c.loop-now.moments.next
          (dues-from c.args.plan.now c.loop-now.moments.next c.loop-now.self c.loop-now.invariant.run_is);
    }

pub turn-requires-clause-run : goal.turn-requires-clause-run
turn-requires-clause-run c =
    let time = c.in-Some.ensures.now in
    run-later c.args.plan.now c.loop-now.moments.next c.in-Some.now c.loop-now.self
    c.loop-now.invariant.run_is time.later time.first
    (c.first_due.ensures.until c.in-Some.now time.until_due)

pub turn-requires-clause-fit : goal.turn-requires-clause-fit
turn-requires-clause-fit c =
    (c.in-Some.ensures.here c.args.plan.now c.args.events.now
    (c.loop-now.invariant.ahead c.args.events.now
    (told-itself c.args.plan.now 0 c.args.until c.args.events.now c.requires.within))).fit

pub loop-now-preserved : goal.loop-now-preserved
loop-now-preserved c =
    let time = c.in-Some.ensures.now in
    on-way c.args.plan.now c.args.events.now c.in-Some.here.now c.loop-now.moments
    c.next_moment.new.self c.args.until c.in-Some.now c.first_due.result
    c.args.self.now c.loop-now.self c.turn.new.self c.args.text.now c.loop-now.text
    c.turn.new.text
    c.loop-now.invariant time (c.first_due.ensures.until c.in-Some.now time.until_due)
    (c.in-Some.ensures.here c.args.plan.now) (c.in-Some.ensures.ahead c.args.plan.now)
    c.in-Some.ensures.next c.in-Some.ensures.until c.in_ok-turn.ensures.run c.in_ok-turn.ensures.stands

pub returns-clause-stands : goal.returns-clause-stands
returns-clause-stands c = λ all told stood.
    let same : c.loop-now.moments.next ≡ suc c.args.until =
    omega (arith, c.in_default.ensures.end, c.loop-now.invariant.until_same) in
    subst (λ n. HasRun c.args.plan.now all n c.loop-now.self c.args.text.now c.loop-now.text) same
    (c.loop-now.invariant.stands all told stood)
