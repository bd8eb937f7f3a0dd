use Rattle.std.proofs.Common.{◌≡◌, ◌+◌, ◌-◌, sym, subst, ◌∙◌, arith}
use Rattle.sync_topo.specs.Topology.{Topology}
use Rattle.event_times.specs.EventTimes.{AreTold, AreWithin}
use Rattle.sync_sweep.specs.OnWay.{IsOnWay}
use Rattle.sync_sweep.proofs.CaseLemmas.{told-first, told-rest}
use Rattle.sync_sweep.proofs.running.run_case.Goals as goal

pub overflow_add-before : goal.overflow_add-before
overflow_add-before c = omega (arith, c.requires.in_order, c.requires.in_range)

pub run_to-requires-clause-in_range : goal.run_to-requires-clause-in_range
run_to-requires-clause-in_range c = omega (arith, c.requires.in_order, c.requires.in_range)

pub run_to-requires-clause-events : goal.run_to-requires-clause-events
run_to-requires-clause-events c =
    let plan : Topology = c.args.branch.now.net.plan in
    c.events_from-first.ensures.within plan c.args.before (c.events_until.ensures.within plan c.requires.events.list)

pub run_to-requires-2-clause-events : goal.run_to-requires-2-clause-events
run_to-requires-2-clause-events c =
    let plan : Topology = c.args.branch.now.net.plan in
    subst (λ (p : Topology). AreWithin p (c.args.before + 1) c.args.until c.events_from-rest.result.now) (sym c.in_ok-_first.ensures.run.plan)
    (c.events_from-rest.ensures.within plan c.args.until
    (record { list = c.requires.events.list; later = λ k other inside. omega arith; up_to = c.requires.events.up_to }))

pub returns-clause-run : goal.returns-clause-run
returns-clause-run c =
    let plan : Topology = c.args.branch.now.net.plan in
    let first = c.in_ok-_first.ensures.run in
    let last = c.in_ok-way.ensures.run in
    record {
      plan = last.plan ∙ first.plan;
      ready = last.ready;
      stands = λ all told stands.
          let before = told-first plan all c.args.told.now c.events_from-first.result.now c.events_until.result.now c.args.from c.args.before c.args.until c.requires.in_order told
          (c.events_until.ensures.told plan c.requires.events.list) c.events_from-first.ensures.same in
          let rest = told-rest plan all c.args.told.now c.events_from-rest.result.now c.args.from c.args.before c.args.until c.requires.before told c.events_from-rest.ensures.same in
          last.stands all (subst (λ (p : Topology). AreTold p all (c.args.before + 1) c.args.until c.events_from-rest.result.now) (sym first.plan) rest)
          (first.stands all before stands);
      branch = λ base is. last.branch base (first.branch base is);
    }

pub returns-clause-way : goal.returns-clause-way
returns-clause-way c = λ all told stands.
    let plan : Topology = c.args.branch.now.net.plan in
    let first = told-first plan all c.args.told.now c.events_from-first.result.now c.events_until.result.now c.args.from c.args.before c.args.until c.requires.in_order told
    (c.events_until.ensures.told plan c.requires.events.list) c.events_from-first.ensures.same in
    let rest = told-rest plan all c.args.told.now c.events_from-rest.result.now c.args.from c.args.before c.args.until c.requires.before told c.events_from-rest.ensures.same in
    let last : c.args.before + 1 - 1 ≡ c.args.before = omega arith in
    subst (λ (p : Topology). IsOnWay p all c.args.before c.args.until c.in_ok-way.way) c.in_ok-_first.ensures.run.plan
    (subst (λ t. IsOnWay c.run_to.new.branch.net.plan all t c.args.until c.in_ok-way.way) last
    (c.in_ok-way.ensures.way all (omega arith)
    (subst (λ (p : Topology). AreTold p all (c.args.before + 1) c.args.until c.events_from-rest.result.now) (sym c.in_ok-_first.ensures.run.plan) rest)
    (c.in_ok-_first.ensures.run.stands all first stands)))
