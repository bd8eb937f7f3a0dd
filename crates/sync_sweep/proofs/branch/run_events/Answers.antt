use Rattle.std.proofs.Common.{◌≡◌, ◌+◌, ℕ, List, length, ap, sym, subst, ◌∙◌, arith}
use Rattle.std.specs.List.{All}
use Rattle.sync_topo.specs.declared.event.Event.{Event}
use Rattle.sync_topo.specs.Topology.{Topology}
use Rattle.sync_topo.specs.Events.{Fits}
use Rattle.event_times.proofs.EventTimes.{sooner, told-itself}
use Rattle.sync_net.specs.Standing.{StandsFor}
use Rattle.sync_net.specs.Evaluated.{IsContinued}
use Rattle.sync_sweep.specs.private.Spells.{AreWorseNow, AreCountedSo}
use Rattle.sync_sweep.proofs.SpellLemmas.{counted-step}
use Rattle.sync_sweep.proofs.Told.{continued}
use Rattle.sync_sweep.proofs.branch.run_events.Goals as goal

pub step-requires-clause-fit : goal.step-requires-clause-fit
step-requires-clause-fit g c =
    let plan : Topology = c.args.branch.now.net.plan in
    subst (λ (p : Topology). All (Fits p) c.in-Some.here.now) (sym c.loop-now.invariant.plan)
    (c.in-Some.ensures.here plan c.args.events.now
    (c.loop-now.invariant.ahead c.args.events.now (told-itself plan c.args.from c.args.until c.args.events.now c.requires.events))).fit

pub step-requires-clause-here : goal.step-requires-clause-here
step-requires-clause-here g c =
    let plan : Topology = c.args.branch.now.net.plan in
    (c.in-Some.ensures.here plan c.args.events.now
    (c.loop-now.invariant.ahead c.args.events.now (told-itself plan c.args.from c.args.until c.args.events.now c.requires.events))).at

pub loop-now-preserved : goal.loop-now-preserved
loop-now-preserved g c =
    let plan : Topology = c.args.branch.now.net.plan in
    let now : ℕ = c.in-Some.now in
    let here : List Event = c.in-Some.here.now in
    let next : ℕ = c.loop-now.moments.next in
    let inv = c.loop-now.invariant in
    let is = c.in-Some.ensures.now in
    let next_then : now + 1 ≡ c.next_moment.new.self.next = sym c.in-Some.ensures.next in
    record {
      plan = c.step.ensures.plan ∙ inv.plan;
      marks = c.in_ok-step.ensures.marks;
      shown = c.step.ensures.shown ∙ inv.shown;
      live = c.in_ok-step.ensures.live;
      next = c.in_ok-step.ensures.next ∙ next_then;
      until = c.next_moment.ensures.until ∙ inv.until;
      ahead = λ all told. c.in-Some.ensures.ahead plan all (inv.ahead all told);
      stands = λ all told stands. subst (StandsFor c.step.new.branch.net all) next_then
          (c.in_ok-step.ensures.stands all next
          (continued plan c.loop-now.branch.net.plan all next now here inv.plan is.later (c.in-Some.ensures.here plan all (inv.ahead all told)))
          (inv.stands all told stands));
      spells = c.step.ensures.spells ∙ inv.spells;
      unmarked = λ none. c.in_ok-step.ensures.unmarked (inv.unmarked none);
      counted = λ all before told stands begun.
          let stood : StandsFor c.loop-now.branch.net all next = inv.stands all told stands in
          let on : IsContinued c.loop-now.branch.net.plan all next now here =
          continued plan c.loop-now.branch.net.plan all next now here inv.plan is.later (c.in-Some.ensures.here plan all (inv.ahead all told)) in
          let levels : c.loop-now.branch.shown.levels ≡ c.args.branch.now.shown.levels = ap (λ s. s.levels) inv.shown in
          let was : AreCountedSo c.loop-now.branch.net c.args.branch.now.shown.levels all before next c.loop-now.branch.spells.items =
          inv.counted all before told stands begun in
          subst (λ n. AreCountedSo c.step.new.branch.net c.args.branch.now.shown.levels all before n c.step.new.branch.spells.items) next_then
          (counted-step c.elements_law.ensures.stands c.loop-now.branch.net c.step.new.branch.net c.args.branch.now.shown.levels all before next now
          c.loop-now.branch.spells.items c.step.new.branch.spells.items c.step.ensures.plan is.later
          (λ n low high. c.due.ensures.gap all next n stood low
          (λ none. absurd (omega (arith, none, inv.next, was.later)))
          (λ t from before_it. on.none t from (omega (arith, before_it, high))) (sooner c.due.result n now high is.until_due))
          (c.in_ok-step.ensures.stands all next on stood)
          (inv.spells ∙ c.requires.spells ∙ ap (λ p. length p.elements) (sym inv.plan))
          c.in_ok-step.ensures.noted
          (λ worse. subst (λ list. AreWorseNow c.step.new.branch.net list c.step.new.branch.spells.items) levels
          (c.in_ok-step.ensures.worse (subst (λ list. AreWorseNow c.loop-now.branch.net list c.loop-now.branch.spells.items) (sym levels) worse)))
          was);
      branch = λ base is. c.in_ok-step.ensures.branch base (inv.branch base is);
    }

pub step-requires-clause-levels : goal.step-requires-clause-levels
step-requires-clause-levels g c =
    ap (λ s. length s.levels) c.loop-now.invariant.shown ∙ c.requires.levels ∙ ap (λ p. length p.elements) (sym c.loop-now.invariant.plan)

pub step-requires-clause-spells : goal.step-requires-clause-spells
step-requires-clause-spells g c = c.loop-now.invariant.spells ∙ c.requires.spells ∙ ap (λ p. length p.elements) (sym c.loop-now.invariant.plan)

pub returns-clause-counted : goal.returns-clause-counted
returns-clause-counted g c = λ all before told stands begun.
    let end : c.loop-now.moments.next ≡ c.args.until + 1 = omega (arith, c.in_default.ensures.end, c.loop-now.invariant.until) in
    subst (λ n. AreCountedSo c.loop-now.branch.net c.args.branch.now.shown.levels all before n c.loop-now.branch.spells.items) end
    (c.loop-now.invariant.counted all before told stands begun)
