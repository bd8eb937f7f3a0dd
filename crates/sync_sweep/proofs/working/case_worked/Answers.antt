use Rattle.std.proofs.Common.{◌≡◌, ◌≤◌, ◌+◌, ◌-◌, ℕ, suc, true, List, length, ap, sym, subst, ◌∙◌, arith}
use Rattle.std.specs.Prelude.{IfSome}
use Rattle.sync_topo.specs.declared.event.Event.{Event}
use Rattle.sync_topo.specs.Topology.{Topology}
use Rattle.sync_topo.specs.Events.{IsEventList}
use Rattle.sync_topo.specs.WellFormed.{IsWellFormed}
use Rattle.net_rules.specs.Signals.{events_before}
use Rattle.event_times.specs.EventTimes.{AreTold, AreWithin}
use Rattle.sync_net.specs.NetState.{NetState}
use Rattle.sync_net.specs.Standing.{StandsFor}
use Rattle.sync_sweep.specs.private.Base.{AreCommonBefore}
use Rattle.sync_sweep.specs.private.Branching.{IsBranch, AreMarksOf}
use Rattle.sync_sweep.specs.private.ShownNow.{AreAlikeBut, AreShown}
use Rattle.sync_sweep.specs.private.Spells.{AreNone}
use Rattle.sync_sweep.proofs.TimedLemmas.{alike-but}
use Rattle.sync_sweep.specs.Cases.{merged}
use Rattle.sync_sweep.specs.OnWay.{before_own, IsOnWay}
use Rattle.sync_sweep.specs.Outcomes.{IsShown, IsBoundAfter, taken_by}
use Rattle.sync_sweep.specs.private.Working.{IsWorked}
use Rattle.sync_sweep.proofs.CaseLemmas.{last-early, before-late}
use Rattle.sync_sweep.proofs.EarlierLemmas.{told-before, common-before-end, none-late}
use Rattle.sync_sweep.proofs.WorkLemmas.{case-elements, common-before, stood}
use Rattle.sync_sweep.proofs.working.case_worked.Goals as goal

pub run_case-requires-clause-before : goal.run_case-requires-clause-before
run_case-requires-clause-before g c =
    let late = before-late c.as_slice-own.result.now c.args.study.now.from c.args.study.now.until (rw c.as_slice-own.ensures c.requires.case.later) c.requires.study.in_order in
    omega (arith, late, c.before_own-before.ensures.is)

pub run_case-requires-clause-events : goal.run_case-requires-clause-events
run_case-requires-clause-events g c =
    let plan = c.args.study.now.base.now.plan in
    let own : IsEventList plan c.as_slice-own.result.now = subst (IsEventList plan) (sym c.as_slice-own.ensures) c.requires.case.fits.list in
    subst (λ (n : NetState). AreWithin n.plan c.args.study.now.from c.args.study.now.until c.as_slice.result.now) (sym c.requires.branch.same)
    (subst (AreWithin plan c.args.study.now.from c.args.study.now.until) (sym c.as_slice.ensures) (c.in_ok-events.ensures.within plan c.requires.study.common own))

pub run_case-requires-clause-branch : goal.run_case-requires-clause-branch
run_case-requires-clause-branch g c =
    let net = c.args.branch.now.net in
    let base = c.args.study.now.base.now in
    let same = c.requires.branch.same in
    let plan : net.plan ≡ base.plan = ap (λ n. n.plan) same in
    let well : IsWellFormed base.plan = subst IsWellFormed c.plan.ensures c.elements-elements.ensures.well_formed in
    record {
      live = ap (λ n. n.spent) same ∙ c.requires.study.live;
      next = ap (λ n. n.next) same ∙ c.requires.study.begun;
      elements = omega (arith, case-elements base.plan c.args.case.now well c.requires.case.fits, ap (λ p. length p.elements) plan);
      marks = subst (λ p. AreMarksOf p c.args.branch.now.touched) (sym plan) c.requires.branch.marked.marks;
      shown = subst (λ n. AreShown n c.args.branch.now.shown) (sym same) c.requires.branch.shown;
      spells = subst (λ p. AreNone (length p.elements) c.args.branch.now.spells.items) (sym plan) c.requires.branch.spells;
    }

pub bound_after-bound-requires-clause-earlier : goal.bound_after-bound-requires-clause-earlier
bound_after-bound-requires-clause-earlier g c =
    let plan = c.args.study.now.base.now.plan in
    let own : IsEventList plan c.as_slice-own.result.now = subst (IsEventList plan) (sym c.as_slice-own.ensures) c.requires.case.fits.list in
    last-early (merged c.args.study.now.common.now c.as_slice-own.result.now) c.args.study.now.until c.run_last-last.result (c.run_last-last.ensures plan c.requires.study.common own)

pub outcome_of-requires-clause-elements : goal.outcome_of-requires-clause-elements
outcome_of-requires-clause-elements g c =
    let plan = c.args.study.now.base.now.plan in
    let same : c.run_case.new.branch.net.plan ≡ plan = c.in_ok-way.ensures.run.plan ∙ ap (λ n. n.plan) c.requires.branch.same in
    let well : IsWellFormed plan = subst IsWellFormed c.plan.ensures c.elements-elements.ensures.well_formed in
    omega (arith, case-elements plan c.args.case.now well c.requires.case.fits, ap (λ p. length p.elements) same)

pub outcome_of-requires-clause-some : goal.outcome_of-requires-clause-some
outcome_of-requires-clause-some g c =
    let plan = c.args.study.now.base.now.plan in
    let own_events = c.as_slice-own.result.now in
    let all = merged c.args.study.now.common.now own_events in
    let own : IsEventList plan own_events = subst (IsEventList plan) (sym c.as_slice-own.ensures) c.requires.case.fits.list in
    let told : AreTold plan all c.args.study.now.from c.args.study.now.until c.as_slice.result.now =
    subst (AreTold plan all c.args.study.now.from c.args.study.now.until) (sym c.as_slice.ensures) (c.in_ok-events.ensures.told plan c.requires.study.common own) in
    let before : AreCommonBefore plan c.args.study.now.common.now c.args.study.now.from all =
    common-before plan c.args.study.now.common.now own_events c.args.study.now.from c.requires.study.common own (rw c.as_slice-own.ensures c.requires.case.later) in
    let after = c.run_case.new.branch.net in
    let stands : StandsFor after all (c.args.study.now.until + 1) =
    stood c.args.study.now.base.now c.args.branch.now.net after c.args.study.now.common.now c.as_slice.result.now all c.args.study.now.from c.args.study.now.until c.requires.branch.same c.requires.study.stands
    c.in_ok-way.ensures.run.stands before told in
    (all, subst (StandsFor after all) (sym c.in_ok-way.ensures.run.ready.next) stands)

pub outcome_of-requires-clause-bound : goal.outcome_of-requires-clause-bound
outcome_of-requires-clause-bound g c =
    let same : c.run_case.new.branch.net.plan ≡ c.args.study.now.base.now.plan = c.in_ok-way.ensures.run.plan ∙ ap (λ n. n.plan) c.requires.branch.same in
    c.bound_after-bound.ensures c.run_case.new.branch.net.plan (subst (λ (p : Topology). IsBoundAfter p c.args.study.now.until c.args.study.now.bound) (sym same) c.requires.study.bound)

pub tell-requires-clause-elements : goal.tell-requires-clause-elements
tell-requires-clause-elements g c =
    let plan = c.args.study.now.base.now.plan in
    let same : c.run_case.new.branch.net.plan ≡ plan = c.in_ok-way.ensures.run.plan ∙ ap (λ n. n.plan) c.requires.branch.same in
    let well : IsWellFormed plan = subst IsWellFormed c.plan.ensures c.elements-elements.ensures.well_formed in
    omega (arith, case-elements plan c.args.case.now well c.requires.case.fits, ap (λ p. length p.elements) same)

pub returns-clause-worked : goal.returns-clause-worked
returns-clause-worked g c =
    let plan = c.args.study.now.base.now.plan in
    let until : ℕ = c.args.study.now.until in
    let own_events = c.as_slice-own.result.now in
    let all = merged c.args.study.now.common.now own_events in
    let own : IsEventList plan own_events = subst (IsEventList plan) (sym c.as_slice-own.ensures) c.requires.case.fits.list in
    let told : AreTold plan all c.args.study.now.from until c.as_slice.result.now =
    subst (AreTold plan all c.args.study.now.from until) (sym c.as_slice.ensures) (c.in_ok-events.ensures.told plan c.requires.study.common own) in
    let before : AreCommonBefore plan c.args.study.now.common.now c.args.study.now.from all =
    common-before plan c.args.study.now.common.now own_events c.args.study.now.from c.requires.study.common own (rw c.as_slice-own.ensures c.requires.case.later) in
    let net = c.run_case.new.branch.net in
    let stood_for : (list : List Event) → AreCommonBefore plan c.args.study.now.common.now c.args.study.now.from list → AreTold plan list c.args.study.now.from until c.as_slice.result.now → StandsFor net list net.next =
    λ list first are. subst (StandsFor net list) (sym c.in_ok-way.ensures.run.ready.next)
    (stood c.args.study.now.base.now c.args.branch.now.net net c.args.study.now.common.now c.as_slice.result.now list c.args.study.now.from until c.requires.branch.same c.requires.study.stands
    c.in_ok-way.ensures.run.stands first are) in
    let stands : StandsFor net all net.next = stood_for all before told in
    let early = events_before (suc until) all in
    let earlier : StandsFor net early net.next =
    stood_for early (common-before-end plan c.args.study.now.common.now c.args.study.now.from until all c.requires.study.in_order before) (told-before plan all c.args.study.now.from until c.as_slice.result.now told) in
    let same : net.plan ≡ plan = c.in_ok-way.ensures.run.plan ∙ ap (λ n. n.plan) c.requires.branch.same in
    let next : net.next ≡ until + 1 = c.in_ok-way.ensures.run.ready.next in
    let now : net.next - 1 ≡ until = omega (arith, next) in
    let marked : IsBranch c.args.study.now.base.now net c.run_case.new.branch.touched = c.in_ok-way.ensures.run.branch c.args.study.now.base.now c.requires.branch.marked in
    let outcome = c.in_ok-outcome.outcome in
    let last : ℕ = c.run_last-last.result in
    let is_last = c.run_last-last.ensures plan c.requires.study.common own in
    let shown : IsShown plan all until outcome =
    subst (λ (p : Topology). IsShown p all until outcome) same (subst (λ t. IsShown net.plan all t outcome) now (c.in_ok-outcome.ensures.shown all stands)) in
    let way : IsOnWay plan all (before_own own_events until) until c.in_ok-way.way =
    subst (λ t. IsOnWay plan all t until c.in_ok-way.way) c.before_own-before.ensures.is
    (subst (λ (n : NetState). IsOnWay n.plan all c.before_own-before.result until c.in_ok-way.way) c.requires.branch.same
    (c.in_ok-way.ensures.way all (subst (λ (n : NetState). AreTold n.plan all c.args.study.now.from until c.as_slice.result.now) (sym c.requires.branch.same) told)
    (subst (λ (n : NetState). StandsFor n all c.args.study.now.from) (sym c.requires.branch.same) (c.requires.study.stands all before)))) in
    subst (λ (events : List Event). IsWorked g.T.Timer.IsTold plan (merged c.args.study.now.common.now events) (before_own events until) until
    (record { outcome = outcome; timing = c.in_ok-timing.timing; way = c.in_ok-way.way })) c.as_slice-own.ensures
    (record {
      outcome = record {
        shown = shown;
        last = last;
        is_last = is_last;
        bound = subst (IsBoundAfter plan last) (sym c.in_ok-outcome.ensures.bound) (c.bound_after-bound.ensures plan c.requires.study.bound);
      };
      due = subst (λ t. IfSome outcome.bound (λ bound. bound ≤ t → outcome.settled ≡ true)) now (c.in_ok-outcome.ensures.due early earlier (none-late all until last is_last));
      timing = subst (λ (p : Topology). g.T.Timer.IsTold p (taken_by p all until) c.in_ok-timing.timing) same
          (subst (λ t. g.T.Timer.IsTold net.plan (taken_by net.plan all t) c.in_ok-timing.timing) now (c.in_ok-timing.ensures.told all stands));
      way = way;
    })

pub tell-requires-clause-alike : goal.tell-requires-clause-alike
tell-requires-clause-alike g c =
    let base = c.args.study.now.base.now in
    let net = c.run_case.new.branch.net in
    subst (λ places. AreAlikeBut places net base) (sym c.listed-places.ensures.listed)
    (alike-but base net c.run_case.new.branch.touched (c.in_ok-way.ensures.run.branch base c.requires.branch.marked) c.listed-places.ensures.all)
