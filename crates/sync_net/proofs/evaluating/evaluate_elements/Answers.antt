use Rattle.std.proofs.Common.{◌≡◌, ◌<◌, ◌+◌, ℕ, length, slice_index, take, nat_eq, List, arith, ap, subst, sym, false, ◌||◌, take_all}
use Rattle.std.specs.List.{list_any}
use Rattle.agenda.proofs.MarkedPlaces.{behind, not_before}
use Rattle.sync_net.specs.private.Stages.{is_out_of}
use Rattle.sync_net.proofs.StageLaws.{evaluated-next, can-step-still}
use Rattle.sync_net.proofs.evaluating.evaluate_elements.Goals as goal

pub evaluate-requires-clause-can_step : goal.evaluate-requires-clause-can_step
evaluate-requires-clause-can_step g c = λ other.
    let marked = c.args.active.now in
    let i : ℕ = c.loop-element.element-index in
    let items : List ℕ = c.listed-element-items.result.now in
    let same : items ≡ marked.listed = c.listed-element-items.ensures.listed in
    let inside : i < length marked.listed = omega (arith, c.loop-element-test.true, ap length same) in
    let place : slice_index items i ≡ slice_index marked.listed i = ap (λ xs. slice_index xs i) same in
    let within : slice_index items i < length c.args.elements.now =
    subst (λ k. k < length c.args.elements.now) (sym place) (omega (arith, c.listed-element-items.ensures.all.within i 0 inside, c.requires.marks)) in
    let fresh : list_any (nat_eq (slice_index items i)) (take i marked.listed) ≡ false =
    subst (λ k. list_any (nat_eq k) (take i marked.listed) ≡ false) (sym place) (not_before i marked.listed c.listed-element-items.ensures.all.apart inside) in
    can-step-still c.args.now (length c.args.elements.now) (slice_index items i) (is_out_of c.args.plan.now)
    (λ e. list_any (nat_eq e) (take i marked.listed)) _ _ other within fresh c.loop-element.invariant.evaluated
    (c.requires.can_step (slice_index items i) other within)

pub loop-element-preserved : goal.loop-element-preserved
loop-element-preserved g c =
    let marked = c.args.active.now in
    let i : ℕ = c.loop-element.element-index in
    let items : List ℕ = c.listed-element-items.result.now in
    let same : items ≡ marked.listed = c.listed-element-items.ensures.listed in
    let inside : i < length marked.listed = omega (arith, c.loop-element-test.true, ap length same) in
    let place : slice_index items i ≡ slice_index marked.listed i = ap (λ xs. slice_index xs i) same in
    let fresh : list_any (nat_eq (slice_index items i)) (take i marked.listed) ≡ false =
    subst (λ k. list_any (nat_eq k) (take i marked.listed) ≡ false) (sym place) (not_before i marked.listed c.listed-element-items.ensures.all.apart inside) in
    record {
      steps = omega (arith, c.in_ok-evaluate.ensures.ticks, c.loop-element.invariant.steps);
      evaluated = evaluated-next c.args.now (length c.args.elements.now) (length c.loop-element.elements) (slice_index items i) (is_out_of c.args.plan.now)
          (λ e. list_any (nat_eq e) (take i marked.listed)) (λ e. list_any (nat_eq e) (take (i + 1) marked.listed)) _ _ _ fresh
          (λ e. subst (λ k. list_any (nat_eq e) (take (i + 1) marked.listed) ≡ (list_any (nat_eq e) (take i marked.listed) || nat_eq e k)) (sym place) (behind e i marked.listed inside))
          c.loop-element.invariant.evaluated
          c.loop-element.invariant.evaluated.elements_count c.in_ok-evaluate.ensures.evaluated;
    }

pub returns-clause-evaluated : goal.returns-clause-evaluated
returns-clause-evaluated g c =
    let marked = c.args.active.now in
    let i : ℕ = c.loop-element.element-index in
    let all : take i marked.listed ≡ marked.listed = take_all i marked.listed (omega (arith, c.loop-element-test.false, ap length c.listed-element-items.ensures.listed)) in
    rw all at c.loop-element.invariant.evaluated
