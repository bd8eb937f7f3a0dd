use Rattle.std.proofs.Common.{◌≡◌, ◌∷◌, ◌++◌, ◌⊎◌, [], ℕ, true, sym, subst, refl, inl, arith}
use Rattle.std.specs.Prelude.{Some, slice_set}
use Rattle.sync_topo.specs.declared.input.InputId.TheVariants.{Line}
use Rattle.sync_topo.specs.declared.input.LineId.{LineId}
use Rattle.sync_topo.specs.Lines.{sender_of, numbers}
use Rattle.net_rules.specs.Walks.{Taken}
use Rattle.closed_walks.specs.Taking.{taken_in_list}
use Rattle.closed_walks.specs.Following.{Follows, IsPassed, is_met}
use Rattle.closed_walks.specs.private.Following.{IsOnTrace}
use Rattle.closed_walks.proofs.FollowLaws.{follows-more, met-then, trace-begins, trace-more, ends-at_loop, takes-on, ends-over}
use Rattle.closed_walks.proofs.following.follow.Goals as goal

pub loop-met-init : goal.loop-met-init
loop-met-init c =
    let empty : c.new-lines.result ≡ [] = c.new-lines.ensures in
    record {
      within = c.requires.element;
      follows = subst (λ ls. Follows c.args.plan.now (taken_in_list c.args.taken.now) c.args.from (numbers ls) c.args.from) (sym empty) refl;
      met = λ k is. inl is;
      trace = λ before marked. subst (λ ls. IsOnTrace c.args.plan.now (taken_in_list c.args.taken.now) before c.args.from c.args.met.now ls c.args.from) (sym empty)
          (trace-begins c.args.plan.now (taken_in_list c.args.taken.now) before c.args.from c.args.met.now marked);
    }

pub loop-met-preserved : goal.loop-met-preserved
loop-met-preserved c =
    let plan = c.args.plan.now in
    let taken : Taken = taken_in_list c.args.taken.now in
    let line : LineId = c.in-On.line in
    let more : c.push.new.self ≡ c.loop-met.lines ++ line ∷ [] = c.in_ok-push-in-On.ensures.ok in
    let to : c.from-at.result ≡ sender_of plan line.0 = c.from-at.ensures.sender in
    let takes : taken c.loop-met.at ≡ Some (Line line) = takes-on (taken c.loop-met.at) c.loop-met.at line c.next_of.result c.next_of.ensures c.in-On.is in
    record {
      within = c.from-at.ensures.within;
      follows = subst (λ ls. Follows plan taken c.args.from (numbers ls) c.from-at.result) (sym more)
          (subst (λ at. Follows plan taken c.args.from (numbers (c.loop-met.lines ++ line ∷ [])) at) (sym to)
          (follows-more plan taken c.args.from c.loop-met.lines c.loop-met.at line c.loop-met.invariant.follows takes));
      met = subst (λ ls. (k : ℕ) → is_met (slice_set c.loop-met.met c.loop-met.at true) k ≡ true → (is_met c.args.met.now k ≡ true) ⊎ IsPassed plan c.args.from (numbers ls) k) (sym more)
          (met-then plan taken c.args.from c.args.met.now c.loop-met.met c.loop-met.lines c.loop-met.at line c.loop-met.invariant.follows c.loop-met.invariant.met);
      trace = λ before marked.
          subst (λ ls. IsOnTrace plan taken before c.args.from (slice_set c.loop-met.met c.loop-met.at true) ls c.from-at.result) (sym more)
          (subst (λ at. IsOnTrace plan taken before c.args.from (slice_set c.loop-met.met c.loop-met.at true) (c.loop-met.lines ++ line ∷ []) at) (sym to)
          (trace-more plan taken before c.args.from c.loop-met.met c.loop-met.lines c.loop-met.at line
          (omega (arith, c.loop-met.invariant.within, c.requires.marks, c.loop-met.auto.met)) c.loop-met-test.true takes (c.loop-met.invariant.trace before marked)));
    }

pub returns-in-Over-clause-trace : goal.returns-in-Over-clause-trace
returns-in-Over-clause-trace c = λ before marked.
    ends-over c.args.plan.now (taken_in_list c.args.taken.now) before c.args.from c.loop-met.met c.loop-met.lines c.loop-met.at c.in-Over.end c.next_of.result
    (c.loop-met.invariant.trace before marked) c.loop-met-test.true c.next_of.ensures c.in-Over.is

pub returns-clause-trace : goal.returns-clause-trace
returns-clause-trace c = λ before marked.
    ends-at_loop c.args.plan.now (taken_in_list c.args.taken.now) before c.args.from c.loop-met.met c.loop-met.lines c.loop-met.at
    (c.loop-met.invariant.trace before marked) c.loop-met-test.false
