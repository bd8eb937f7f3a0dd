use Rattle.std.proofs.Common.{◌≡◌, List, ap, sym, subst, ◌∙◌}
use Rattle.std.specs.List.{All}
use Rattle.sync_topo.specs.Topology.{Topology}
use Rattle.sync_topo.specs.Events.{IsCase, IsEventList}
use Rattle.sync_net.specs.NetState.{NetState}
use Rattle.sync_net.specs.Standing.{StandsFor}
use Rattle.event_sim.specs.SimState.{first_after}
use Rattle.sync_sweep.specs.Outcomes.{IsBoundAfter}
use Rattle.sync_sweep.specs.private.Base.{AreCommonBefore}
use Rattle.sync_sweep.proofs.sweeping.work_all.Goals as goal

pub in_chunks-requires-clause-study : goal.in_chunks-requires-clause-study
in_chunks-requires-clause-study g c κs within =
    let base = c.in_ok-sim.ensures.base in
    let sim = c.in_ok-sim.sim in
    let net = c.net.ensures.net in
    let plan : c.net.result.now.plan ≡ c.args.plan.now = ap (λ n. n.plan) net ∙ c.in_ok-sim.ensures.plan in
    let next : sim.net.next ≡ c.begin_of-from.result =
    c.reached-reached.ensures.next base.live base.going ∙ ap first_after c.reached-reached.ensures.reached ∙ base.reached in
    record {
      live = c.net.ensures.live base.live;
      begun = ap (λ n. n.next) net ∙ next;
      stands = λ all before.
          subst (λ (n : NetState). StandsFor n all c.begin_of-from.result) (sym net)
          (subst (λ t. StandsFor sim.net all t) next
          (base.stands all (subst (λ (n : NetState). AreCommonBefore n.plan c.args.common.now c.begin_of-from.result all) net before)).net);
      common = subst (λ (p : Topology). IsEventList p c.args.common.now) (sym plan) c.requires.common;
      in_order = c.begin_of-from.ensures.up_to;
      in_range = c.requires.in_range;
      bound = subst (λ (p : Topology). IsBoundAfter p c.args.until c.in_ok-bound.bound) (sym plan) c.in_ok-bound.ensures.bound;
    }

pub in_chunks-requires-clause-cases : goal.in_chunks-requires-clause-cases
in_chunks-requires-clause-cases g c κs within = λ k case inside.
    let plan : c.net.result.now.plan ≡ c.args.plan.now = ap (λ n. n.plan) c.net.ensures.net ∙ c.in_ok-sim.ensures.plan in
    record {
      fits = subst (λ (p : Topology). All (IsCase p) c.args.cases.now) (sym plan) c.requires.cases k case inside;
      later = c.begin_of-from.ensures.none k case inside;
    }
