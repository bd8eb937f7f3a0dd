use Rattle.std.proofs.Common.{◌≡◌, List, suc, sym, subst, ap, ◌∙◌}
use Rattle.std.proofs.lemmas.Result.{IfOk-weaker}
use Rattle.sync_net.specs.NetState.{NetState}
use Rattle.sync_net.specs.Standing.{StandsFor}
use Rattle.sync_topo.specs.declared.event.Event.{Event}
use Rattle.event_times.specs.EventTimes.{AreTold, AreWithin}
use Rattle.event_sim.proofs.Reached.{unwatched}
use Rattle.inspection.specs.Inspection.{inspection}
use Rattle.inspection.proofs.inspecting.inspect.Goals as goal

pub text_of-requires : goal.text_of-requires
text_of-requires c =
    let run = c.in_ok-sim.ensures.run in
    let plan = ap (λ (n : NetState). n.plan) c.net.ensures.net ∙ run.of_plan in
    record {
      live = c.net.ensures.live run.live;
      within = subst (λ p. AreWithin p 0 c.args.at c.events_until-told.result.now) (sym plan) (c.events_until-told.ensures.within c.args.plan.now c.requires.events);
    }

pub returns : goal.returns
returns c =
    let run = c.in_ok-sim.ensures.run in
    let sim = c.in_ok-sim.sim in
    let events = c.args.events.now in
    let told = c.events_until-told.ensures.told c.args.plan.now c.requires.events in
    let plan = ap (λ (n : NetState). n.plan) c.net.ensures.net ∙ run.of_plan in
    let next = (unwatched c.args.plan.now events c.args.at sim c.in_ok-sim.field-0-1 run).2 in
    record {
      text = IfOk-weaker c.text_of.result
          (λ text. (all : List Event) → StandsFor c.net.result.now all (suc c.args.at) → AreTold c.net.result.now.plan all 0 c.args.at c.events_until-told.result.now
          → text ≡ inspection c.net.result.now.plan all c.args.at)
          (λ text. text ≡ inspection c.args.plan.now events c.args.at)
          (λ text is.
          is events (subst (λ n. StandsFor n events (suc c.args.at)) (sym c.net.ensures.net) (subst (StandsFor sim.net events) next run.stands.net))
          (subst (λ p. AreTold p events 0 c.args.at c.events_until-told.result.now) (sym plan) told)
          ∙ ap (λ p. inspection p events c.args.at) plan) c.text_of.ensures.text;
    }
