use Rattle.std.proofs.Common.{◌++◌, ◌∙◌, ap, sym, subst}
use Rattle.std.specs.Prelude.{codes}
use Rattle.closed_walks.specs.Taking.{AreTaken}
use Rattle.prio_mode.specs.private.Running.{inputs_shown}
use Rattle.prio_mode.proofs.Reporting.{take-own, reported}
use Rattle.prio_mode.proofs.simulating.prio_sim.Goals as goal

pub advance-requires-clause-within : goal.advance-requires-clause-within
advance-requires-clause-within c = c.events_until-told.ensures.within c.args.plan.now
    (record { fit = c.requires.valid.fit; in_order = c.requires.valid.in_order })

pub put_loops-requires : goal.put_loops-requires
put_loops-requires c = record {
  taken =
      subst (λ shown. AreTaken c.args.plan.now (inputs_shown shown)) (sym c.as_slice.ensures.value)
      (take-own c.args.plan.now c.args.events.now c.args.until c.advance.new.self
      c.elements-elements.ensures.well_formed c.in_ok-advance.ensures.run
      (c.in_ok-advance.ensures.stands c.args.events.now
      (c.events_until-told.ensures.told c.args.plan.now
      (record { fit = c.requires.valid.fit; in_order = c.requires.valid.in_order }))
      (c.in_ok-run.ensures.stands c.args.events.now)).0);
}

pub returns : goal.returns
returns c =
    let stands = c.in_ok-advance.ensures.stands c.args.events.now
    (c.events_until-told.ensures.told c.args.plan.now
    (record { fit = c.requires.valid.fit; in_order = c.requires.valid.in_order }))
    (c.in_ok-run.ensures.stands c.args.events.now) in
    reported c.args.plan.now c.args.events.now c.args.until c.advance.new.self c.elements-elements.ensures.well_formed
    c.in_ok-advance.ensures.run stands.0
    c.as_slice.result.now c.put.new.self c.advance.new.text c.put-2.new.self c.put_loops.new.text c.as_slice.ensures.value
    (c.in_ok-put.ensures.ok ∙ ap (λ front. front ++ codes "changes\n") c.new-text.ensures) stands.1
    c.in_ok-put-2.ensures.ok c.in_ok-put_loops.ensures
